-- The least of some numbers, and what it says of all of them.
use Rattle.std.proofs.Common.{◌≡◌, ℕ, ◌-◌, ◌^◌, ◌≤◌, min, Bool, true, false, cond, ◌&&◌, inl, inr, List, [], ◌∷◌, filter, Option, Some, None, Ok, Err, refl, sym, ap, subst, ◌∙◌, arith}
use Rattle.std.specs.Prelude.{nat_le, nat_eq}
use Rattle.std.proofs.lemmas.Bool.{and_parts, eq-eqb, eqb-true, cases_lt, cases_Bool, or_cases, or_left, or_right, le-leb, leb-true}
use Rattle.std.proofs.Math.Bool.{and-false}
use Rattle.cpu_lists.specs.declared.fault.CpuFault.TheVariants.{NotACpu}
use Rattle.cpu_lists.specs.Sets.{is_among, least, lesser, answer_of, judged}
use Rattle.cpu_lists.specs.Collected.{IsLeastFrom}

-- the least is one of them, and none is below it
pub record IsLeast (numbers : List ℕ) (n : ℕ) : Type 0 where
  pub among : is_among numbers n ≡ true
  pub lowest : (k : ℕ) → is_among numbers k ≡ true → n ≤ k

-- what the least of a list is
abbrev pub Tells : List ℕ → Option ℕ → Type 0
Tells numbers None = (k : ℕ) → is_among numbers k ≡ false
Tells numbers (Some n) = IsLeast numbers n

-- one number more in front
IsLeast-lesser : (n : ℕ) (ns : List ℕ) (o : Option ℕ) → Tells ns o → IsLeast (n ∷ ns) (lesser n o)
IsLeast-lesser n ns None none = record {
  among = rw (eq-eqb n n refl) refl;
  lowest = λ k h. elim (or_cases (nat_eq k n) (is_among ns k) h) [
    | inl e ↦ omega (arith, eqb-true k n e)
    | inr e ↦ (let no = none k in absurd cc)
  ];
}
IsLeast-lesser n ns (Some m) h = record {
  among = elim (cases_lt m n) [
    | inl lt ↦ (let e : min n m ≡ m = omega arith in subst (λ (x : ℕ). is_among (n ∷ ns) x ≡ true) (sym e) (or_right (nat_eq m n) (is_among ns m) h.among))
    | inr le ↦ (let e : min n m ≡ n = omega arith in subst (λ (x : ℕ). is_among (n ∷ ns) x ≡ true) (sym e) (or_left (nat_eq n n) (is_among ns n) (eq-eqb n n refl)))
  ];
  lowest = λ k among. elim (or_cases (nat_eq k n) (is_among ns k) among) [
    | inl e ↦ omega (arith, eqb-true k n e)
    | inr e ↦ omega (arith, h.lowest k e)
  ];
}

-- the least of some numbers is among them, and none is less
pub Tells-least : (numbers : List ℕ) → Tells numbers (least numbers)
Tells-least [] = λ k. refl
Tells-least (n ∷ ns) = IsLeast-lesser n ns (least ns) (Tells-least ns)

-- a number among those that pass a test
pub is_among-filter : (p : ℕ → Bool) (numbers : List ℕ) (k : ℕ) → is_among (filter p numbers) k ≡ (p k && is_among numbers k)
is_among-filter p [] k = sym (and-false (p k))
is_among-filter p (n ∷ ns) k = elim (cases_Bool (nat_eq k n)) [
  | inl same ↦ rw same (at_it (p n) (p k) (ap p (eqb-true k n same)) same (is_among-filter p ns k))
  | inr away ↦ rw away (not_it (p n) (p k) away (is_among-filter p ns k))
]
  where
    at_it : (a b : Bool) → b ≡ a → nat_eq k n ≡ true → is_among (filter p ns) k ≡ (b && is_among ns k) → is_among (cond a (n ∷ filter p ns) (filter p ns)) k ≡ (b && true)
    at_it true true e same rest = rw same refl
    at_it true false e same rest = absurd cc
    at_it false true e same rest = absurd cc
    at_it false false e same rest = rest

    not_it : (a b : Bool) → nat_eq k n ≡ false → is_among (filter p ns) k ≡ (b && is_among ns k) → is_among (cond a (n ∷ filter p ns) (filter p ns)) k ≡ (b && is_among ns k)
    not_it true b away rest = rw away rest
    not_it false b away rest = rest

-- ---- the least that is no CPU

-- the least from a bound on
pub least-some : (from n : ℕ) (numbers : List ℕ) → IsLeastFrom from (is_among numbers) n → least (filter (nat_le from) numbers) ≡ Some n
least-some from n numbers is = settled (least (filter (nat_le from) numbers)) (Tells-least (filter (nat_le from) numbers))
  where
    there : (k : ℕ) → is_among (filter (nat_le from) numbers) k ≡ (nat_le from k && is_among numbers k)
    there k = is_among-filter (nat_le from) numbers k

    here : is_among (filter (nat_le from) numbers) n ≡ true
    here = there n ∙ rw (le-leb from n is.within, is.passes) refl

    settled : (o : Option ℕ) → Tells (filter (nat_le from) numbers) o → o ≡ Some n
    settled None none = (let fails = none n in let holds = here in absurd cc)
    settled (Some m) tells = ap Some (same (and_parts (nat_le from m) (is_among numbers m) (sym (there m) ∙ tells.among)))
      where
        same : (nat_le from m ≡ true) × (is_among numbers m ≡ true) → m ≡ n
        same both = elim (cases_lt m n) [
          | inl lt ↦ (let no = is.before m (leb-true from m both.0) lt in absurd cc)
          | inr le ↦ omega (arith, tells.lowest n here)
        ]

-- no number from a bound on
pub least-none : (from : ℕ) (numbers : List ℕ) → ((k : ℕ) → from ≤ k → is_among numbers k ≡ false) → least (filter (nat_le from) numbers) ≡ None
least-none from numbers none = settled (least (filter (nat_le from) numbers)) (Tells-least (filter (nat_le from) numbers))
  where
    settled : (o : Option ℕ) → Tells (filter (nat_le from) numbers) o → o ≡ None
    settled None tells = refl
    settled (Some m) tells = absurd (no_such (nat_le from m) refl (sym (is_among-filter (nat_le from) numbers m) ∙ tells.among))
      where
        no_such : (b : Bool) → b ≡ nat_le from m → (b && is_among numbers m) ≡ true → ⊥
        no_such true e h = (let no = none m (leb-true from m (sym e)) in cc)
        no_such false e h = cc

-- ---- the answers

-- the least number that is no CPU is named
pub answer_of-stranger : (cpus n : ℕ) (numbers : List ℕ) → IsLeastFrom cpus (is_among numbers) n → answer_of cpus (Some numbers) ≡ Err (NotACpu (min n (2 ^ 64 - 1)))
unfolding answer_of
answer_of-stranger cpus n numbers is = ap (judged numbers) (least-some cpus n numbers is)

-- all numbers are CPUs
pub answer_of-all : (cpus : ℕ) (numbers : List ℕ) → ((k : ℕ) → cpus ≤ k → is_among numbers k ≡ false) → answer_of cpus (Some numbers) ≡ Ok numbers
unfolding answer_of
answer_of-all cpus numbers none = ap (judged numbers) (least-none cpus numbers none)
