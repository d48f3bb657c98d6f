-- Which numbers the lists of the definitions hold.
use Rattle.std.proofs.Common.{◌≡◌, ℕ, zero, suc, ◌+◌, ◌-◌, ◌*◌, ◌^◌, ◌<◌, ◌≤◌, Bool, true, false, cond, ◌||◌, inl, inr, List, [], ◌∷◌, ◌++◌, length, Option, Some, None, refl, sym, ap, subst, ◌∙◌, arith, lt_of_lt_of_le}
use Rattle.std.proofs.Math.Bool.{or-false, or-true, and-true}
use Rattle.std.specs.Prelude.{nat_eq, MatchOption}
use Rattle.std.specs.Bool.{⊤}
use Rattle.std.specs.Char.{is_digit, digit_value}
use Rattle.std.specs.Str.Parse.{digits_value, AllDigits}
use Rattle.std.specs.List.{list_all, range_with_len, flat_map, AllByRecursion}
use Rattle.std.specs.Int.Digits.{AllBelowBase}
use Rattle.std.proofs.Math.Nat.{pow-le-pow_right, pow-suc}
use Rattle.std.proofs.lemmas.Bool.{and_parts, eq-eqb, ne_eqb, cases_lt, le-leb, lt-leb, ltb-true, lt-ltb}
use Rattle.std.proofs.lemmas.Int.Digits.{digits_value-lt, number_lt, number_push}
use Rattle.std.proofs.lemmas.List.Concat.{flat_map-append}
use Rattle.std.proofs.lemmas.List.Folds.{list_any-append}
use Rattle.std.proofs.lemmas.Nat.{pow-add}
use Rattle.std.proofs.lemmas.Nat.Bits.{bit_at-zero}
use Rattle.num_text.specs.Numbers.{number_of, below}
use Rattle.cpu_lists.specs.declared.numbers.Numbers.{Numbers}
use Rattle.cpu_lists.specs.declared.runs.Run.{Run}
use Rattle.cpu_lists.specs.Sets.{has, is_among, numbers_of}
use Rattle.cpu_lists.specs.Masks.{group_of, value_of, cpus_in}
use Rattle.cpu_lists.specs.Lists.{numbers_in, is_within}
use Rattle.cpu_lists.specs.Collected.{Collects}
use Rattle.cpu_lists.proofs.Bits.{has-above, has-zero}
use Rattle.cpu_lists.proofs.LeastNumbers.{is_among-filter}
use Rattle.cpu_lists.proofs.Additions.{Collects-same}

-- ---- ranges

-- a number of a range
is_among-range_inside : (a n k : ℕ) → a ≤ k → k < a + n → is_among (range_with_len a n) k ≡ true
is_among-range_inside a zero k low high = absurd (omega arith)
is_among-range_inside a (suc n) k low high = elim (cases_lt a k) [
  | inl lt ↦ rw (is_among-range_inside (a + 1) n k (omega arith) (omega arith)) (or-true (nat_eq k a))
  | inr le ↦ rw (eq-eqb k a (omega arith)) refl
]

-- a number below it
is_among-range_below : (a n k : ℕ) → k < a → is_among (range_with_len a n) k ≡ false
is_among-range_below a zero k lt = refl
is_among-range_below a (suc n) k lt = rw (ne_eqb k a (λ e. omega arith)) (is_among-range_below (a + 1) n k (omega arith))

-- a number above it
is_among-range_above : (a n k : ℕ) → a + n ≤ k → is_among (range_with_len a n) k ≡ false
is_among-range_above a zero k le = refl
is_among-range_above a (suc n) k le = rw (ne_eqb k a (λ e. omega arith)) (is_among-range_above (a + 1) n k (omega arith))

-- a number of a run
pub is_among-numbers_in : (run : Run) (k : ℕ) → run.first ≤ run.last → is_among (numbers_in run) k ≡ is_within run k
is_among-numbers_in run k order = elim (cases_lt k run.first) [
  | inl lt ↦ is_among-range_below run.first (run.last + 1 - run.first) k lt ∙ sym (rw (lt-leb run.first k lt) refl)
  | inr low ↦ elim (cases_lt run.last k) [
    | inl lt ↦ is_among-range_above run.first (run.last + 1 - run.first) k (omega arith) ∙ sym (rw (le-leb run.first k low, lt-leb k run.last lt) refl)
    | inr high ↦ is_among-range_inside run.first (run.last + 1 - run.first) k low (omega arith) ∙ sym (rw (le-leb run.first k low, le-leb k run.last high) refl)
  ]
]

-- a number of a set
pub is_among-numbers_of : (len set k : ℕ) → set < 2 ^ len → is_among (numbers_of len set) k ≡ has set k
unfolding numbers_of
is_among-numbers_of len set k small = is_among-filter (has set) (range_with_len 0 len) k ∙ elim (cases_lt k len) [
  | inl lt ↦ rw (is_among-range_inside 0 len k (omega arith) (omega arith)) (and-true (has set k))
  | inr le ↦ rw (has-above set len k small le) refl
]

-- ---- groups

-- a text of digits alone
AllDigits-list_all : (base : ℕ) (cs : List ℕ) → list_all (λ b. is_digit b base) cs ≡ true → AllDigits base cs
AllDigits-list_all base [] h = tt
AllDigits-list_all base (c ∷ cs) h =
    let both = and_parts (is_digit c base) (list_all (λ b. is_digit b base) cs) h in
    (ltb-true (digit_value c) base both.0, AllDigits-list_all base cs both.1)

-- eight digits at most are a number of 32 bits
number_of-small : (piece : List ℕ) → length piece ≤ 8 → MatchOption (number_of 16 piece) ⊤ (λ n. n < 2 ^ 32)
number_of-small [] short = tt
number_of-small (c ∷ cs) short = step (list_all (λ b. is_digit b 16) (c ∷ cs)) refl
  where
    step : (b : Bool) → b ≡ list_all (λ d. is_digit d 16) (c ∷ cs) → MatchOption (cond b (Some (digits_value 16 (c ∷ cs))) None) ⊤ (λ n. n < 2 ^ 32)
    step true e = lt_of_lt_of_le (digits_value-lt 16 (c ∷ cs) (AllDigits-list_all 16 (c ∷ cs) (sym e))) (pow-le-pow_right {n = 16} (omega arith) {i = length (c ∷ cs)} {j = 8} short)
    step false e = tt

-- a number of 32 bits fits 64
below-small : (o : Option ℕ) → MatchOption o ⊤ (λ n. n < 2 ^ 32) → below (2 ^ 64) o ≡ o
below-small None h = refl
below-small (Some n) h = rw (lt-ltb n (2 ^ 64) (omega arith)) refl

-- so a limit of 64 bits changes nothing
pub below-number_of : (piece : List ℕ) → length piece ≤ 8 → below (2 ^ 64) (number_of 16 piece) ≡ number_of 16 piece
below-number_of piece short = below-small (number_of 16 piece) (number_of-small piece short)

-- at most eight digits make a number of 32 bits
pub number_of-lt : (piece : List ℕ) (n : ℕ) → length piece ≤ 8 → number_of 16 piece ≡ Some n → n < 2 ^ 32
number_of-lt piece n short e = subst (λ (o : Option ℕ). MatchOption o ⊤ (λ m. m < 2 ^ 32)) e (number_of-small piece short)

-- so does a group
pub group_of-lt : (piece : List ℕ) (n : ℕ) → group_of piece ≡ Some n → n < 2 ^ 32
group_of-lt piece n e = elim (cases_lt 8 (length piece)) [
  | inl long ↦ (let none : group_of piece ≡ None = rw (lt-leb (length piece) 8 long) refl in absurd cc)
  | inr short ↦ number_of-lt piece n short (sym (rw (le-leb (length piece) 8 short) refl) ∙ e)
]

-- one number more keeps to a fact
pub AllByRecursion-push : (P : ℕ → Type 0) (xs : List ℕ) (n : ℕ) → AllByRecursion P xs → P n → AllByRecursion P (xs ++ n ∷ [])
AllByRecursion-push P [] n all p = (p, tt)
AllByRecursion-push P (x ∷ xs) n all p = (all.0, AllByRecursion-push P xs n all.1 p)

-- the power of so many groups
pow-pow_32 : (n : ℕ) → (2 ^ 32) ^ n ≡ 2 ^ (32 * n)
pow-pow_32 zero = refl
pow-pow_32 (suc n) = pow-suc (2 ^ 32) n ∙ ap (λ (x : ℕ). x * 2 ^ 32) (pow-pow_32 n) ∙ sym (pow-add 2 (32 * n) 32) ∙ ap (λ (k : ℕ). 2 ^ k) (omega arith)

-- the numbers of groups are the bits of their value
pub Collects-cpus_in : (groups : List ℕ) (kept : Numbers) → AllBelowBase (2 ^ 32) groups → Collects (has (value_of groups)) kept → Collects (is_among (cpus_in groups)) kept
Collects-cpus_in groups kept all c =
    let small : value_of groups < 2 ^ (32 * length groups) = subst (λ (top : ℕ). value_of groups < top) (pow-pow_32 (length groups)) (number_lt (2 ^ 32) groups all) in
    Collects-same (has (value_of groups)) (is_among (cpus_in groups)) kept (λ k. sym (is_among-numbers_of (32 * length groups) (value_of groups) k small)) c

-- a group after others
pub Collects-value_of_push : (groups : List ℕ) (group : ℕ) (kept : Numbers) → Collects (has (value_of groups * 2 ^ 32 + group)) kept → Collects (has (value_of (groups ++ group ∷ []))) kept
Collects-value_of_push groups group kept c = subst (λ (value : ℕ). Collects (has value) kept) (sym (number_push (2 ^ 32) groups group)) c

-- before the first group there is no number
pub Collects-zero : Collects (has 0) (record { low = 0; high = None })
Collects-zero = record {
  low = λ k lt. refl;
  high = λ k le. has-zero 0 k (bit_at-zero k);
}

-- ---- elements

-- a run after others
pub Collects-flat_map_push : (runs : List Run) (run : Run) (kept : Numbers) → run.first ≤ run.last → Collects (λ k. is_among (flat_map numbers_in runs) k || is_within run k) kept → Collects (is_among (flat_map numbers_in (runs ++ run ∷ []))) kept
Collects-flat_map_push runs run kept order c = Collects-same (λ k. is_among (flat_map numbers_in runs) k || is_within run k) (is_among (flat_map numbers_in (runs ++ run ∷ []))) kept same c
  where
    same : (k : ℕ) → (is_among (flat_map numbers_in runs) k || is_within run k) ≡ is_among (flat_map numbers_in (runs ++ run ∷ [])) k
    same k = sym (ap (λ (xs : List ℕ). is_among xs k) (flat_map-append numbers_in runs (run ∷ []))
        ∙ list_any-append (nat_eq k) (flat_map numbers_in runs) (numbers_in run ++ [])
        ∙ ap (λ (b : Bool). is_among (flat_map numbers_in runs) k || b) (list_any-append (nat_eq k) (numbers_in run) [] ∙ or-false (is_among (numbers_in run) k) ∙ is_among-numbers_in run k order))

-- before the first run there is no number
pub Collects-nil : Collects (is_among []) (record { low = 0; high = None })
Collects-nil = record {
  low = λ k lt. has-zero 0 k (bit_at-zero k);
  high = λ k le. refl;
}
