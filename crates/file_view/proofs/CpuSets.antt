-- Sets of CPUs as numbers.
use Rattle.std.proofs.Common.{◌≡◌, ◌≢◌, ℕ, zero, suc, ◌+◌, ◌-◌, ◌*◌, ◌%◌, ◌^◌, ◌<◌, ◌≤◌, bit_or, w64, Bool, true, false, cond, ◌==◌, List, [], ◌∷◌, length, map, filter, get_or, refl, sym, ap, ◌∙◌, inl, inr, arith}
use Rattle.std.specs.List.{enumerate_from, range_with_len}
use Rattle.std.proofs.lemmas.Bool.{cases_lt}
use Rattle.std.proofs.lemmas.Nat.Bits.{bit_at-zero, bit_at_above, bit_at_set_other, bit_at_set_same}
use Rattle.cbm.specs.Masks.{has_way, ways_of}
use Rattle.cpu_binding.specs.Groups.{IsSetOf}
use Rattle.cpu_binding.specs.Sets.{has_cpu}
use Rattle.cpu_binding.specs.declared.groups.CpuGroups.{CpuGroups}
use Rattle.lists.proofs.Filters.{filter-none}
use Rattle.tree_law.proofs.laws.WayMasks.{mask_of-ways_of}
use Rattle.tree_law.specs.Space.{mask_of}

-- of a longer range the same pass, where another test tells them up to an end and none passes from there on
pub filter-longer : (p q : ℕ → Bool) (a z n : ℕ) → z ≤ n → ((k : ℕ) → a ≤ k → k < a + z → p k ≡ q k) → ((k : ℕ) → a + z ≤ k → p k ≡ false) → filter p (range_with_len a n) ≡ filter q (range_with_len a z)
filter-longer p q a zero n le same none = filter-none p a n (λ k low high. none k (omega arith))
filter-longer p q a (suc z) zero le same none = absurd (omega arith)
filter-longer p q a (suc z) (suc n) le same none =
    let rest = filter-longer p q (a + 1) z n (omega arith) (λ k low high. same k (omega arith) (omega arith)) (λ k low. none k (omega arith)) in
    rw (same a (omega arith) (omega arith), rest) refl

-- a set has the numbers below n that pass a test
pub record Collected (p : ℕ → Bool) (set n : ℕ) : Type 0 where
  pub done : (k : ℕ) → k < n → has_cpu set k ≡ p k
  pub rest : (k : ℕ) → n ≤ k → has_cpu set k ≡ false

-- at first it is empty
pub Collected-start : (p : ℕ → Bool) → Collected p 0 0
Collected-start p = record { done = λ k lt. absurd (omega arith); rest = λ k le. ap (λ (bit : ℕ). bit == 1) (bit_at-zero k) }

-- a number that passes is put in
pub Collected-yes : (p : ℕ → Bool) (set n : ℕ) → n < 64 → p n ≡ true → Collected p set n → Collected p (bit_or set (1 * 2 ^ n % 2 ^ 64)) (n + 1)
Collected-yes p set n within passes c = record {
  done = λ k lt. elim (cases_lt k n) [
    | inl below ↦ (let other : k ≢ n = omega arith in ap (λ (bit : ℕ). bit == 1) (bit_at_set_other w64 set n within k other) ∙ c.done k below)
    | inr past ↦ (let here : k ≡ n = omega arith in rw here (ap (λ (bit : ℕ). bit == 1) (bit_at_set_same w64 set n within) ∙ sym passes))
  ];
  rest = λ k le. let other : k ≢ n = omega arith in ap (λ (bit : ℕ). bit == 1) (bit_at_set_other w64 set n within k other) ∙ c.rest k (omega arith);
}

-- one that does not is left out
pub Collected-no : (p : ℕ → Bool) (set n : ℕ) → p n ≡ false → Collected p set n → Collected p set (n + 1)
Collected-no p set n fails c = record {
  done = λ k lt. elim (cases_lt k n) [
    | inl below ↦ c.done k below
    | inr past ↦ (let here : k ≡ n = omega arith in rw here (c.rest n (omega arith) ∙ sym fails))
  ];
  rest = λ k le. c.rest k (omega arith);
}

-- a set of numbers below 64 that a test tells
pub mask_of-collected : (p : ℕ → Bool) (set n : ℕ) → set < 2 ^ 64 → n ≤ 64 → Collected p set n → mask_of (filter p (range_with_len 0 n)) ≡ set
unfolding ways_of
mask_of-collected p set n small le c =
    ap mask_of (sym (filter-longer (has_way set) p 0 n 64 le (λ k low high. c.done k (omega arith)) (λ k low. c.rest k (omega arith)))) ∙ mask_of-ways_of set small

-- the numbers of the CPUs that pass a test, which numbers past the range do not
filter-enumerated : (p : ℕ → Bool) (test : CpuGroups → Bool) (a n : ℕ) (cpus : List CpuGroups) → ((k : ℕ) (d : CpuGroups) → k < length cpus → p (a + k) ≡ test (get_or cpus k d)) → ((k : ℕ) → length cpus ≤ k → p (a + k) ≡ false)
    → ((k : ℕ) → a + n ≤ k → p k ≡ false) → filter p (range_with_len a n) ≡ map (λ (e : ℕ × CpuGroups). e.0) (filter (λ (e : ℕ × CpuGroups). test e.1) (enumerate_from a cpus))
filter-enumerated p test a n [] each none past = filter-none p a n (λ k low high. let at : a + (k - a) ≡ k = omega arith in ap p (sym at) ∙ none (k - a) (omega arith))
filter-enumerated p test a zero (c ∷ cpus) each none past =
    let here : a + 0 ≡ a = omega arith in
    let first : test c ≡ false = sym (each 0 c (omega arith)) ∙ ap p here ∙ past a (omega arith) in
    let next : (k : ℕ) → (a + 1) + k ≡ a + suc k = (λ k. omega arith) in
    let rest = filter-enumerated p test (a + 1) zero cpus (λ k d lt. ap p (next k) ∙ each (suc k) d (omega arith)) (λ k le. ap p (next k) ∙ none (suc k) (omega arith)) (λ k le. past k (omega arith)) in
    rw first rest
filter-enumerated p test a (suc n) (c ∷ cpus) each none past =
    let here : a + 0 ≡ a = omega arith in
    let first : p a ≡ test c = ap p (sym here) ∙ each 0 c (omega arith) in
    let next : (k : ℕ) → (a + 1) + k ≡ a + suc k = (λ k. omega arith) in
    let rest = filter-enumerated p test (a + 1) n cpus (λ k d lt. ap p (next k) ∙ each (suc k) d (omega arith)) (λ k le. ap p (next k) ∙ none (suc k) (omega arith)) (λ k le. past k (omega arith)) in
    rw (first, rest) (choice (test c))
  where
    rest_of : List (ℕ × CpuGroups)
    rest_of = filter (λ (e : ℕ × CpuGroups). test e.1) (enumerate_from (a + 1) cpus)

    choice : (b : Bool) → cond b (a ∷ map (λ (e : ℕ × CpuGroups). e.0) rest_of) (map (λ (e : ℕ × CpuGroups). e.0) rest_of) ≡ map (λ (e : ℕ × CpuGroups). e.0) (cond b ((a, c) ∷ rest_of) rest_of)
    choice true = refl
    choice false = refl

-- the set of the CPUs that pass a test is that of their numbers
pub mask_of-enumerated : (test : CpuGroups → Bool) (cpus : List CpuGroups) (set : ℕ) → set < 2 ^ 64 → IsSetOf test cpus set
    → mask_of (map (λ (e : ℕ × CpuGroups). e.0) (filter (λ (e : ℕ × CpuGroups). test e.1) (enumerate_from 0 cpus))) ≡ set
unfolding ways_of
mask_of-enumerated test cpus set small is =
    let shift : (k : ℕ) → 0 + k ≡ k = (λ k. omega arith) in
    let past : (k : ℕ) → 64 ≤ k → has_way set k ≡ false = (λ k le. ap (λ (bit : ℕ). bit == 1) (bit_at_above set 64 k small le)) in
    ap mask_of (sym (filter-enumerated (has_way set) test 0 64 cpus (λ k d lt. ap (has_way set) (shift k) ∙ is.each k d lt) (λ k le. ap (has_way set) (shift k) ∙ is.no_more k le) (λ k le. past k (omega arith)))) ∙ mask_of-ways_of set small
