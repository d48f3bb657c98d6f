-- Sets of numbers below 64 by masks: the numbers from one on, those up to one, and a run's.
use Rattle.std.proofs.Common.{◌≡◌, ℕ, ◌-◌, ◌*◌, ◌/◌, ◌%◌, ◌^◌, ◌<◌, ◌≤◌, Bool, true, false, not, ◌||◌, ◌&&◌, eqb, leb, min, max, bit_and, bit_or, inl, inr, refl, sym, ap, ◌∙◌, arith, w64}
use Rattle.std.specs.Int.{bit_at, bit_not}
use Rattle.std.proofs.lemmas.Bool.{cases_lt, lt-leb, le-leb, and_left, and_right}
use Rattle.std.proofs.lemmas.Bool.Decides.{nat_tests}
use Rattle.std.proofs.lemmas.Nat.Bits.{bit_at_and, bit_at_or, bit_at_not, bit_at-lt, bit_at-zero, bit_at_ones, bit_at_ones_above, bit_at_mask_inside, bit_at_mask_below, ones_shl, ones_shr}
use Rattle.cpu_lists.specs.Sets.{has}
use Rattle.cpu_lists.specs.Lists.{is_within}
use Rattle.cpu_lists.specs.declared.runs.Run.{Run}
use Rattle.cpu_lists.proofs.Bits.{has-one, has-zero}

-- ---- sets joined

-- a bit of both
eqb-min : (x y : ℕ) → x < 2 → y < 2 → eqb (min x y) 1 ≡ (eqb x 1 && eqb y 1)
eqb-min x y p q = grind (arith, nat_tests)

-- a bit of one or the other
eqb-max : (x y : ℕ) → x < 2 → y < 2 → eqb (max x y) 1 ≡ (eqb x 1 || eqb y 1)
eqb-max x y p q = grind (arith, nat_tests)

-- a bit turned over
eqb-one_minus : (x : ℕ) → x < 2 → eqb (1 - x) 1 ≡ not (eqb x 1)
eqb-one_minus x p = grind (arith, nat_tests)

-- what is in both sets
pub has-bit_and : (a b k : ℕ) → has (bit_and a b) k ≡ (has a k && has b k)
has-bit_and a b k = ap (λ (m : ℕ). eqb m 1) (bit_at_and a b k) ∙ eqb-min (bit_at a k) (bit_at b k) (bit_at-lt a k) (bit_at-lt b k)

-- what is in one set or the other
pub has-bit_or : (a b k : ℕ) → has (bit_or a b) k ≡ (has a k || has b k)
has-bit_or a b k = ap (λ (m : ℕ). eqb m 1) (bit_at_or a b k) ∙ eqb-max (bit_at a k) (bit_at b k) (bit_at-lt a k) (bit_at-lt b k)

-- what a set of 64 has not
pub has-bit_not : (a k : ℕ) → a < 2 ^ 64 → k < 64 → has (bit_not w64 a) k ≡ not (has a k)
has-bit_not a k small lt = ap (λ (m : ℕ). eqb m 1) (bit_at_not w64 a k small lt) ∙ eqb-one_minus (bit_at a k) (bit_at-lt a k)

-- ---- masks

-- the numbers from one on
pub has-ones_from : (first k : ℕ) → first < 64 → k < 64 → has ((2 ^ 64 - 1) * 2 ^ first % 2 ^ 64) k ≡ leb first k
has-ones_from first k within lt = ap (λ (n : ℕ). has n k) (ones_shl 64 first (omega arith)) ∙ elim (cases_lt k first) [
  | inl under ↦ has-zero (2 ^ 64 - 2 ^ first) k (bit_at_mask_below first 64 k under) ∙ sym (lt-leb first k under)
  | inr over ↦ has-one (2 ^ 64 - 2 ^ first) k (bit_at_mask_inside first 64 k over lt) ∙ sym (le-leb first k over)
]

-- the numbers up to one
has-ones_to : (last k : ℕ) → last < 64 → has ((2 ^ 64 - 1) / 2 ^ (63 - last)) k ≡ leb k last
has-ones_to last k within = ap (λ (n : ℕ). has n k) (ones_shr 64 (63 - last) (omega arith)) ∙ elim (cases_lt last k) [
  | inl over ↦ has-zero (2 ^ (64 - (63 - last)) - 1) k (bit_at_ones_above (64 - (63 - last)) k (omega arith)) ∙ sym (lt-leb k last over)
  | inr under ↦ has-one (2 ^ (64 - (63 - last)) - 1) k (bit_at_ones (64 - (63 - last)) k (omega arith)) ∙ sym (le-leb k last under)
]

-- a set cut off below a number has none below it
pub has-cut_below : (set first k : ℕ) → first < 64 → k < first → has (bit_and set ((2 ^ 64 - 1) * 2 ^ first % 2 ^ 64)) k ≡ false
has-cut_below set first k within under =
    has-bit_and set ((2 ^ 64 - 1) * 2 ^ first % 2 ^ 64) k
    ∙ and_right (has set k) (has ((2 ^ 64 - 1) * 2 ^ first % 2 ^ 64) k) (has-ones_from first k within (omega arith) ∙ lt-leb first k under)

-- and the others as before
pub has-cut_from : (set first k : ℕ) → first < 64 → first ≤ k → k < 64 → has (bit_and set ((2 ^ 64 - 1) * 2 ^ first % 2 ^ 64)) k ≡ has set k
has-cut_from set first k within over lt =
    has-bit_and set ((2 ^ 64 - 1) * 2 ^ first % 2 ^ 64) k
    ∙ ap (λ (b : Bool). has set k && b) (has-ones_from first k within lt ∙ le-leb first k over)
    ∙ all (has set k)
  where
    all : (b : Bool) → (b && true) ≡ b
    all true = refl
    all false = refl

-- ---- runs

-- the number 63 ends all runs alike
leb-min : (k last : ℕ) → k < 64 → leb k (min last 63) ≡ leb k last
leb-min k last lt = grind (arith, nat_tests)

-- the part of a run below 64
pub has-low_part : (run : Run) (k : ℕ) → run.first < 64 → k < 64 → has (bit_and ((2 ^ 64 - 1) * 2 ^ run.first % 2 ^ 64) ((2 ^ 64 - 1) / 2 ^ (63 - min run.last 63))) k ≡ is_within run k
has-low_part run k within lt =
    has-bit_and ((2 ^ 64 - 1) * 2 ^ run.first % 2 ^ 64) ((2 ^ 64 - 1) / 2 ^ (63 - min run.last 63)) k
    ∙ ap (λ (b : Bool). b && has ((2 ^ 64 - 1) / 2 ^ (63 - min run.last 63)) k) (has-ones_from run.first k within lt)
    ∙ ap (λ (b : Bool). leb run.first k && b) (has-ones_to (min run.last 63) k (omega arith) ∙ leb-min k run.last lt)

-- a run from 64 on has no such part
pub has-no_low_part : (run : Run) (k : ℕ) → 64 ≤ run.first → k < 64 → has 0 k ≡ is_within run k
has-no_low_part run k beyond lt = has-zero 0 k (bit_at-zero k) ∙ sym (and_left (leb run.first k) (leb k run.last) (lt-leb run.first k (omega arith)))
