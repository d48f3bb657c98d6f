-- What is kept of the numbers, one piece more.
use Rattle.std.proofs.Common.{◌≡◌, ◌≢◌, ℕ, ◌+◌, ◌-◌, ◌^◌, ◌<◌, ◌≤◌, min, max, Bool, true, false, ◌||◌, leb, inl, inr, Option, Some, None, refl, sym, ap, ◌∙◌, arith, w64}
use Rattle.std.proofs.Math.Bool.{and-false, or-false}
use Rattle.std.specs.Prelude.{nat_le}
use Rattle.std.specs.Int.{trailing_zeros}
use Rattle.std.proofs.lemmas.Bool.{cases_lt, le-leb, or_from, or_left, or_right}
use Rattle.std.proofs.lemmas.Nat.Bits.{bit_at-trailing_zeros}
use Rattle.cpu_lists.specs.declared.numbers.Numbers.{Numbers}
use Rattle.cpu_lists.specs.declared.runs.Run.{Run}
use Rattle.cpu_lists.specs.Sets.{has}
use Rattle.cpu_lists.specs.Lists.{is_within}
use Rattle.cpu_lists.specs.Collected.{IsBeyond, Collects}
use Rattle.cpu_lists.proofs.Bits.{has-one, has-zero, has-above}

-- two tests that agree from 64 on
pub IsBeyond-same : (p q : ℕ → Bool) (high : Option ℕ) → ((k : ℕ) → 64 ≤ k → p k ≡ q k) → IsBeyond p high → IsBeyond q high
IsBeyond-same p q None same none = λ k le. sym (same k le) ∙ none k le
IsBeyond-same p q (Some n) same (first, least, e) = (
  first,
  record {
    within = least.within;
    passes = sym (same first least.within) ∙ least.passes;
    before = λ k low lt. sym (same k low) ∙ least.before k low lt;
  },
  e,
)

-- numbers of the same tests are collected by one value
pub Collects-same : (p q : ℕ → Bool) (numbers : Numbers) → ((k : ℕ) → p k ≡ q k) → Collects p numbers → Collects q numbers
Collects-same p q numbers same c = record {
  low = λ k lt. c.low k lt ∙ same k;
  high = IsBeyond-same p q numbers.high (λ k le. same k) c.high;
}

-- ---- all numbers move up by 32

-- some moved past 63: the least of these is the least from 64 on
pub IsBeyond-raised_some : (moved value : ℕ) → moved ≢ 0 → moved < 2 ^ 32 → ((k : ℕ) → k < 32 → has moved k ≡ has value (k + 32)) → IsBeyond (λ k. has value (k - 32)) (Some (64 + trailing_zeros w64 moved))
IsBeyond-raised_some moved value some small same =
    let low = trailing_zeros w64 moved in
    let t = bit_at-trailing_zeros w64 moved (omega arith) (omega arith) in
    let under : low < 32 = elim (cases_lt low 32) [
      | inl lt ↦ lt
      | inr le ↦ (let no = has-above moved 32 low small le in let yes_low = has-one moved low t.1 in absurd cc)
    ] in (
      64 + low,
      record {
        within = omega arith;
        passes = (let e : 64 + low - 32 ≡ low + 32 = omega arith in ap (has value) e ∙ sym (same low under) ∙ has-one moved low t.1);
        before = λ k from lt. (let e : k - 32 ≡ k - 64 + 32 = omega arith in ap (has value) e ∙ sym (same (k - 64) (omega arith)) ∙ has-zero moved (k - 64) (t.2 (k - 64) (omega arith)));
      },
      omega arith,
    )

-- none moved past 63: the least from 64 on has moved up too
pub has-raised_none : (moved value : ℕ) (high : Option ℕ) → moved ≡ 0 → ((k : ℕ) → k < 32 → has moved k ≡ has value (k + 32)) → IsBeyond (has value) high → (k : ℕ) → 64 ≤ k → ((n : ℕ) → 64 ≤ n → n + 32 ≡ k → has value n ≡ false) → has value (k - 32) ≡ false
has-raised_none moved value high none same beyond k le h = elim (cases_lt k 96) [
  | inl lt ↦ (let e : k - 32 ≡ k - 64 + 32 = omega arith in ap (has value) e ∙ sym (same (k - 64) (omega arith)) ∙ has-above moved 0 (k - 64) (omega arith) (omega arith))
  | inr far ↦ h (k - 32) (omega arith) (omega arith)
]

-- the least number from 64 on is 32 greater
pub IsBeyond-raised_kept : (moved value n : ℕ) → moved ≡ 0 → ((k : ℕ) → k < 32 → has moved k ≡ has value (k + 32)) → IsBeyond (has value) (Some n) → IsBeyond (λ k. has value (k - 32)) (Some (min (n + 32) (2 ^ 64 - 1)))
IsBeyond-raised_kept moved value n none same (first, least, e) = (
  first + 32,
  record {
    within = (let le = least.within in omega arith);
    passes = (let back : first + 32 - 32 ≡ first = omega arith in ap (has value) back ∙ least.passes);
    before = λ k from lt. has-raised_none moved value (Some n) none same (first, least, e) k from (λ m low at. least.before m low (omega arith));
  },
  omega arith,
)

-- where there was none, there is none
pub IsBeyond-raised_none : (moved value : ℕ) → moved ≡ 0 → ((k : ℕ) → k < 32 → has moved k ≡ has value (k + 32)) → IsBeyond (has value) None → IsBeyond (λ k. has value (k - 32)) None
IsBeyond-raised_none moved value none same beyond = λ k le. has-raised_none moved value None none same beyond k le (λ m low at. beyond m low)

-- ---- a run more

-- a number below a run
is_within-below : (run : Run) (k : ℕ) → k < run.first → is_within run k ≡ false
is_within-below run k lt = rw (lt-leb run.first k lt) refl
  where
    lt-leb : (a b : ℕ) → b < a → leb a b ≡ false
    lt-leb a b lt = grind arith

-- a number of a run
is_within-inside : (run : Run) (k : ℕ) → run.first ≤ k → k ≤ run.last → is_within run k ≡ true
is_within-inside run k low high = rw (le-leb run.first k low, le-leb k run.last high) refl

-- a number above a run
is_within-above : (run : Run) (k : ℕ) → run.last < k → is_within run k ≡ false
is_within-above run k lt = rw (lt-leb k run.last lt) (and-false (nat_le run.first k))
  where
    lt-leb : (a b : ℕ) → b < a → leb a b ≡ false
    lt-leb a b lt = grind arith

-- a run below 64 adds nothing from 64 on
pub IsBeyond-run_below : (test : ℕ → Bool) (high : Option ℕ) (run : Run) → run.last < 64 → IsBeyond test high → IsBeyond (λ k. test k || is_within run k) high
IsBeyond-run_below test high run lt = IsBeyond-same test (λ k. test k || is_within run k) high (λ k le. sym (ap (λ (b : Bool). test k || b) (is_within-above run k (omega arith)) ∙ or-false (test k)))

-- the first of a run from 64 on
or-is_within_first : (test : ℕ → Bool) (run : Run) (n k : ℕ) → n ≡ max run.first 64 → 64 ≤ k → k < n → test k ≡ false → (test k || is_within run k) ≡ false
or-is_within_first test run n k is from lt fails = or_from (test k) (is_within run k) fails (is_within-below run k (omega arith))

-- a run that passes 64, where there was none
pub IsBeyond-run_alone : (test : ℕ → Bool) (run : Run) (n : ℕ) → n ≡ max run.first 64 → n < 2 ^ 64 → run.first ≤ run.last → 64 ≤ run.last → IsBeyond test None → IsBeyond (λ k. test k || is_within run k) (Some n)
IsBeyond-run_alone test run n is small order high none = (
  n,
  record {
    within = omega arith;
    passes = or_right (test n) (is_within run n) (is_within-inside run n (omega arith) (omega arith));
    before = λ k from lt. or-is_within_first test run n k is from lt (none k from);
  },
  omega arith,
)

-- a run that passes 64, beside another number
pub IsBeyond-run_beside : (test : ℕ → Bool) (run : Run) (m n : ℕ) → n ≡ max run.first 64 → n < 2 ^ 64 → run.first ≤ run.last → 64 ≤ run.last → IsBeyond test (Some m) → IsBeyond (λ k. test k || is_within run k) (Some (min m n))
IsBeyond-run_beside test run m n is small order high (first, least, e) = elim (cases_lt first n) [
  | inl lt ↦ (
    first,
    record {
      within = least.within;
      passes = or_left (test first) (is_within run first) least.passes;
      before = λ k from before. or-is_within_first test run n k is from (omega arith) (least.before k from before);
    },
    omega arith,
  )
  | inr le ↦ (
    n,
    record {
      within = omega arith;
      passes = or_right (test n) (is_within run n) (is_within-inside run n (omega arith) (omega arith));
      before = λ k from before. or-is_within_first test run n k is from before (least.before k from (omega arith));
    },
    omega arith,
  )
]
