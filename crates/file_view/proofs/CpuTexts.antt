-- The texts of sets of CPUs are short.
use Rattle.std.proofs.Common.{ℕ, zero, suc, ◌+◌, ◌-◌, ◌*◌, ◌/◌, ◌%◌, ◌^◌, ◌<◌, ◌≤◌, leb, eqb, Bool, true, false, cond, List, [], ◌∷◌, ◌++◌, length, map, filter, decimal, arith, length-append}
use Rattle.std.specs.List.{AllByRecursion, join_with_byte, range_with_len}
use Rattle.std.proofs.lemmas.Fmt.{length-decimal-le}
use Rattle.cpu_lists.specs.Printed.{digits_for, joined, list_text, mask_text, run_text, runs_of}
use Rattle.cpu_lists.specs.Sets.{has, numbers_of}
use Rattle.cpu_lists.specs.declared.runs.Run.{Run}
use Rattle.num_text.proofs.laws.Prints.{length-hexadecimal}
use Rattle.num_text.specs.Printed.{hexadecimal}

-- ---- a mask

-- a mask of 64 bits has at most 33 characters
pub length-mask_text : (cpus set : ℕ) → cpus ≤ 64 → set < 2 ^ 64 → length (mask_text cpus set) ≤ 33
unfolding mask_text
length-mask_text cpus set le small = at (leb cpus 32)
  where
    high : List ℕ
    high = hexadecimal (digits_for (cpus - 32)) (set / 2 ^ 32)

    low : List ℕ
    low = hexadecimal 8 (set % 2 ^ 32)

    at : (b : Bool) → length (cond b (hexadecimal (digits_for cpus) set) (high ++ 44 ∷ low)) ≤ 33
    at true = omega (arith, length-hexadecimal (digits_for cpus) set small (omega arith))
    at false = omega (arith, length-append high (44 ∷ low), length-hexadecimal (digits_for (cpus - 32)) (set / 2 ^ 32) (omega arith) (omega arith), length-hexadecimal 8 (set % 2 ^ 32) (omega arith) (omega arith))

-- ---- a list

-- a run of numbers of two digits
abbrev pub IsLow : Run → Type 0
IsLow run = (run.first < 100) × (run.last < 100)

-- has at most five characters
length-run_text : (run : Run) → IsLow run → length (run_text run) ≤ 5
length-run_text run low =
    let first : length (decimal run.first) ≤ 2 = length-decimal-le 2 run.first (omega arith) (omega arith) (omega arith) in
    let last : length (decimal run.last) ≤ 2 = length-decimal-le 2 run.last (omega arith) (omega arith) (omega arith) in
    at first last (eqb run.first run.last)
  where
    at : length (decimal run.first) ≤ 2 → length (decimal run.last) ≤ 2 → (b : Bool) → length (cond b (decimal run.first) (decimal run.first ++ 45 ∷ decimal run.last)) ≤ 5
    at first last true = omega (arith, first)
    at first last false = omega (arith, first, last, length-append (decimal run.first) (45 ∷ decimal run.last))

-- and each with a comma at most six
length-join_with_byte : (runs : List Run) → AllByRecursion IsLow runs → length (join_with_byte 44 (map run_text runs)) ≤ 6 * length runs
length-join_with_byte [] low = omega arith
length-join_with_byte (a ∷ []) low = omega (arith, length-run_text a low.0)
length-join_with_byte (a ∷ b ∷ runs) low =
    omega (arith, length-run_text a low.0, length-join_with_byte (b ∷ runs) low.1, length-append (run_text a) (44 ∷ join_with_byte 44 (map run_text (b ∷ runs))))

-- a number before runs makes one run more at most
joined-low : (n : ℕ) (runs : List Run) → n < 100 → AllByRecursion IsLow runs → AllByRecursion IsLow (joined n runs) × (length (joined n runs) ≤ length runs + 1)
joined-low n [] lt low = (((lt, lt), low), omega arith)
joined-low n (run ∷ runs) lt low = at (eqb run.first (n + 1))
  where
    at : (b : Bool) → AllByRecursion IsLow (cond b (record { first = n; last = run.last } ∷ runs) (record { first = n; last = n } ∷ run ∷ runs)) × (length (cond b (record { first = n; last = run.last } ∷ runs) (record { first = n; last = n } ∷ run ∷ runs)) ≤ length (run ∷ runs) + 1)
    at true = (((lt, low.0.1), low.1), omega arith)
    at false = (((lt, lt), low), omega arith)

-- the runs of numbers of a range that pass a test
runs_of-low : (p : ℕ → Bool) (a n : ℕ) → a + n ≤ 100 → AllByRecursion IsLow (runs_of (filter p (range_with_len a n))) × (length (runs_of (filter p (range_with_len a n))) ≤ n)
runs_of-low p a zero le = (tt, omega arith)
runs_of-low p a (suc n) le = at (p a) (runs_of-low p (a + 1) n (omega arith))
  where
    others : List ℕ
    others = filter p (range_with_len (a + 1) n)

    at : (b : Bool) → AllByRecursion IsLow (runs_of others) × (length (runs_of others) ≤ n) → AllByRecursion IsLow (runs_of (cond b (a ∷ others) others)) × (length (runs_of (cond b (a ∷ others) others)) ≤ suc n)
    at true rest = let more = joined-low a (runs_of others) (omega arith) rest.0 in (more.0, omega (arith, more.1, rest.1))
    at false rest = (rest.0, omega (arith, rest.1))

-- a list of CPUs has at most 384 characters
pub length-list_text : (set : ℕ) → length (list_text set) ≤ 384
unfolding list_text numbers_of
length-list_text set =
    let runs = runs_of-low (has set) 0 64 (omega arith) in
    omega (arith, length-join_with_byte (runs_of (numbers_of 64 set)) runs.0, runs.1)
