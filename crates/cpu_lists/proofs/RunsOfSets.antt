-- The runs of a set, one after the other.
use Rattle.std.proofs.Common.{◌≡◌, ℕ, zero, suc, ◌+◌, ◌-◌, ◌<◌, ◌≤◌, Bool, true, false, cond, eqb, inl, inr, List, [], ◌∷◌, ◌++◌, length, map, filter, decimal, refl, sym, ap, ◌∙◌, arith, length-append}
use Rattle.std.specs.Prelude.{nat_eq}
use Rattle.std.specs.List.{range_with_len, join_with_byte, flat_map}
use Rattle.std.proofs.lemmas.Bool.{eq-eqb, ne_eqb, eqb-false, or_parts, cases_lt}
use Rattle.std.proofs.lemmas.Fmt.{length-decimal-le}
use Rattle.std.proofs.lemmas.List.Folds.{flat_map-map}
use Rattle.lists.proofs.Filters.{filter-fails, filter-none, filter-passes}
use Rattle.num_text.proofs.laws.Pieces.{join_with_byte-cons}
use Rattle.cpu_lists.specs.declared.runs.Run.{Run}
use Rattle.cpu_lists.specs.Sets.{has, is_among, numbers_from, numbers_of}
use Rattle.cpu_lists.specs.Printed.{joined, runs_of, run_text, element_text, list_text}
use Rattle.cpu_lists.proofs.LeastNumbers.{is_among-filter}

-- ---- a run, and what stands after it

-- a run that does not begin next to a number does not take it in
joined-apart : (x n : ℕ) (runs : List Run) → eqb x (n + 1) ≡ false → joined n (joined x runs) ≡ record { first = n; last = n } ∷ joined x runs
joined-apart x n [] apart = rw apart refl
joined-apart x n (run ∷ runs) apart = step (eqb run.first (x + 1))
  where
    step : (b : Bool) → joined n (cond b (record { first = x; last = run.last } ∷ runs) (record { first = x; last = x } ∷ run ∷ runs)) ≡ record { first = n; last = n } ∷ cond b (record { first = x; last = run.last } ∷ runs) (record { first = x; last = x } ∷ run ∷ runs)
    step true = rw apart refl
    step false = rw apart refl

-- a number whose next is not there is a run of its own
joined-alone : (n : ℕ) (xs : List ℕ) → is_among xs (n + 1) ≡ false → joined n (runs_of xs) ≡ record { first = n; last = n } ∷ runs_of xs
joined-alone n [] h = refl
joined-alone n (x ∷ xs) h = joined-apart x n (runs_of xs) (other_way (or_parts (nat_eq (n + 1) x) (is_among xs (n + 1)) h).0)
  where
    other_way : nat_eq (n + 1) x ≡ false → eqb x (n + 1) ≡ false
    other_way e = ne_eqb x (n + 1) (λ same. eqb-false (n + 1) x e (sym same))

-- a range is one run, where what stands after it does not go on
runs_of-range : (a r : ℕ) (xs : List ℕ) → is_among xs (a + r + 1) ≡ false → runs_of (range_with_len a (suc r) ++ xs) ≡ record { first = a; last = a + r } ∷ runs_of xs
runs_of-range a zero xs h =
    let at : a + 0 ≡ a = omega arith in
    let next : is_among xs (a + 1) ≡ false = rw at at h in
    rw at (joined-alone a xs next)
runs_of-range a (suc r) xs h =
    let at : a + suc r + 1 ≡ (a + 1) + r + 1 = omega arith in
    let last : (a + 1) + r ≡ a + suc r = omega arith in
    let next : is_among xs ((a + 1) + r + 1) ≡ false = rw at at h in
    ap (joined a) (runs_of-range (a + 1) r xs next) ∙ rw (eq-eqb (a + 1) (a + 1) refl, last) refl

-- the numbers of a set from a bound on
numbers_from-filter : (set from : ℕ) → numbers_from set from ≡ filter (has set) (range_with_len from (64 - from))
unfolding numbers_from
numbers_from-filter set from = refl

-- a set without numbers from a bound on
pub numbers_from-none : (set from : ℕ) → ((k : ℕ) → from ≤ k → k < 64 → has set k ≡ false) → numbers_from set from ≡ []
numbers_from-none set from h = numbers_from-filter set from ∙ filter-none (has set) from (64 - from) (λ k low high. h k low (omega arith))

-- the first run of a set from a number on, and the runs after it
pub runs_of-first_run : (set from first end : ℕ) → from ≤ first → first < end → end ≤ 64 → ((k : ℕ) → from ≤ k → k < first → has set k ≡ false) → ((k : ℕ) → first ≤ k → k < end → has set k ≡ true) → (end < 64 → has set end ≡ false)
    → runs_of (numbers_from set from) ≡ record { first = first; last = end - 1 } ∷ runs_of (numbers_from set (end - 1 + 1))
runs_of-first_run set from first end low some high before inside stops =
    ap runs_of (parts ∙ ap (λ (n : ℕ). range_with_len first n ++ numbers_from set end) length_is)
    ∙ runs_of-range first (end - 1 - first) (numbers_from set end) (ap (is_among (numbers_from set end)) end_is ∙ not_there)
    ∙ ap (λ (n : ℕ). record { first = first; last = n } ∷ runs_of (numbers_from set end)) last_is
    ∙ ap (λ (n : ℕ). record { first = first; last = end - 1 } ∷ runs_of (numbers_from set n)) next_is
  where
    length_is : end - first ≡ suc (end - 1 - first)
    length_is = omega arith

    end_is : first + (end - 1 - first) + 1 ≡ end
    end_is = omega arith

    last_is : first + (end - 1 - first) ≡ end - 1
    last_is = omega arith

    next_is : end ≡ end - 1 + 1
    next_is = omega arith

    parts : numbers_from set from ≡ range_with_len first (end - first) ++ numbers_from set end
    parts =
        let at : from + (first - from) ≡ first = omega arith in
        let rest : 64 - from - (first - from) ≡ 64 - first = omega arith in
        let at_end : first + (end - first) ≡ end = omega arith in
        let rest_end : 64 - first - (end - first) ≡ 64 - end = omega arith in
        numbers_from-filter set from ∙ filter-fails (has set) from (first - from) (64 - from) (omega arith) (λ k a b. before k a (omega arith))
        ∙ ap (λ (n : ℕ). filter (has set) (range_with_len n (64 - from - (first - from)))) at
        ∙ ap (λ (n : ℕ). filter (has set) (range_with_len first n)) rest
        ∙ filter-passes (has set) first (end - first) (64 - first) (omega arith) (λ k a b. inside k a (omega arith))
        ∙ ap (λ (n : ℕ). range_with_len first (end - first) ++ filter (has set) (range_with_len n (64 - first - (end - first)))) at_end
        ∙ ap (λ (n : ℕ). range_with_len first (end - first) ++ filter (has set) (range_with_len end n)) rest_end
        ∙ ap (λ (xs : List ℕ). range_with_len first (end - first) ++ xs) (sym (numbers_from-filter set end))

    not_there : is_among (numbers_from set end) end ≡ false
    not_there = ap (λ (xs : List ℕ). is_among xs end) (numbers_from-filter set end) ∙ elim (cases_lt end 64) [
      | inl lt ↦ is_among-filter (has set) (range_with_len end (64 - end)) end ∙ rw (stops lt) refl
      | inr le ↦ (let none : 64 - end ≡ 0 = omega arith in rw none refl)
    ]

-- ---- the text, a run at a time

-- the text of runs, the first of which is the first of the text or not
abbrev pub text_of : Bool → List Run → List ℕ
text_of is_first runs = cond is_first (join_with_byte 44 (map run_text runs)) (flat_map (λ (run : Run). 44 ∷ run_text run) runs)

-- the text of no runs
pub text_of-nil : (is_first : Bool) → text_of is_first [] ≡ []
text_of-nil true = refl
text_of-nil false = refl

-- the text of a run and others
pub text_of-cons : (is_first : Bool) (run : Run) (runs : List Run) → text_of is_first (run ∷ runs) ≡ element_text is_first run ++ text_of false runs
text_of-cons true run runs = join_with_byte-cons 44 (run_text run) (map run_text runs) ∙ ap (λ (rest : List ℕ). run_text run ++ rest) (flat_map-map (λ (y : List ℕ). 44 ∷ y) run_text runs)
text_of-cons false run runs = refl

-- the text of a set is that of its runs
pub list_text-text_of : (set : ℕ) → list_text set ≡ text_of true (runs_of (numbers_from set 0))
unfolding list_text numbers_of numbers_from
list_text-text_of set = refl

-- a number below 64 has two digits at most
pub length-decimal_short : (n : ℕ) → n < 64 → length (decimal n) ≤ 2
length-decimal_short n small = length-decimal-le 2 n (omega arith) (omega arith) (omega arith)

-- how long the text of a run is
pub length-run_text : (run : Run) → length (run_text run) ≡ cond (eqb run.first run.last) (length (decimal run.first)) (length (decimal run.first) + 1 + length (decimal run.last))
length-run_text run = step (eqb run.first run.last)
  where
    step : (b : Bool) → length (cond b (decimal run.first) (decimal run.first ++ 45 ∷ decimal run.last)) ≡ cond b (length (decimal run.first)) (length (decimal run.first) + 1 + length (decimal run.last))
    step true = refl
    step false = omega (arith, length-append (decimal run.first) (45 ∷ decimal run.last))
