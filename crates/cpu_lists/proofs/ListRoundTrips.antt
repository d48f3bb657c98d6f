-- Printed lists are read again.
use Rattle.std.proofs.Common.{◌≡◌, ℕ, zero, suc, ◌+◌, ◌-◌, ◌^◌, ◌<◌, ◌≤◌, Bool, true, false, cond, eqb, List, [], ◌∷◌, ◌++◌, length, map, filter, decimal, Some, refl, sym, ap, subst, ◌∙◌, arith, length-append}
use Rattle.std.specs.Char.{digit_value}
use Rattle.std.specs.Option.{option_map}
use Rattle.std.specs.List.{list_any, slice_split, join_with_byte, range_with_len, flat_map, AllByRecursion}
use Rattle.std.proofs.lemmas.Bool.{eqb-true, le-leb, lt-ltb}
use Rattle.std.proofs.lemmas.Fmt.{decimal_nonempty}
use Rattle.std.proofs.lemmas.List.Folds.{list_any-append}
use Rattle.num_text.specs.Signs.{dash}
use Rattle.num_text.proofs.laws.Digits.{eqb-digit, list_any-digits, AllDigits-hexadecimal_digits, AllDigits-decimal}
use Rattle.num_text.proofs.laws.Pieces.{Cut-append, join_with_byte-cons, slice_split-join_with_byte}
use Rattle.num_text.proofs.laws.Prints.{decimal_reads_back}
use Rattle.cpu_lists.specs.declared.runs.Run.{Run}
use Rattle.cpu_lists.specs.Sets.{has, numbers_of}
use Rattle.cpu_lists.specs.Masks.{comma, each}
use Rattle.cpu_lists.specs.Lists.{number, run_of, numbers_in, list_cpus}
use Rattle.cpu_lists.specs.Printed.{joined, runs_of, run_text, list_text, ListReadsBack}
use Rattle.cpu_lists.proofs.Texts.{list_cpus-pieces, list_cpus-nil}
use Rattle.cpu_lists.proofs.MaskRoundTrips.{Says-numbers_of, comma-digit}

-- a run of numbers below 64
record IsRun (run : Run) : Type 0 where
  order : run.first ≤ run.last
  small : run.last < 64

-- runs that a number joins are runs
IsRun-joined : (n : ℕ) (runs : List Run) → n < 64 → AllByRecursion IsRun runs → AllByRecursion IsRun (joined n runs)
IsRun-joined n [] small all = (record { order = omega arith; small = small }, tt)
IsRun-joined n (run ∷ runs) small all = step (eqb run.first (n + 1)) refl
  where
    step : (b : Bool) → b ≡ eqb run.first (n + 1) → AllByRecursion IsRun (cond b (record { first = n; last = run.last } ∷ runs) (record { first = n; last = n } ∷ run ∷ runs))
    step true e = (record { order = (let next = eqb-true run.first (n + 1) (sym e) in let order = all.0.order in omega arith); small = all.0.small }, all.1)
    step false e = (record { order = omega arith; small = small }, all)

-- the runs of numbers below 64 are runs
IsRun-runs_of : (ns : List ℕ) → AllByRecursion (λ n. n < 64) ns → AllByRecursion IsRun (runs_of ns)
IsRun-runs_of [] all = tt
IsRun-runs_of (n ∷ ns) all = IsRun-joined n (runs_of ns) all.0 (IsRun-runs_of ns all.1)

-- numbers of a range up to 64 are below 64
AllByRecursion-filter_range : (p : ℕ → Bool) (a n : ℕ) → a + n ≤ 64 → AllByRecursion (λ k. k < 64) (filter p (range_with_len a n))
AllByRecursion-filter_range p a zero le = tt
AllByRecursion-filter_range p a (suc n) le = step (p a) (AllByRecursion-filter_range p (a + 1) n (omega arith))
  where
    step : (b : Bool) → AllByRecursion (λ k. k < 64) (filter p (range_with_len (a + 1) n)) → AllByRecursion (λ k. k < 64) (cond b (a ∷ filter p (range_with_len (a + 1) n)) (filter p (range_with_len (a + 1) n)))
    step true rest = (omega arith, rest)
    step false rest = rest

-- the runs of numbers have these numbers
flat_map-joined : (n : ℕ) (runs : List Run) → AllByRecursion IsRun runs → flat_map numbers_in (joined n runs) ≡ n ∷ flat_map numbers_in runs
flat_map-joined n [] all = (let one : n + 1 - n ≡ 1 = omega arith in rw one refl)
flat_map-joined n (run ∷ runs) all = step (eqb run.first (n + 1)) refl
  where
    longer : run.first ≡ n + 1 → range_with_len n (run.last + 1 - n) ≡ n ∷ range_with_len run.first (run.last + 1 - run.first)
    longer next =
        let order = all.0.order in
        let more : run.last + 1 - n ≡ suc (run.last + 1 - run.first) = omega arith in
        ap (range_with_len n) more ∙ ap (λ (a : ℕ). n ∷ range_with_len a (run.last + 1 - run.first)) (sym next)

    step : (b : Bool) → b ≡ eqb run.first (n + 1) → flat_map numbers_in (cond b (record { first = n; last = run.last } ∷ runs) (record { first = n; last = n } ∷ run ∷ runs)) ≡ n ∷ (range_with_len run.first (run.last + 1 - run.first) ++ flat_map numbers_in runs)
    step true e = ap (λ (xs : List ℕ). xs ++ flat_map numbers_in runs) (longer (eqb-true run.first (n + 1) (sym e)))
    step false e = (let one : n + 1 - n ≡ 1 = omega arith in rw one refl)

-- the numbers of the runs of numbers are these
flat_map-runs_of : (ns : List ℕ) → AllByRecursion (λ n. n < 64) ns → flat_map numbers_in (runs_of ns) ≡ ns
flat_map-runs_of [] all = refl
flat_map-runs_of (n ∷ ns) all = flat_map-joined n (runs_of ns) (IsRun-runs_of ns all.1) ∙ ap (λ (rest : List ℕ). n ∷ rest) (flat_map-runs_of ns all.1)

-- a number reads back
number-decimal : (n : ℕ) → n < 64 → number (decimal n) ≡ Some n
number-decimal n small = (let reading = decimal_reads_back n (omega arith) in rw (reading, lt-ltb n (2 ^ 64) (omega arith)) refl)

-- a digit is no dash
dash-digit : (c : ℕ) → digit_value c < 16 → dash c ≡ false
dash-digit c h = eqb-digit c 45 refl h

-- a run reads back
run_of-run_text : (run : Run) → IsRun run → run_of (run_text run) ≡ Some run
run_of-run_text run is = step (eqb run.first run.last) refl
  where
    step : (b : Bool) → b ≡ eqb run.first run.last → run_of (cond b (decimal run.first) (decimal run.first ++ 45 ∷ decimal run.last)) ≡ Some run
    step true e =
        let same : run.first ≡ run.last = eqb-true run.first run.last (sym e) in
        let small : run.first < 64 = (let high = is.small in omega arith) in
        let plain = list_any-digits dash dash-digit (decimal run.first) (AllDigits-hexadecimal_digits (decimal run.first) (AllDigits-decimal run.first (omega arith))) in
        rw (plain, number-decimal run.first small) (ap (λ (n : ℕ). Some (record { first = run.first; last = n })) same)
    step false e =
        let high = is.small in
        let order = is.order in
        let cut = Cut-append dash (decimal run.first) 45 (decimal run.last) (list_any-digits dash dash-digit (decimal run.first) (AllDigits-hexadecimal_digits (decimal run.first) (AllDigits-decimal run.first (omega arith)))) refl in
        rw (cut.any, cut.before, cut.behind, number-decimal run.first (omega arith), number-decimal run.last high, le-leb run.first run.last order) refl

-- so do several
each-run_texts : (runs : List Run) → AllByRecursion IsRun runs → each run_of (map run_text runs) ≡ Some runs
each-run_texts [] all = refl
each-run_texts (run ∷ runs) all = rw (run_of-run_text run all.0, each-run_texts runs all.1) refl

-- the text of a run has no comma
list_any-run_text : (run : Run) → IsRun run → list_any comma (run_text run) ≡ false
list_any-run_text run is = step (eqb run.first run.last)
  where
    plain : (n : ℕ) → n < 64 → list_any comma (decimal n) ≡ false
    plain n small = list_any-digits comma comma-digit (decimal n) (AllDigits-hexadecimal_digits (decimal n) (AllDigits-decimal n (omega arith)))

    first_small : run.first < 64
    first_small = (let order = is.order in let high = is.small in omega arith)

    step : (b : Bool) → list_any comma (cond b (decimal run.first) (decimal run.first ++ 45 ∷ decimal run.last)) ≡ false
    step true = plain run.first first_small
    step false = list_any-append comma (decimal run.first) (45 ∷ decimal run.last) ∙ rw (plain run.first first_small, plain run.last is.small) refl

-- those of several have none
AllByRecursion-run_texts : (runs : List Run) → AllByRecursion IsRun runs → AllByRecursion (λ x. list_any comma x ≡ false) (map run_text runs)
AllByRecursion-run_texts [] all = tt
AllByRecursion-run_texts (run ∷ runs) all = (list_any-run_text run all.0, AllByRecursion-run_texts runs all.1)

-- the text of a run is not empty
length-run_text_some : (run : Run) → IsRun run → 0 < length (run_text run)
length-run_text_some run is = step (eqb run.first run.last)
  where
    some : 0 < length (decimal run.first)
    some = (let order = is.order in let high = is.small in decimal_nonempty run.first (omega arith))

    step : (b : Bool) → 0 < length (cond b (decimal run.first) (decimal run.first ++ 45 ∷ decimal run.last))
    step true = some
    step false = omega (arith, length-append (decimal run.first) (45 ∷ decimal run.last))

-- the texts of runs with commas between read back
list_cpus-join_with_byte : (runs : List Run) → AllByRecursion IsRun runs → list_cpus (join_with_byte 44 (map run_text runs)) ≡ Some (flat_map numbers_in runs)
list_cpus-join_with_byte [] all = list_cpus-nil
list_cpus-join_with_byte (run ∷ runs) all =
    let pieces = map run_text (run ∷ runs) in
    let text = join_with_byte 44 pieces in
    let some : 0 < length text = subst (λ (t : List ℕ). 0 < length t) (sym (join_with_byte-cons 44 (run_text run) (map run_text runs))) (omega (arith, length-run_text_some run all.0, length-append (run_text run) (flat_map (λ (y : List ℕ). 44 ∷ y) (map run_text runs)))) in
    let parts : slice_split comma text ≡ pieces = slice_split-join_with_byte comma 44 refl pieces (omega arith) (AllByRecursion-run_texts (run ∷ runs) all) in
    list_cpus-pieces text some
    ∙ ap (λ (ps : List (List ℕ)). option_map (flat_map numbers_in) (each run_of ps)) parts
    ∙ ap (option_map (flat_map numbers_in)) (each-run_texts (run ∷ runs) all)

-- the numbers of a set of 64 are below 64
AllByRecursion-numbers_of : (set : ℕ) → AllByRecursion (λ k. k < 64) (numbers_of 64 set)
unfolding numbers_of
AllByRecursion-numbers_of set = AllByRecursion-filter_range (has set) 0 64 (omega arith)

-- the text of a set reads back as its numbers
list_cpus-list_text : (set : ℕ) → list_cpus (list_text set) ≡ Some (numbers_of 64 set)
unfolding list_text
list_cpus-list_text set = list_cpus-join_with_byte (runs_of (numbers_of 64 set)) (IsRun-runs_of (numbers_of 64 set) (AllByRecursion-numbers_of set)) ∙ ap Some (flat_map-runs_of (numbers_of 64 set) (AllByRecursion-numbers_of set))

-- each printed list reads back
pub list_reads_back : ListReadsBack
list_reads_back cpus set few small = rw (list_cpus-list_text set) (Says-numbers_of cpus 64 set few small)
