-- Traces are scripts.
use Rattle.std.proofs.Common.{◌≡◌, ℕ, zero, suc, ◌+◌, ◌*◌, ◌≤◌, List, [], ◌∷◌, ◌++◌, length, map, Ok, refl, ap, ◌∙◌, arith}
use Rattle.std.specs.Prelude.{codes}
use Rattle.std.specs.List.{AllByRecursion}
use Rattle.std.proofs.lemmas.List.FromFn.{length-map-range_with_len}
use Rattle.rc_base.specs.Texts.{is_text}
use Rattle.script_ops.specs.declared.op.Op.{Op}
use Rattle.script_text.specs.declared.kind.LinePosition.TheVariants.{Opened, Ordered, Thread}
use Rattle.script_text.specs.Kinds.{kind_of, part_kind}
use Rattle.script_text.specs.Meaning.{line_meaning, means, word_means}
use Rattle.script_text.specs.Reading.{nothing_read, reading_from}
use Rattle.trace_gen.specs.declared.making.TheConstants.{MOST_THREAD_ACCESSES}
use Rattle.trace_gen.specs.Draws.{draw_at, draws_from}
use Rattle.trace_gen.specs.TraceLaws.{TracesAreScripts, TracesSay}
use Rattle.trace_gen.specs.Scripts.{accesses, trace_script}
use Rattle.trace_gen.specs.Trace.{opening_lines, order_draws, order_line, order_number, task_draws, thread_lines, trace_lines, trace_text}
use Rattle.trace_gen.proofs.Lengths.{length-trace_text}
use Rattle.trace_gen.proofs.Opening.{AllByRecursion-opening, meaning_of-opening, second}
use Rattle.trace_gen.proofs.Orders.{IsPlain-order, line_meaning-order}
use Rattle.trace_gen.proofs.Steps.{meaning_of, meaning_of-append, meaning_of-cons, reading_from-meaning_of}
use Rattle.trace_gen.proofs.Threads.{AllByRecursion-thread, IsTask, meaning_of-thread}
use Rattle.trace_gen.proofs.Words.{IsPlain, lines-text_of}
use Rattle.lists.proofs.Recursions.{AllByRecursion-append}

-- ---- the tasks

one : IsTask 1
one = record { some = omega arith; few = omega arith; declared = refl }

two : IsTask 2
two = record { some = omega arith; few = omega arith; declared = refl }

three : IsTask 3
three = record { some = omega arith; few = omega arith; declared = refl }

four : IsTask 4
four = record { some = omega arith; few = omega arith; declared = refl }

-- ---- the threads

-- the first thread, after the order
thread_after_order : (order : List ℕ) (w : ℕ) → line_meaning (second Ordered order [] [] w) (codes "thread") ≡ Ok (second Thread order [] [] w)
unfolding line_meaning word_means kind_of part_kind is_text means
thread_after_order order w = refl

-- the second, the third and the fourth, after another
second_thread : (order : List ℕ) (a : List Op) (w : ℕ) → line_meaning (second Thread order [] a w) (codes "thread") ≡ Ok (second Thread order (a ∷ []) [] w)
unfolding line_meaning word_means kind_of part_kind is_text means
second_thread order a w = refl

third_thread : (order : List ℕ) (a b : List Op) (w : ℕ) → line_meaning (second Thread order (a ∷ []) b w) (codes "thread") ≡ Ok (second Thread order (a ∷ b ∷ []) [] w)
unfolding line_meaning word_means kind_of part_kind is_text means
third_thread order a b w = refl

fourth_thread : (order : List ℕ) (a b c : List Op) (w : ℕ) → line_meaning (second Thread order (a ∷ b ∷ []) c w) (codes "thread") ≡ Ok (second Thread order (a ∷ b ∷ c ∷ []) [] w)
unfolding line_meaning word_means kind_of part_kind is_text means
fourth_thread order a b c w = refl

-- four threads of as many draws, and what is between
abbrev four_threads : List ℕ → List ℕ → List ℕ → List ℕ → List (List ℕ)
four_threads a b c d = thread_lines 1 a ++ (thread_lines 2 b ++ (thread_lines 3 c ++ (thread_lines 4 d ++ [])))

-- what they mean
meaning_of-four : (order a b c d : List ℕ) → length a ≤ 200000 → length b ≤ 200000 → length c ≤ 200000 → length d ≤ 200000
    → meaning_of (second Ordered order [] [] 21) (four_threads a b c d) ≡ Ok (second Thread order (accesses 1 a ∷ accesses 2 b ∷ accesses 3 c ∷ []) (accesses 4 d) (21 + length a + length b + length c + length d))
meaning_of-four order a b c d la lb lc ld =
    meaning_of-append (thread_lines 1 a) (thread_lines 2 b ++ (thread_lines 3 c ++ (thread_lines 4 d ++ []))) (second Ordered order [] [] 21) (second Thread order [] (accesses 1 a) (21 + length a)) (meaning_of-thread 1 one (second Ordered order [] [] 21) order [] a 21 (thread_after_order order 21) (omega arith))
    ∙ meaning_of-append (thread_lines 2 b) (thread_lines 3 c ++ (thread_lines 4 d ++ [])) (second Thread order [] (accesses 1 a) (21 + length a)) (second Thread order (accesses 1 a ∷ []) (accesses 2 b) (21 + length a + length b)) (meaning_of-thread 2 two (second Thread order [] (accesses 1 a) (21 + length a)) order (accesses 1 a ∷ []) b (21 + length a) (second_thread order (accesses 1 a) (21 + length a)) (omega arith))
    ∙ meaning_of-append (thread_lines 3 c) (thread_lines 4 d ++ []) (second Thread order (accesses 1 a ∷ []) (accesses 2 b) (21 + length a + length b)) (second Thread order (accesses 1 a ∷ accesses 2 b ∷ []) (accesses 3 c) (21 + length a + length b + length c)) (meaning_of-thread 3 three (second Thread order (accesses 1 a ∷ []) (accesses 2 b) (21 + length a + length b)) order (accesses 1 a ∷ accesses 2 b ∷ []) c (21 + length a + length b) (third_thread order (accesses 1 a) (accesses 2 b) (21 + length a + length b)) (omega arith))
    ∙ meaning_of-append (thread_lines 4 d) [] (second Thread order (accesses 1 a ∷ accesses 2 b ∷ []) (accesses 3 c) (21 + length a + length b + length c)) (second Thread order (accesses 1 a ∷ accesses 2 b ∷ accesses 3 c ∷ []) (accesses 4 d) (21 + length a + length b + length c + length d)) (meaning_of-thread 4 four (second Thread order (accesses 1 a ∷ accesses 2 b ∷ []) (accesses 3 c) (21 + length a + length b + length c)) order (accesses 1 a ∷ accesses 2 b ∷ accesses 3 c ∷ []) d (21 + length a + length b + length c) (fourth_thread order (accesses 1 a) (accesses 2 b) (accesses 3 c) (21 + length a + length b + length c)) (omega arith))

AllByRecursion-four : (a b c d : List ℕ) → AllByRecursion IsPlain (four_threads a b c d)
AllByRecursion-four a b c d =
    AllByRecursion-append IsPlain (thread_lines 1 a) (thread_lines 2 b ++ (thread_lines 3 c ++ (thread_lines 4 d ++ []))) (AllByRecursion-thread 1 one a)
    (AllByRecursion-append IsPlain (thread_lines 2 b) (thread_lines 3 c ++ (thread_lines 4 d ++ [])) (AllByRecursion-thread 2 two b)
    (AllByRecursion-append IsPlain (thread_lines 3 c) (thread_lines 4 d ++ []) (AllByRecursion-thread 3 three c)
    (AllByRecursion-append IsPlain (thread_lines 4 d) [] (AllByRecursion-thread 4 four d) tt)))

-- ---- the whole

-- the lines of the trace by its draws
abbrev lines_by : List ℕ → List ℕ → List ℕ → List ℕ → List ℕ → List (List ℕ)
lines_by order a b c d = opening_lines ++ order_line order ∷ four_threads a b c d

-- so many draws
length-draws_from : (n place : ℕ) → length (draws_from n place n) ≡ n
length-draws_from n place = length-map-range_with_len (draw_at n) place n

-- what they mean
meaning_of-lines : (r : ℕ) (rs a b c d : List ℕ) → length (r ∷ rs) ≤ 200000 → length a ≤ 200000 → length b ≤ 200000 → length c ≤ 200000 → length d ≤ 200000
    → meaning_of nothing_read (lines_by (r ∷ rs) a b c d) ≡ Ok (second Thread (map order_number (r ∷ rs)) (accesses 1 a ∷ accesses 2 b ∷ accesses 3 c ∷ []) (accesses 4 d) (21 + length a + length b + length c + length d))
meaning_of-lines r rs a b c d lr la lb lc ld =
    meaning_of-append opening_lines (order_line (r ∷ rs) ∷ four_threads a b c d) nothing_read (second Opened [] [] [] 21) meaning_of-opening
    ∙ meaning_of-cons (second Opened [] [] [] 21) (second Ordered (map order_number (r ∷ rs)) [] [] 21) (order_line (r ∷ rs)) (four_threads a b c d) (line_meaning-order r rs (omega (arith, lr)))
    ∙ meaning_of-four (map order_number (r ∷ rs)) a b c d la lb lc ld

-- the script of a trace
pub traces_say : TracesSay
unfolding trace_text trace_script
traces_say zero some few = absurd (omega arith)
traces_say (suc m) some few =
    let n = suc m in
    let large : MOST_THREAD_ACCESSES ≡ 200000 = refl in
    let bound : (place : ℕ) → length (draws_from n place n) ≤ 200000 = λ place. omega (arith, length-draws_from n place, few, large) in
    let plain : AllByRecursion IsPlain (trace_lines n) = AllByRecursion-opening (order_line (order_draws n) ∷ four_threads (task_draws n 1) (task_draws n 2) (task_draws n 3) (task_draws n 4)) (IsPlain-order (order_draws n), AllByRecursion-four (task_draws n 1) (task_draws n 2) (task_draws n 3) (task_draws n 4)) in
    ap (reading_from 0 nothing_read) (lines-text_of (trace_lines n) plain)
    ∙ reading_from-meaning_of (trace_lines n) 0 nothing_read
    (second Thread (map order_number (order_draws n)) (accesses 1 (task_draws n 1) ∷ accesses 2 (task_draws n 2) ∷ accesses 3 (task_draws n 3) ∷ []) (accesses 4 (task_draws n 4)) (21 + length (task_draws n 1) + length (task_draws n 2) + length (task_draws n 3) + length (task_draws n 4)))
    (meaning_of-lines (draw_at n 1) (draws_from n 2 m) (task_draws n 1) (task_draws n 2) (task_draws n 3) (task_draws n 4) (bound 1) (bound (1 * n + 1)) (bound (2 * n + 1)) (bound (3 * n + 1)) (bound (4 * n + 1)))
    refl

-- and that it is one
pub traces_are_scripts : TracesAreScripts
traces_are_scripts n some few = record { script = trace_script n; is = traces_say n some few; short = length-trace_text n few }
