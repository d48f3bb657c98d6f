-- How long traces are at most.
use Rattle.std.proofs.Common.{◌≡◌, ℕ, ◌+◌, ◌*◌, ◌%◌, ◌<◌, ◌≤◌, List, [], ◌∷◌, ◌++◌, length, map, refl, ap, ◌∙◌, arith, length-append}
use Rattle.std.specs.Prelude.{codes, decimal}
use Rattle.std.specs.List.{flat_map, range_with_len}
use Rattle.std.proofs.lemmas.Grind.{flat_map-append}
use Rattle.std.proofs.lemmas.List.Folds.{flat_map-map}
use Rattle.std.proofs.lemmas.List.FromFn.{length-map-range_with_len}
use Rattle.num_text.proofs.laws.Pieces.{join_with_byte-cons}
use Rattle.script_ops.specs.declared.limits.TheConstants.{MOST_SCRIPT_BYTES}
use Rattle.trace_gen.specs.declared.making.TheConstants.{MOST_THREAD_ACCESSES}
use Rattle.trace_gen.specs.Draws.{draw_at}
use Rattle.trace_gen.specs.Trace.{access_line, address, cpu_of, ended, opening_lines, order_draws, order_line, order_number, task_draws, text_of, thread_lines, trace_text}
use Rattle.num_text.proofs.laws.Prints.{length-decimal}

-- the text of more lines
length-text_of-append : (xs ys : List (List ℕ)) → length (text_of (xs ++ ys)) ≡ length (text_of xs) + length (text_of ys)
length-text_of-append xs ys = ap length (flat_map-append ended xs ys) ∙ length-append (text_of xs) (text_of ys)

-- a number of an order and its space
length-order_number : (r : ℕ) → length (decimal (order_number r)) ≤ 20
length-order_number r = length-decimal (order_number r) (omega arith)

-- the words of an order
length-order_pieces : (rs : List ℕ) → length (flat_map (λ (r : ℕ). 32 ∷ decimal (order_number r)) rs) ≤ 21 * length rs
length-order_pieces [] = omega arith
length-order_pieces (r ∷ rs) = omega (arith, length-append (32 ∷ decimal (order_number r)) (flat_map (λ (x : ℕ). 32 ∷ decimal (order_number x)) rs), length-order_number r, length-order_pieces rs)

-- the line of an order
length-order_line : (rs : List ℕ) → length (ended (order_line rs)) ≤ 21 * length rs + 6
length-order_line rs =
    let words : order_line rs ≡ codes "order" ++ flat_map (λ (r : ℕ). 32 ∷ decimal (order_number r)) rs = join_with_byte-cons 32 (codes "order") (map (λ (r : ℕ). decimal (order_number r)) rs) ∙ ap (λ (t : List ℕ). codes "order" ++ t) (flat_map-map (λ (y : List ℕ). 32 ∷ y) (λ (r : ℕ). decimal (order_number r)) rs) in
    omega (arith, length-append (order_line rs) (10 ∷ []), ap length words, length-append (codes "order") (flat_map (λ (r : ℕ). 32 ∷ decimal (order_number r)) rs), length-order_pieces rs)

-- the line of an access by its words
length-words : (a b c : List ℕ) → length a ≤ 20 → length b ≤ 20 → length c ≤ 20 → length (ended (codes "access" ++ 32 ∷ (a ++ 32 ∷ (b ++ 32 ∷ c)))) ≤ 70
length-words a b c la lb lc = omega (arith, length-append (a ++ 32 ∷ (b ++ 32 ∷ c)) (10 ∷ []), length-append a (32 ∷ (b ++ 32 ∷ c)), length-append b (32 ∷ c))

-- the line of an access
length-access_line : (t r : ℕ) → t ≤ 4 → length (ended (access_line t r)) ≤ 70
length-access_line t r few =
    let lines : r % 4096 < 4096 = omega arith in
    length-words (decimal t) (decimal (cpu_of t)) (decimal (address t r)) (length-decimal t (omega arith)) (length-decimal (cpu_of t) (omega arith)) (length-decimal (address t r) (omega (arith, few, lines)))

-- the lines of accesses
length-accesses : (t : ℕ) (rs : List ℕ) → t ≤ 4 → length (text_of (map (access_line t) rs)) ≤ 70 * length rs
length-accesses t [] few = omega arith
length-accesses t (r ∷ rs) few = omega (arith, length-append (ended (access_line t r)) (text_of (map (access_line t) rs)), length-access_line t r few, length-accesses t rs few)

-- the lines of a thread
length-thread : (n t : ℕ) → t ≤ 4 → length (text_of (thread_lines t (task_draws n t))) ≤ 70 * n + 7
length-thread n t few =
    let draws : length (task_draws n t) ≡ n = length-map-range_with_len (draw_at n) (t * n + 1) n in
    omega (arith, draws, length-accesses t (task_draws n t) few)

-- the lines of the threads
length-threads : (n : ℕ) → length (text_of (flat_map (λ t. thread_lines t (task_draws n t)) (range_with_len 1 4))) ≤ 280 * n + 28
length-threads n =
    let f : ℕ → List (List ℕ) = λ t. thread_lines t (task_draws n t) in
    omega (arith, length-text_of-append (f 1) (f 2 ++ (f 3 ++ (f 4 ++ []))), length-text_of-append (f 2) (f 3 ++ (f 4 ++ [])), length-text_of-append (f 3) (f 4 ++ []), length-text_of-append (f 4) [], length-thread n 1 (omega arith), length-thread n 2 (omega arith), length-thread n 3 (omega arith), length-thread n 4 (omega arith))

-- the whole
pub length-trace_text : (n : ℕ) → n ≤ MOST_THREAD_ACCESSES → length (trace_text n) ≤ MOST_SCRIPT_BYTES
unfolding trace_text
length-trace_text n few =
    let large : MOST_THREAD_ACCESSES ≡ 200000 = refl in
    let room : MOST_SCRIPT_BYTES ≡ 67108864 = refl in
    let opening : length (text_of opening_lines) ≤ 512 = omega arith in
    let order : length (order_draws n) ≡ n = length-map-range_with_len (draw_at n) 1 n in
    let threads = flat_map (λ (t : ℕ). thread_lines t (task_draws n t)) (range_with_len 1 4) in
    let rest : length (text_of (order_line (order_draws n) ∷ threads)) ≡ length (ended (order_line (order_draws n))) + length (text_of threads) = length-append (ended (order_line (order_draws n))) (text_of threads) in
    omega (arith, length-text_of-append opening_lines (order_line (order_draws n) ∷ threads), opening, order, rest, length-order_line (order_draws n), length-threads n)
