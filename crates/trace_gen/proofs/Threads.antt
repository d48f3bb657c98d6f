-- The threads of the second phase, read.
use Rattle.std.proofs.Common.{◌≡◌, ℕ, suc, ◌+◌, ◌%◌, ◌-◌, ◌^◌, ◌<◌, ◌≤◌, Bool, List, [], ◌∷◌, ◌++◌, cond, drop, length, map, min, Some, Ok, refl, sym, ap, ◌∙◌, arith, append_assoc}
use Rattle.std.specs.Prelude.{codes, decimal}
use Rattle.std.specs.List.{AllByRecursion}
use Rattle.std.proofs.lemmas.Bool.{le-ltb, lt-ltb}
use Rattle.std.proofs.lemmas.List.{append-nil}
use Rattle.num_text.specs.Numbers.{dec_of, num_of, number_of}
use Rattle.num_text.proofs.laws.Digits.{AllDigits-decimal, AllDigits-hexadecimal_digits, has_prefix-digits}
use Rattle.num_text.proofs.laws.Prints.{decimal_reads_back}
use Rattle.rc_base.specs.Texts.{is_text}
use Rattle.script_ops.specs.declared.limits.TheConstants.{MOST_WEIGHT}
use Rattle.script_ops.specs.declared.op.Op.{Op}
use Rattle.script_text.specs.declared.kind.LinePosition.TheVariants.{Thread}
use Rattle.script_lines.specs.Arguments.{access_of, use_of}
use Rattle.script_text.specs.Kinds.{access_kind, command_kind, kind_of, part_kind}
use Rattle.line_words.specs.Lines.{behind_word, words}
use Rattle.script_text.specs.Meaning.{line_meaning, means, word_means}
use Rattle.script_text.specs.States.{ReaderState}
use Rattle.script_lines.specs.Tasks.{task_of}
use Rattle.trace_gen.specs.Scripts.{access, accesses, trace_machine}
use Rattle.trace_gen.specs.Trace.{access_line, address, cpu_of, thread_lines}
use Rattle.trace_gen.proofs.Opening.{second, trace_ranges}
use Rattle.trace_gen.proofs.Steps.{meaning_of, meaning_of-cons}
use Rattle.trace_gen.proofs.Words.{IsPlain, IsPlain-spaced, IsWord, IsWord-decimal, good-spaced, words-spaced}

-- ---- numbers in arguments

-- a decimal number is an address
num_of-decimal : (n : ℕ) → n < 2 ^ 64 → num_of (decimal n) ≡ Some n
num_of-decimal n small =
    ap (λ (b : Bool). cond b (number_of 16 (drop 2 (decimal n))) (dec_of (decimal n))) (has_prefix-digits (decimal n) (AllDigits-hexadecimal_digits (decimal n) (AllDigits-decimal n small)))
    ∙ decimal_reads_back n small

-- the words of numbers that fit the machine
access_of-numbers : (task cpu addr : List ℕ) (t c a : ℕ) → dec_of task ≡ Some t → dec_of cpu ≡ Some c → num_of addr ≡ Some a → t < 2 ^ 64 → c < 8 → a < 2 ^ 48 → access_of trace_machine (task ∷ cpu ∷ addr ∷ []) ≡ Some (record { task = t; cpu = c; at = a })
unfolding use_of
access_of-numbers task cpu addr t c a t_word c_word a_word t_small c_small a_small =
    let t_capped : min t (2 ^ 64 - 1) ≡ t = omega arith in
    rw (t_word, c_word, a_word, t_capped, lt-ltb c 8 c_small, lt-ltb a (2 ^ 48) a_small) refl

-- a task of the trace
pub record IsTask (t : ℕ) : Type 0 where
  pub some : 1 ≤ t
  pub few : t ≤ 4
  pub declared : task_of trace_ranges t ≡ Some t

-- what a task has is small
record IsSmall (t r : ℕ) : Type 0 where
  task : t < 2 ^ 64
  cpu : cpu_of t < 8
  cpu_word : cpu_of t < 2 ^ 64
  addr : address t r < 2 ^ 48
  addr_word : address t r < 2 ^ 64

small : (t r : ℕ) → IsTask t → IsSmall t r
small t r h =
    let lines : r % 4096 < 4096 = omega arith in
    record { task = omega (arith, h.few); cpu = omega (arith, h.few); cpu_word = omega (arith, h.few); addr = omega (arith, h.few, lines); addr_word = omega (arith, h.few, lines) }

-- ---- an access

-- the words of its arguments
abbrev access_words : ℕ → ℕ → List (List ℕ)
access_words t r = decimal t ∷ decimal (cpu_of t) ∷ decimal (address t r) ∷ []

-- they are words
AllByRecursion-access : (t r : ℕ) → IsTask t → AllByRecursion IsWord (access_words t r)
AllByRecursion-access t r h =
    let s = small t r h in
    (IsWord-decimal t s.task, (IsWord-decimal (cpu_of t) s.cpu_word, (IsWord-decimal (address t r) s.addr_word, tt)))

-- so is the first of the line
IsWord-access : IsWord (codes "access")
IsWord-access = record { some = omega arith; unbroken = refl; good = refl; no_newline = refl; no_return = refl }

-- the line is plain
IsPlain-access : (t r : ℕ) → IsTask t → IsPlain (access_line t r)
IsPlain-access t r h = IsPlain-spaced 97 (codes "ccess") (access_words t r) (IsWord-access, AllByRecursion-access t r h)

-- an access of such a use
word_means-access : (rest : List ℕ) (order : List ℕ) (threads : List (List Op)) (ops : List Op) (w t r : ℕ) → access_of trace_machine (words rest) ≡ Some (record { task = t; cpu = cpu_of t; at = address t r }) → task_of trace_ranges t ≡ Some t → w + 1 ≤ MOST_WEIGHT
    → word_means (second Thread order threads ops w) (codes "access") rest ≡ Ok (second Thread order threads (ops ++ access t r ∷ []) (w + 1))
unfolding word_means kind_of part_kind command_kind access_kind is_text means
word_means-access rest order threads ops w t r used task light = rw (used, task, le-ltb MOST_WEIGHT (w + 1) light) refl

-- the line
line_meaning-access : (order : List ℕ) (threads : List (List Op)) (ops : List Op) (w t r : ℕ) → IsTask t → w + 1 ≤ MOST_WEIGHT → line_meaning (second Thread order threads ops w) (access_line t r) ≡ Ok (second Thread order threads (ops ++ access t r ∷ []) (w + 1))
unfolding line_meaning
line_meaning-access order threads ops w t r h light =
    let s = small t r h in
    let numbers = access_of-numbers (decimal t) (decimal (cpu_of t)) (decimal (address t r)) t (cpu_of t) (address t r) (decimal_reads_back t s.task) (decimal_reads_back (cpu_of t) s.cpu_word) (num_of-decimal (address t r) s.addr_word) s.task s.cpu s.addr in
    let used : access_of trace_machine (words (behind_word (access_line t r))) ≡ Some (record { task = t; cpu = cpu_of t; at = address t r }) =
    ap (access_of trace_machine) (words-spaced (decimal t) (decimal (cpu_of t) ∷ decimal (address t r) ∷ []) (AllByRecursion-access t r h)) ∙ numbers in
    rw (good-spaced (codes "access" ∷ access_words t r) (IsWord-access, AllByRecursion-access t r h))
    (word_means-access (behind_word (access_line t r)) order threads ops w t r used h.declared light)

-- ---- threads

-- the accesses of a thread
meaning_of-accesses : (t : ℕ) → IsTask t → (order : List ℕ) (threads : List (List Op)) (rs : List ℕ) (ops : List Op) (w : ℕ) → w + length rs ≤ MOST_WEIGHT
    → meaning_of (second Thread order threads ops w) (map (access_line t) rs) ≡ Ok (second Thread order threads (ops ++ accesses t rs) (w + length rs))
meaning_of-accesses t h order threads [] ops w light =
    let none : w ≡ w + 0 = omega arith in
    ap (λ (n : ℕ). Ok (second Thread order threads ops n)) none ∙ ap (λ (os : List Op). Ok (second Thread order threads os (w + 0))) (sym (append-nil ops))
meaning_of-accesses t h order threads (r ∷ rs) ops w light =
    let more : w + 1 + length rs ≡ w + suc (length rs) = omega arith in
    meaning_of-cons (second Thread order threads ops w) (second Thread order threads (ops ++ access t r ∷ []) (w + 1)) (access_line t r) (map (access_line t) rs) (line_meaning-access order threads ops w t r h (omega (arith, light)))
    ∙ meaning_of-accesses t h order threads rs (ops ++ access t r ∷ []) (w + 1) (omega (arith, light))
    ∙ ap (λ (n : ℕ). Ok (second Thread order threads ((ops ++ access t r ∷ []) ++ accesses t rs) n)) more
    ∙ ap (λ (os : List Op). Ok (second Thread order threads os (w + suc (length rs)))) (append_assoc ops (access t r ∷ []) (accesses t rs))

-- a thread
pub meaning_of-thread : (t : ℕ) → IsTask t → (s : ReaderState) (order : List ℕ) (threads : List (List Op)) (rs : List ℕ) (w : ℕ) → line_meaning s (codes "thread") ≡ Ok (second Thread order threads [] w) → w + length rs ≤ MOST_WEIGHT
    → meaning_of s (thread_lines t rs) ≡ Ok (second Thread order threads (accesses t rs) (w + length rs))
meaning_of-thread t h s order threads rs w opened light =
    meaning_of-cons s (second Thread order threads [] w) (codes "thread") (map (access_line t) rs) opened ∙ meaning_of-accesses t h order threads rs [] w light

-- its lines are plain
pub AllByRecursion-thread : (t : ℕ) → IsTask t → (rs : List ℕ) → AllByRecursion IsPlain (thread_lines t rs)
AllByRecursion-thread t h rs = (record { some = omega arith; no_newline = refl; no_return = refl }, each rs)
  where
    each : (xs : List ℕ) → AllByRecursion IsPlain (map (access_line t) xs)
    each [] = tt
    each (x ∷ xs) = (IsPlain-access t x h, each xs)
