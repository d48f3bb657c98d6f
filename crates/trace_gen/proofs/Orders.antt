-- The order of the second phase, read.
use Rattle.std.proofs.Common.{◌≡◌, ℕ, ◌^◌, ◌<◌, ◌≤◌, List, [], ◌∷◌, ◌++◌, length, map, Option, Some, Ok, option_and_then, refl, sym, ap, ◌∙◌, arith, append_assoc}
use Rattle.std.specs.Prelude.{codes, decimal}
use Rattle.std.specs.List.{AllByRecursion}
use Rattle.std.proofs.lemmas.Bool.{le-ltb, lt-ltb}
use Rattle.std.proofs.lemmas.List.{append-nil, length-map}
use Rattle.num_text.specs.Numbers.{below, dec_of}
use Rattle.num_text.proofs.laws.Prints.{decimal_reads_back}
use Rattle.rc_base.specs.Texts.{is_text}
use Rattle.script_ops.specs.declared.limits.TheConstants.{MOST_ORDER}
use Rattle.script_text.specs.declared.kind.LinePosition.TheVariants.{Opened, Ordered}
use Rattle.script_lines.specs.Arguments.{order_from, order_of}
use Rattle.script_text.specs.Kinds.{access_kind, command_kind, kind_of, part_kind}
use Rattle.line_words.specs.Lines.{behind_word, words}
use Rattle.script_text.specs.Meaning.{line_meaning, means, word_means}
use Rattle.trace_gen.specs.Trace.{order_line, order_number}
use Rattle.trace_gen.proofs.Opening.{second}
use Rattle.trace_gen.proofs.Words.{IsPlain, IsPlain-spaced, IsWord, IsWord-decimal, good-spaced, words-spaced}

-- the words of the numbers of an order
abbrev pub order_words : List ℕ → List (List ℕ)
order_words rs = map (λ r. decimal (order_number r)) rs

-- each is a word
AllByRecursion-order : (rs : List ℕ) → AllByRecursion IsWord (order_words rs)
AllByRecursion-order [] = tt
AllByRecursion-order (r ∷ rs) = (IsWord-decimal (order_number r) (small r), AllByRecursion-order rs)
  where
    small : (r : ℕ) → order_number r < 2 ^ 64
    small r = omega arith

-- so is the first of the line
IsWord-order : IsWord (codes "order")
IsWord-order = record { some = omega arith; unbroken = refl; good = refl; no_newline = refl; no_return = refl }

-- the line is plain
pub IsPlain-order : (rs : List ℕ) → IsPlain (order_line rs)
IsPlain-order rs = IsPlain-spaced 111 (codes "rder") (order_words rs) (IsWord-order, AllByRecursion-order rs)

-- a number that is read
below-order_number : (r : ℕ) → below (2 ^ 32) (dec_of (decimal (order_number r))) ≡ Some (order_number r)
below-order_number r =
    let small : order_number r < 2 ^ 32 = omega arith in
    ap (below (2 ^ 32)) (decimal_reads_back (order_number r) (omega arith)) ∙ rw (lt-ltb (order_number r) (2 ^ 32) small) refl

-- the numbers that are read
order_from-words : (before rs : List ℕ) → order_from before (order_words rs) ≡ Some (before ++ map order_number rs)
unfolding order_from
order_from-words before [] = ap (λ (ns : List ℕ). Some ns) (sym (append-nil before))
order_from-words before (r ∷ rs) =
    ap (λ (o : Option ℕ). option_and_then {U = List ℕ} (λ (n : ℕ). order_from (before ++ n ∷ []) (order_words rs)) o) (below-order_number r)
    ∙ order_from-words (before ++ order_number r ∷ []) rs
    ∙ ap (λ (ns : List ℕ). Some ns) (append_assoc before (order_number r ∷ []) (map order_number rs))

-- an order line with these numbers
word_means-order : (rest ns : List ℕ) → order_of (words rest) ≡ Some ns → length ns ≤ MOST_ORDER → word_means (second Opened [] [] [] 21) (codes "order") rest ≡ Ok (second Ordered ns [] [] 21)
unfolding word_means kind_of part_kind command_kind access_kind is_text means
word_means-order rest ns e few = rw (e, le-ltb MOST_ORDER (length ns) few) refl

-- the line
pub line_meaning-order : (r : ℕ) (rs : List ℕ) → length (r ∷ rs) ≤ MOST_ORDER → line_meaning (second Opened [] [] [] 21) (order_line (r ∷ rs)) ≡ Ok (second Ordered (map order_number (r ∷ rs)) [] [] 21)
unfolding line_meaning
line_meaning-order r rs few =
    let read : order_of (words (behind_word (order_line (r ∷ rs)))) ≡ Some (map order_number (r ∷ rs)) =
    ap order_of (words-spaced (decimal (order_number r)) (order_words rs) (AllByRecursion-order (r ∷ rs))) ∙ order_from-words [] (r ∷ rs) in
    rw (good-spaced (codes "order" ∷ order_words (r ∷ rs)) (IsWord-order, AllByRecursion-order (r ∷ rs)))
    (word_means-order (behind_word (order_line (r ∷ rs))) (map order_number (r ∷ rs)) read (omega (arith, few, length-map (r ∷ rs) order_number)))
