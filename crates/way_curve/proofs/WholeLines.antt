-- A trace after a whole line.
use Rattle.std.proofs.Common.{◌≡◌, ℕ, ◌+◌, ◌<◌, Bool, true, false, ◌==◌, List, [], ◌∷◌, ◌++◌, length, get_or, Some, None, inl, inr, sym, ap, ◌∙◌, arith, append_assoc, length-append, subst}
use Rattle.std.specs.Prelude.{Err}
use Rattle.std.specs.List.{All, after_first, before_first, list_any, position_or_len}
use Rattle.std.specs.Str.Lines.{lines, strip_carriage_return}
use Rattle.std.proofs.lemmas.Bool.{cases_lt, eqb-true}
use Rattle.std.proofs.lemmas.Grind.{common_steps}
use Rattle.std.proofs.lemmas.List.Sums.{fails_before_first, passes_at_first, split_at_first}
use Rattle.lackey_text.specs.declared.line.LackeyLine.{LackeyLine}
use Rattle.lackey_text.specs.Uses.{uses_of}
use Rattle.lists.proofs.Cuts.{list_any-position_ge}
use Rattle.way_curve.specs.Reading.{HasRead, IsOpen, ReadsAs, ReadsOn, TraceValue}
use Rattle.way_curve.specs.Filtering.{AddFiltered, Filtering}
use Rattle.way_curve.specs.TraceTexts.{said_of, trace_of}
use Rattle.way_curve.proofs.Steps.{HasRead-good, HasRead-newline, bad-newline}

abbrev pub newline : ℕ → Bool
newline b = b == 10

-- what a newline cuts in two, and no newline stands before it
pub cut_at_newline : (text : List ℕ) → list_any newline text ≡ true → (text ≡ before_first newline text ++ 10 ∷ after_first newline text) × IsOpen (before_first newline text)
cut_at_newline text some =
    let there : position_or_len newline text < length text = elim (cases_lt (position_or_len newline text) (length text)) [
      | inl less ↦ less
      | inr past ↦ (let none : list_any newline text ≡ false = list_any-position_ge newline text past in absurd cc)
    ] in
    let is : get_or text (position_or_len newline text) 0 ≡ 10 = eqb-true (get_or text (position_or_len newline text) 0) 10 (passes_at_first newline text 0 there) in
    let is_open : All (λ (x : ℕ). (x == 10) ≡ false) (before_first newline text) = λ k e m. let k' = fails_before_first newline text k e (grind (arith, common_steps)) in grind (arith, common_steps) in
    (split_at_first newline text 0 there ∙ ap (λ b. before_first newline text ++ b ∷ after_first newline text) is, is_open)

-- text after text
pub ReadsOn-through : (a b c : TraceValue) (xs ys : List ℕ) → ReadsOn a b xs → ReadsOn b c ys → ReadsOn a c (xs ++ ys)
ReadsOn-through a b c xs ys first second = λ filtering text read. subst (HasRead filtering c) (append_assoc text xs ys) (second filtering (text ++ xs) (first filtering text read))

-- bytes of a line that begins here
pub HasRead-open : (filtering : Filtering) (t : TraceValue) (text line : List ℕ) → t.is_bad ≡ false → HasRead filtering t text → t.rest ≡ [] → IsOpen line
    → HasRead filtering (record t { rest = line }) (text ++ line)
HasRead-open filtering t text line is_good read empty is_open =
    let good = HasRead-good filtering t text is_good read in
    subst (λ (bad : Bool). ReadsAs bad filtering (record t { rest = line }) (text ++ line)) (sym is_good) (record {
      whole = good.whole;
      uses = good.uses;
      begins = λ more. ap lines (append_assoc text line more) ∙ (good.begins (line ++ more) ∙ ap (λ (l : List ℕ). good.whole ++ lines (l ++ (line ++ more))) empty);
      is_open = is_open;
      said = good.said;
      count = good.count;
      counted = good.counted;
    })

-- a whole line that is one of a trace
pub ReadsOn-line : (t new : TraceValue) (line : List ℕ) (said : LackeyLine) → t.is_bad ≡ false → t.rest ≡ [] → IsOpen line → said_of (strip_carriage_return line) ≡ Some said
    → new.is_bad ≡ false → new.ended ≡ t.ended + 1 → new.rest ≡ [] → AddFiltered t.curves new.curves (uses_of said) → ReadsOn t new (line ++ 10 ∷ [])
ReadsOn-line t new line said is_good empty is_open is still_good one_more fresh counts = λ filtering text read.
    subst (HasRead filtering new) (append_assoc text line (10 ∷ []))
    (HasRead-newline filtering (record t { rest = line }) (text ++ line) is_good (HasRead-open filtering t text line is_good read empty is_open) new said is still_good one_more fresh counts)

-- a whole line that is none
pub bad-line : (filtering : Filtering) (t : TraceValue) (text line : List ℕ) → t.is_bad ≡ false → HasRead filtering t text → t.rest ≡ [] → IsOpen line
    → said_of (strip_carriage_return line) ≡ None → (n : ℕ) → n ≡ t.ended → (more : List ℕ) → trace_of ((text ++ (line ++ 10 ∷ [])) ++ more) ≡ Err (n + 1)
bad-line filtering t text line is_good read empty is_open none n same more =
    ap (λ (l : List ℕ). trace_of (l ++ more)) (sym (append_assoc text line (10 ∷ [])))
    ∙ bad-newline filtering (record t { rest = line }) (text ++ line) is_good (HasRead-open filtering t text line is_good read empty is_open) n none same more

-- a line and its newline, and then the rest
pub ReadsOn-line-and : (a b c : TraceValue) (left line rest : List ℕ) → left ≡ line ++ 10 ∷ rest → ReadsOn a b (line ++ 10 ∷ []) → ReadsOn b c rest → ReadsOn a c left
ReadsOn-line-and a b c left line rest is first second =
    subst (ReadsOn a c) (append_assoc line (10 ∷ []) rest ∙ sym is) (ReadsOn-through a b c (line ++ 10 ∷ []) rest first second)

-- how long they are
pub length-cut : (left line rest : List ℕ) → left ≡ line ++ 10 ∷ rest → length left ≡ length line + (1 + length rest)
length-cut left line rest is = ap length is ∙ (length-append line (10 ∷ rest) ∙ omega arith)
