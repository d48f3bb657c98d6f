-- The lines of a text after one byte more, and at its end.
use Rattle.std.proofs.Common.{◌≡◌, ℕ, ◌+◌, ◌<◌, false, ◌==◌, List, [], ◌∷◌, ◌++◌, length, take, Some, None, refl, sym, ap, ◌∙◌, arith, append_assoc, subst, length-append}
use Rattle.std.specs.Prelude.{Ok, Err}
use Rattle.std.proofs.Math.Seq.{take-append_seam}
use Rattle.std.specs.Str.Lines.{lines, strip_carriage_return}
use Rattle.lackey_text.specs.declared.line.LackeyLine.{LackeyLine}
use Rattle.lackey_text.specs.declared.uses.LineUse.{LineUse}
use Rattle.lackey_text.specs.Uses.{uses_of}
use Rattle.way_curve.specs.FilterTexts.{IsBadAt}
use Rattle.way_curve.specs.Joining.{JoinerValue, Joins}
use Rattle.way_curve.specs.Reading.{BeginsWith, IsOpen}
use Rattle.way_curve.specs.TraceTexts.{said_of, trace_of, uses_from}
use Rattle.way_curve.proofs.laws.FirstLines.{BeginsWith-byte, BeginsWith-end, BeginsWith-newline, IsOpen-more, IsOpen-nil, bad_first, lines-last, lines-newline}
use Rattle.way_curve.proofs.UsesFrom.{uses_from-bad, uses_from-one, uses_from-same}

-- no text
pub Joins-nil : (j : JoinerValue) → j.ended ≡ 0 → j.rest ≡ [] → Joins j [] []
unfolding uses_from
Joins-nil j none empty = record {
  whole = [];
  begins = λ more. ap (λ (l : List ℕ). lines (l ++ more)) (sym empty);
  is_open = subst IsOpen (sym empty) IsOpen-nil;
  said = refl;
  count = none;
}

-- a text whose lines are good, and then one that is not
IsBadAt-line : (text : List ℕ) (before : ℕ) (uses : List LineUse) (whole : List (List ℕ)) (line : List ℕ) (later : List (List ℕ)) → uses_from 0 whole ≡ Ok uses → before ≡ length whole
    → lines text ≡ whole ++ line ∷ later → said_of line ≡ None → IsBadAt text before uses
IsBadAt-line text before uses whole line later said count all none = record {
  bad = ap (λ (l : List (List ℕ)). uses_from 0 l) all ∙ (uses_from-bad whole uses said line later none ∙ ap (λ (k : ℕ). Err (k + 1)) (sym count));
  front =
      ap (λ (l : List (List ℕ)). uses_from 0 (take before l)) all
      ∙ (ap (λ (k : ℕ). uses_from 0 (take k (whole ++ line ∷ later))) count ∙ (ap (λ (l : List (List ℕ)). uses_from 0 l) (take-append_seam whole (line ∷ later)) ∙ said));
}

module _ (j : JoinerValue) (text : List ℕ) (uses : List LineUse) (joins : Joins j text uses) where
  -- a byte that makes a line too long
  pub bad-long : (b : ℕ) → (b == 10) ≡ false → 65536 < length j.rest → (more : List ℕ) → IsBadAt ((text ++ b ∷ []) ++ more) j.ended uses
  bad-long b other full more =
      let longer : length (j.rest ++ b ∷ []) ≡ length j.rest + 1 = length-append j.rest (b ∷ []) in
      let first = bad_first (j.rest ++ b ∷ []) more (IsOpen-more j.rest b other joins.is_open) (omega (arith, longer, full)) in
      IsBadAt-line ((text ++ b ∷ []) ++ more) j.ended uses joins.whole first.0 first.1 joins.said joins.count
      (BeginsWith-byte text joins.whole j.rest joins.begins b more ∙ ap (λ (l : List (List ℕ)). joins.whole ++ l) first.2) first.3

  -- a newline after a bad line
  pub bad-newline : said_of (strip_carriage_return j.rest) ≡ None → (more : List ℕ) → IsBadAt ((text ++ 10 ∷ []) ++ more) j.ended uses
  bad-newline none more =
      IsBadAt-line ((text ++ 10 ∷ []) ++ more) j.ended uses joins.whole (strip_carriage_return j.rest) (lines more) joins.said joins.count
      (ap lines (append_assoc text (10 ∷ []) more) ∙ (joins.begins (10 ∷ more) ∙ ap (λ (l : List (List ℕ)). joins.whole ++ l) (lines-newline j.rest more joins.is_open))) none

  -- a newline after a good line
  pub Joins-newline : (new : JoinerValue) (said : LackeyLine) → said_of (strip_carriage_return j.rest) ≡ Some said → new.ended ≡ j.ended + 1 → new.rest ≡ [] → Joins new (text ++ 10 ∷ []) (uses ++ uses_of said)
  Joins-newline new said is one_more empty =
      let line = strip_carriage_return j.rest in
      let begins : BeginsWith (text ++ 10 ∷ []) (joins.whole ++ line ∷ []) [] = BeginsWith-newline text joins.whole j.rest joins.begins joins.is_open in
      record {
        whole = joins.whole ++ line ∷ [];
        begins = subst (λ (l : List ℕ). BeginsWith (text ++ 10 ∷ []) (joins.whole ++ line ∷ []) l) (sym empty) begins;
        is_open = subst IsOpen (sym empty) IsOpen-nil;
        said = uses_from-one joins.whole uses joins.said line said is;
        count = one_more ∙ (ap (λ (k : ℕ). k + 1) joins.count ∙ sym (length-append joins.whole (line ∷ [])));
      }

  -- the end of a text that ends with a newline
  pub trace_of-whole : j.rest ≡ [] → trace_of text ≡ Ok uses
  trace_of-whole none =
      ap (λ (l : List (List ℕ)). uses_from 0 l) (BeginsWith-end text joins.whole j.rest joins.begins ∙ ap (λ (l : List ℕ). joins.whole ++ lines l) none)
      ∙ uses_from-same joins.whole uses joins.said

  -- the end of a text whose last line has no newline
  pub trace_of-last : (said : LackeyLine) → 0 < length j.rest → said_of j.rest ≡ Some said → trace_of text ≡ Ok (uses ++ uses_of said)
  trace_of-last said some is =
      ap (λ (l : List (List ℕ)). uses_from 0 l) (BeginsWith-end text joins.whole j.rest joins.begins ∙ ap (λ (l : List (List ℕ)). joins.whole ++ l) (lines-last j.rest joins.is_open some))
      ∙ uses_from-one joins.whole uses joins.said j.rest said is

  -- and that line is bad
  pub bad-last : 0 < length j.rest → said_of j.rest ≡ None → IsBadAt text j.ended uses
  bad-last some none =
      IsBadAt-line text j.ended uses joins.whole j.rest [] joins.said joins.count
      (BeginsWith-end text joins.whole j.rest joins.begins ∙ ap (λ (l : List (List ℕ)). joins.whole ++ l) (lines-last j.rest joins.is_open some)) none
