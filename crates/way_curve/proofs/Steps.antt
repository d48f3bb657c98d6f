-- A trace after one byte more, and at its end.
use Rattle.std.proofs.Common.{◌≡◌, ℕ, ◌+◌, ◌<◌, Bool, true, false, ◌==◌, List, [], ◌∷◌, ◌++◌, length, Some, None, refl, sym, ap, ◌∙◌, arith, append_assoc, subst, length-append}
use Rattle.std.specs.Prelude.{Err}
use Rattle.std.proofs.lemmas.List.{append-nil}
use Rattle.std.specs.Str.Lines.{lines, strip_carriage_return}
use Rattle.lackey_text.specs.declared.line.LackeyLine.{LackeyLine}
use Rattle.lackey_text.specs.Uses.{uses_of}
use Rattle.way_curve.specs.Reading.{AreOf, BeginsWith, HasRead, IsBad, IsGood, IsOpen, ReadsAs, TraceValue}
use Rattle.way_curve.specs.Filtering.{AddFiltered, FilteredValue, Filtering, HaveFiltered}
use Rattle.way_curve.specs.TraceTexts.{said_of, trace_of, uses_from}
use Rattle.way_curve.proofs.laws.FirstLines.{BeginsWith-byte, BeginsWith-end, BeginsWith-newline, IsOpen-more, IsOpen-nil, bad_first, lines-last, lines-newline}
use Rattle.way_curve.proofs.UsesFrom.{uses_from-bad, uses_from-one, uses_from-same}

-- a trace that is good
pub HasRead-good : (filtering : Filtering) (t : TraceValue) (text : List ℕ) → t.is_bad ≡ false → HasRead filtering t text → IsGood filtering t text
HasRead-good filtering t text good read = subst (λ (bad : Bool). ReadsAs bad filtering t text) good read

-- and one that is bad
HasRead-bad : (filtering : Filtering) (t : TraceValue) (text : List ℕ) → t.is_bad ≡ true → HasRead filtering t text → IsBad t text
HasRead-bad filtering t text bad read = subst (λ (bad : Bool). ReadsAs bad filtering t text) bad read

-- no text
pub IsGood-nil : (filtering : Filtering) (t : TraceValue) → t.ended ≡ 0 → t.rest ≡ [] → HaveFiltered filtering t.curves [] → IsGood filtering t []
unfolding uses_from
IsGood-nil filtering t none empty counted = record {
  whole = [];
  uses = [];
  begins = λ more. ap (λ (l : List ℕ). lines (l ++ more)) (sym empty);
  is_open = subst IsOpen (sym empty) IsOpen-nil;
  said = refl;
  count = none;
  counted = counted;
}

module _ (filtering : Filtering) (t : TraceValue) (text : List ℕ) (is_good : t.is_bad ≡ false) (read : HasRead filtering t text) where
  -- a byte that makes a line too long
  pub bad-long : (n b : ℕ) → (b == 10) ≡ false → 65536 < length t.rest → n ≡ t.ended → (more : List ℕ) → trace_of ((text ++ b ∷ []) ++ more) ≡ Err (n + 1)
  bad-long n b other full same more =
      let good = HasRead-good filtering t text is_good read in
      let longer : length (t.rest ++ b ∷ []) ≡ length t.rest + 1 = length-append t.rest (b ∷ []) in
      let first = bad_first (t.rest ++ b ∷ []) more (IsOpen-more t.rest b other good.is_open) (omega (arith, longer, full)) in
      ap (λ (l : List (List ℕ)). uses_from 0 l) (BeginsWith-byte text good.whole t.rest good.begins b more ∙ ap (λ (l : List (List ℕ)). good.whole ++ l) first.2)
      ∙ (uses_from-bad good.whole good.uses good.said first.0 first.1 first.3 ∙ ap (λ (k : ℕ). Err (k + 1)) (sym (same ∙ good.count)))

  -- a newline after a bad line
  pub bad-newline : (n : ℕ) → said_of (strip_carriage_return t.rest) ≡ None → n ≡ t.ended → (more : List ℕ) → trace_of ((text ++ 10 ∷ []) ++ more) ≡ Err (n + 1)
  bad-newline n none same more =
      let good = HasRead-good filtering t text is_good read in
      ap (λ (l : List (List ℕ)). uses_from 0 l) (ap lines (append_assoc text (10 ∷ []) more) ∙ (good.begins (10 ∷ more) ∙ ap (λ (l : List (List ℕ)). good.whole ++ l) (lines-newline t.rest more good.is_open)))
      ∙ (uses_from-bad good.whole good.uses good.said (strip_carriage_return t.rest) (lines more) none ∙ ap (λ (k : ℕ). Err (k + 1)) (sym (same ∙ good.count)))

  -- a newline after a good line
  pub HasRead-newline : (new : TraceValue) (said : LackeyLine) → said_of (strip_carriage_return t.rest) ≡ Some said → new.is_bad ≡ false → new.ended ≡ t.ended + 1 → new.rest ≡ [] → AddFiltered t.curves new.curves (uses_of said)
      → HasRead filtering new (text ++ 10 ∷ [])
  HasRead-newline new said is still_good one_more empty counts =
      let good = HasRead-good filtering t text is_good read in
      let begins : BeginsWith (text ++ 10 ∷ []) (good.whole ++ strip_carriage_return t.rest ∷ []) [] = BeginsWith-newline text good.whole t.rest good.begins good.is_open in
      subst (λ (bad : Bool). ReadsAs bad filtering new (text ++ 10 ∷ [])) (sym still_good) (record {
        whole = good.whole ++ strip_carriage_return t.rest ∷ [];
        uses = good.uses ++ uses_of said;
        begins = subst (λ (l : List ℕ). BeginsWith (text ++ 10 ∷ []) (good.whole ++ strip_carriage_return t.rest ∷ []) l) (sym empty) begins;
        is_open = subst IsOpen (sym empty) IsOpen-nil;
        said = uses_from-one good.whole good.uses good.said (strip_carriage_return t.rest) said is;
        count = one_more ∙ (ap (λ (k : ℕ). k + 1) good.count ∙ sym (length-append good.whole (strip_carriage_return t.rest ∷ [])));
        counted = counts filtering good.uses good.counted;
      })

  -- the end of a text that ends with a newline
  pub AreOf-whole : t.rest ≡ [] → AreOf filtering t.curves text
  AreOf-whole none =
      let good = HasRead-good filtering t text is_good read in
      record {
        uses = good.uses;
        said = ap (λ (l : List (List ℕ)). uses_from 0 l) (BeginsWith-end text good.whole t.rest good.begins ∙ ap (λ (l : List ℕ). good.whole ++ lines l) none) ∙ uses_from-same good.whole good.uses good.said;
        counted = good.counted;
      }

  -- the end of a text whose last line has no newline
  pub AreOf-last : (said : LackeyLine) (c : FilteredValue) → 0 < length t.rest → said_of t.rest ≡ Some said → AddFiltered t.curves c (uses_of said) → AreOf filtering c text
  AreOf-last said c some is counts =
      let good = HasRead-good filtering t text is_good read in
      record {
        uses = good.uses ++ uses_of said;
        said = ap (λ (l : List (List ℕ)). uses_from 0 l) (BeginsWith-end text good.whole t.rest good.begins ∙ ap (λ (l : List (List ℕ)). good.whole ++ l) (lines-last t.rest good.is_open some)) ∙ uses_from-one good.whole good.uses good.said t.rest said is;
        counted = counts filtering good.uses good.counted;
      }

  -- and that line is bad
  pub bad-last : 0 < length t.rest → said_of t.rest ≡ None → trace_of text ≡ Err (t.ended + 1)
  bad-last some none =
      let good = HasRead-good filtering t text is_good read in
      ap (λ (l : List (List ℕ)). uses_from 0 l) (BeginsWith-end text good.whole t.rest good.begins ∙ ap (λ (l : List (List ℕ)). good.whole ++ l) (lines-last t.rest good.is_open some))
      ∙ (uses_from-bad good.whole good.uses good.said t.rest [] none ∙ ap (λ (k : ℕ). Err (k + 1)) (sym good.count))

-- the end of a bad trace
pub bad-end : (filtering : Filtering) (t : TraceValue) (text : List ℕ) → t.is_bad ≡ true → HasRead filtering t text → trace_of text ≡ Err (t.ended + 1)
bad-end filtering t text bad read = ap trace_of (sym (append-nil text)) ∙ HasRead-bad filtering t text bad read []
