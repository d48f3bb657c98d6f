-- A stream after one byte more, and at its end.
use Rattle.std.proofs.Common.{◌≡◌, ℕ, ◌+◌, ◌<◌, Bool, true, false, ◌==◌, List, [], ◌∷◌, ◌++◌, length, Option, Some, None, refl, sym, ap, ◌∙◌, arith, append_assoc, subst, length-append}
use Rattle.std.specs.Prelude.{Err}
use Rattle.std.proofs.lemmas.List.{append-nil}
use Rattle.std.specs.Str.Lines.{lines, strip_carriage_return}
use Rattle.way_curve.specs.Reading.{BeginsWith, IsOpen}
use Rattle.way_curve.proofs.laws.FirstLines.{BeginsWith-byte, BeginsWith-end, BeginsWith-newline, IsOpen-more, IsOpen-nil, lines-last, lines-newline}
use Rattle.share_plans.specs.Filtering.{AddFiltered, FilteredValue, Filtering, HaveFiltered}
use Rattle.share_plans.specs.Reading.{AreOf, HasRead, IsBad, IsGood, ReadsAs, StreamValue}
use Rattle.share_plans.specs.Streams.{step_of, stream_of, turn_after, turn_behind, uses_from, uses_in}
use Rattle.share_plans.specs.declared.step.Step.{Step}
use Rattle.share_plans.proofs.LongLines.{bad_first}
use Rattle.share_plans.proofs.UsesFrom.{turn_behind-push, uses_from-bad, uses_from-one, uses_from-same}

-- a stream that is good
pub HasRead-good : (filtering : Filtering) (s : StreamValue) (text : List ℕ) → s.is_bad ≡ false → HasRead filtering s text → IsGood filtering s text
HasRead-good filtering s text good read = subst (λ (bad : Bool). ReadsAs bad filtering s text) good read

-- and one that is bad
HasRead-bad : (filtering : Filtering) (s : StreamValue) (text : List ℕ) → s.is_bad ≡ true → HasRead filtering s text → IsBad filtering s text
HasRead-bad filtering s text bad read = subst (λ (bad : Bool). ReadsAs bad filtering s text) bad read

-- no text
pub IsGood-nil : (filtering : Filtering) (s : StreamValue) → s.ended ≡ 0 → s.rest ≡ [] → s.turn ≡ None → HaveFiltered filtering s.played [] → IsGood filtering s []
unfolding uses_from turn_behind
IsGood-nil filtering s none empty no_turn played = record {
  whole = [];
  uses = [];
  begins = λ more. ap (λ (l : List ℕ). lines (l ++ more)) (sym empty);
  is_open = subst IsOpen (sym empty) IsOpen-nil;
  said = refl;
  turn = no_turn;
  count = none;
  programs = played.played.count;
  played = played;
}

module _ (filtering : Filtering) (s : StreamValue) (text : List ℕ) (is_good : s.is_bad ≡ false) (read : HasRead filtering s text) where
  good : IsGood filtering s text
  good = HasRead-good filtering s text is_good read

  -- what a line says in the turn that the stream is in
  step-turn : (line : List ℕ) (step : Option Step) (programs : ℕ) → programs ≡ length s.played.played.programs → step_of programs s.turn line ≡ step → step_of filtering.asked.programs (turn_behind filtering.asked.programs None good.whole) line ≡ step
  step-turn line step programs count is =
      ap (λ (t : Option ℕ). step_of filtering.asked.programs t line) (sym good.turn) ∙ (ap (λ (n : ℕ). step_of n s.turn line) (sym (count ∙ good.programs)) ∙ is)

  -- a byte that makes a line too long
  pub bad-long : (n b : ℕ) → (b == 10) ≡ false → 65536 < length s.rest → n ≡ s.ended → (more : List ℕ) → stream_of filtering.asked.programs ((text ++ b ∷ []) ++ more) ≡ Err (n + 1)
  bad-long n b other full same more =
      let longer : length (s.rest ++ b ∷ []) ≡ length s.rest + 1 = length-append s.rest (b ∷ []) in
      let first = bad_first filtering.asked.programs (turn_behind filtering.asked.programs None good.whole) (s.rest ++ b ∷ []) more (IsOpen-more s.rest b other good.is_open) (omega (arith, longer, full)) in
      ap (λ (l : List (List ℕ)). uses_from filtering.asked.programs 0 None l) (BeginsWith-byte text good.whole s.rest good.begins b more ∙ ap (λ (l : List (List ℕ)). good.whole ++ l) first.2)
      ∙ (uses_from-bad filtering.asked.programs good.whole good.uses good.said first.0 first.1 first.3 ∙ ap (λ (k : ℕ). Err (k + 1)) (sym (same ∙ good.count)))

  -- a newline after a bad line
  pub bad-newline : (n programs : ℕ) → programs ≡ length s.played.played.programs → step_of programs s.turn (strip_carriage_return s.rest) ≡ None → n ≡ s.ended → (more : List ℕ)
      → stream_of filtering.asked.programs ((text ++ 10 ∷ []) ++ more) ≡ Err (n + 1)
  bad-newline n programs count none same more =
      ap (λ (l : List (List ℕ)). uses_from filtering.asked.programs 0 None l) (ap lines (append_assoc text (10 ∷ []) more) ∙ (good.begins (10 ∷ more) ∙ ap (λ (l : List (List ℕ)). good.whole ++ l) (lines-newline s.rest more good.is_open)))
      ∙ (uses_from-bad filtering.asked.programs good.whole good.uses good.said (strip_carriage_return s.rest) (lines more) (step-turn (strip_carriage_return s.rest) None programs count none)
      ∙ ap (λ (k : ℕ). Err (k + 1)) (sym (same ∙ good.count)))

  -- a newline after a good line
  pub HasRead-newline : (new : StreamValue) (step : Step) (programs : ℕ) → programs ≡ length s.played.played.programs → step_of programs s.turn (strip_carriage_return s.rest) ≡ Some step
      → new.is_bad ≡ false → new.ended ≡ s.ended + 1 → new.rest ≡ [] → new.turn ≡ step.turn → length new.played.played.programs ≡ length s.played.played.programs → AddFiltered s.played new.played (uses_in step)
      → HasRead filtering new (text ++ 10 ∷ [])
  HasRead-newline new step programs count is still_good one_more empty turn kept plays =
      let line = strip_carriage_return s.rest in
      let here = step-turn line (Some step) programs count is in
      let begins : BeginsWith (text ++ 10 ∷ []) (good.whole ++ line ∷ []) [] = BeginsWith-newline text good.whole s.rest good.begins good.is_open in
      subst (λ (bad : Bool). ReadsAs bad filtering new (text ++ 10 ∷ [])) (sym still_good) (record {
        whole = good.whole ++ line ∷ [];
        uses = good.uses ++ uses_in step;
        begins = subst (λ (l : List ℕ). BeginsWith (text ++ 10 ∷ []) (good.whole ++ line ∷ []) l) (sym empty) begins;
        is_open = subst IsOpen (sym empty) IsOpen-nil;
        said = uses_from-one filtering.asked.programs good.whole good.uses good.said line step here;
        turn = turn ∙ sym (turn_behind-push filtering.asked.programs None good.whole line ∙ ap (λ (o : Option Step). turn_after (turn_behind filtering.asked.programs None good.whole) o) here);
        count = one_more ∙ (ap (λ (k : ℕ). k + 1) good.count ∙ sym (length-append good.whole (line ∷ [])));
        programs = kept ∙ good.programs;
        played = plays filtering good.uses good.played;
      })

  -- the end of a text that ends with a newline
  pub AreOf-whole : s.rest ≡ [] → AreOf filtering s.played.played text
  AreOf-whole none = record {
    uses = good.uses;
    said = ap (λ (l : List (List ℕ)). uses_from filtering.asked.programs 0 None l) (BeginsWith-end text good.whole s.rest good.begins ∙ ap (λ (l : List ℕ). good.whole ++ lines l) none)
        ∙ uses_from-same filtering.asked.programs good.whole good.uses good.said;
    have = good.played.played;
  }

  -- the end of a text whose last line has no newline
  pub AreOf-last : (step : Step) (p : FilteredValue) (programs : ℕ) → programs ≡ length s.played.played.programs → 0 < length s.rest → step_of programs s.turn s.rest ≡ Some step → AddFiltered s.played p (uses_in step)
      → AreOf filtering p.played text
  AreOf-last step p programs count some is plays = record {
    uses = good.uses ++ uses_in step;
    said = ap (λ (l : List (List ℕ)). uses_from filtering.asked.programs 0 None l) (BeginsWith-end text good.whole s.rest good.begins ∙ ap (λ (l : List (List ℕ)). good.whole ++ l) (lines-last s.rest good.is_open some))
        ∙ uses_from-one filtering.asked.programs good.whole good.uses good.said s.rest step (step-turn s.rest (Some step) programs count is);
    have = (plays filtering good.uses good.played).played;
  }

  -- and that line is bad
  pub bad-last : (programs : ℕ) → programs ≡ length s.played.played.programs → 0 < length s.rest → step_of programs s.turn s.rest ≡ None → stream_of filtering.asked.programs text ≡ Err (s.ended + 1)
  bad-last programs count some none =
      ap (λ (l : List (List ℕ)). uses_from filtering.asked.programs 0 None l) (BeginsWith-end text good.whole s.rest good.begins ∙ ap (λ (l : List (List ℕ)). good.whole ++ l) (lines-last s.rest good.is_open some))
      ∙ (uses_from-bad filtering.asked.programs good.whole good.uses good.said s.rest [] (step-turn s.rest None programs count none) ∙ ap (λ (k : ℕ). Err (k + 1)) (sym good.count))

-- the end of a bad stream
pub bad-end : (filtering : Filtering) (s : StreamValue) (text : List ℕ) → s.is_bad ≡ true → HasRead filtering s text → stream_of filtering.asked.programs text ≡ Err (s.ended + 1)
bad-end filtering s text bad read = ap (stream_of filtering.asked.programs) (sym (append-nil text)) ∙ HasRead-bad filtering s text bad read []
