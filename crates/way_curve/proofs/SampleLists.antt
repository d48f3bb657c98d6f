-- Samples of uses, and of one use more.
use Rattle.std.proofs.Common.{◌≡◌, ℕ, ◌≤◌, ◌++◌, Bool, true, false, if◌then◌else◌, List, [], ◌∷◌, length, Option, Some, None, refl, sym, ap, ◌∙◌, subst, inl, inr, arith}
use Rattle.std.specs.Prelude.{IfSome}
use Rattle.std.proofs.lemmas.Bool.{cases_Bool}
use Rattle.std.proofs.lemmas.List.{append-nil}
use Rattle.std.proofs.lemmas.List.Elements.{filter-append}
use Rattle.lackey_text.specs.declared.uses.LineUse.{LineUse}
use Rattle.way_curve.specs.Counting.{AddUses, HaveCounted}
use Rattle.way_curve.specs.Noted.{HaveNotedUses, NotedUses}
use Rattle.way_curve.specs.Samples.{is_kept, is_sampled, sample_of, sampled}
use Rattle.way_curve.specs.Sampling.{AddSampled, NoteFirst, SampledValue}

module _ (one_of : ℕ) (u : LineUse) (uses : List LineUse) where
  -- a use in front that the sample has
  pub sample_of-cons_in : is_sampled one_of u.line ≡ true → sample_of one_of (u ∷ uses) ≡ u ∷ sample_of one_of uses
  sample_of-cons_in h = ap (λ (b : Bool). if b then u ∷ sample_of one_of uses else sample_of one_of uses) h

  -- and one that it has not
  pub sample_of-cons_out : is_sampled one_of u.line ≡ false → sample_of one_of (u ∷ uses) ≡ sample_of one_of uses
  sample_of-cons_out h = ap (λ (b : Bool). if b then u ∷ sample_of one_of uses else sample_of one_of uses) h

-- a sample has no more uses than there are
pub length-sample_of : (one_of : ℕ) (uses : List LineUse) → length (sample_of one_of uses) ≤ length uses
length-sample_of one_of [] = omega arith
length-sample_of one_of (u ∷ uses) =
    let fewer = length-sample_of one_of uses in
    elim (cases_Bool (is_sampled one_of u.line)) [
      | inl h ↦ let same = ap length (sample_of-cons_in one_of u uses h) in omega (arith, fewer, same)
      | inr h ↦ let same = ap length (sample_of-cons_out one_of u uses h) in omega (arith, fewer, same)
    ]

-- the sample of uses after uses
pub sampled-append : (one_of : Option ℕ) (xs ys : List LineUse) → sampled one_of (xs ++ ys) ≡ sampled one_of xs ++ sampled one_of ys
sampled-append None xs ys = refl
sampled-append (Some n) xs ys = filter-append (λ (u : LineUse). is_sampled n u.line) xs ys

-- of no uses there is none
pub sampled-nil : (one_of : Option ℕ) → sampled one_of [] ≡ []
sampled-nil None = refl
sampled-nil (Some n) = refl

-- a use in front that the sample has, if one is taken
pub sampled-cons_in : (one_of : Option ℕ) (u : LineUse) (uses : List LineUse) → is_kept one_of u.line ≡ true → sampled one_of (u ∷ uses) ≡ u ∷ sampled one_of uses
sampled-cons_in None u uses h = refl
sampled-cons_in (Some n) u uses h = sample_of-cons_in n u uses h

-- and one that the sample has not
pub sampled-cons_out : (one_of : Option ℕ) (u : LineUse) (uses : List LineUse) → is_kept one_of u.line ≡ false → sampled one_of (u ∷ uses) ≡ sampled one_of uses
sampled-cons_out None u uses h = let never : true ≡ false = h in absurd cc
sampled-cons_out (Some n) u uses h = sample_of-cons_out n u uses h

-- curves that have counted what a sample has of these uses, with its different lines
pub AddSampled-counted : (old new : SampledValue) (more : List LineUse) → new.one_of ≡ old.one_of → AddUses old.curves new.curves (sampled old.one_of more)
    → NoteFirst old.first new.first (sampled old.one_of more) → AddSampled old new more
AddSampled-counted old new more kept adds notes = λ sampling uses have.
    let asked : sampled old.one_of more ≡ sampled sampling.one_of more = ap (λ (o : Option ℕ). sampled o more) have.same in
    let both : sampled sampling.one_of uses ++ sampled old.one_of more ≡ sampled sampling.one_of (uses ++ more) =
    ap (λ (us : List LineUse). sampled sampling.one_of uses ++ us) asked ∙ sym (sampled-append sampling.one_of uses more) in
    record {
      same = kept ∙ have.same;
      counted = subst (λ (us : List LineUse). HaveCounted sampling.sets new.curves us) both (adds sampling.sets (sampled sampling.one_of uses) have.counted);
      has_first = notes.kept ∙ have.has_first;
      noted = subst (λ (us : List LineUse). IfSome new.first (λ (noted : NotedUses). HaveNotedUses noted us)) both (notes.notes (sampled sampling.one_of uses) have.noted);
    }

-- a use that the sample has
pub AddSampled-in : (old new : SampledValue) (u : LineUse) → is_kept old.one_of u.line ≡ true → new.one_of ≡ old.one_of → AddUses old.curves new.curves (u ∷ [])
    → NoteFirst old.first new.first (u ∷ []) → AddSampled old new (u ∷ [])
AddSampled-in old new u is_in kept adds notes =
    let left : sampled old.one_of (u ∷ []) ≡ u ∷ [] = sampled-cons_in old.one_of u [] is_in ∙ ap (λ (us : List LineUse). u ∷ us) (sampled-nil old.one_of) in
    AddSampled-counted old new (u ∷ []) kept (subst (λ (us : List LineUse). AddUses old.curves new.curves us) (sym left) adds)
    (subst (λ (us : List LineUse). NoteFirst old.first new.first us) (sym left) notes)

-- and one that it has not
pub AddSampled-out : (old : SampledValue) (u : LineUse) → is_kept old.one_of u.line ≡ false → AddSampled old old (u ∷ [])
AddSampled-out old u is_out = λ sampling uses have.
    let none : sampled sampling.one_of (u ∷ []) ≡ [] =
    ap (λ (o : Option ℕ). sampled o (u ∷ [])) (sym have.same) ∙ (sampled-cons_out old.one_of u [] is_out ∙ sampled-nil old.one_of) in
    let both : sampled sampling.one_of uses ≡ sampled sampling.one_of (uses ++ u ∷ []) =
    sym (sampled-append sampling.one_of uses (u ∷ []) ∙ (ap (λ (us : List LineUse). sampled sampling.one_of uses ++ us) none ∙ append-nil (sampled sampling.one_of uses))) in
    record {
      same = have.same;
      counted = subst (λ (us : List LineUse). HaveCounted sampling.sets old.curves us) both have.counted;
      has_first = have.has_first;
      noted = subst (λ (us : List LineUse). IfSome old.first (λ (noted : NotedUses). HaveNotedUses noted us)) both have.noted;
    }
