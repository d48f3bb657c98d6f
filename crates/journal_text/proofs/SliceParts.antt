-- A slice's line, read part by part.
use Rattle.std.proofs.Common.{◌≡◌, ℕ, ◌%◌, ◌^◌, ◌<◌, ◌≤◌, List, [], ◌∷◌, ◌++◌, false, get_or, codes, refl, sym, ap, ◌∙◌, subst, lt_of_le_of_lt}
use Rattle.std.proofs.lemmas.List.{append-nil}
use Rattle.machine.specs.Slices.{domain_in}
use Rattle.machine.specs.declared.parameters.Parameters.{Parameters}
use Rattle.rc_base.specs.Texts.{is_text}
use Rattle.journal_text.specs.Lines.{fields, slice_line}
use Rattle.journal_text.specs.Taken.{IsNotJust, IsSplit, Takes}
use Rattle.journal_text.proofs.KindWords.{is_no_word}
use Rattle.journal_text.proofs.laws.Fields.{Takes-unique}
use Rattle.journal_text.proofs.laws.SliceLines.{SliceIs-line, place_and_count}

module _ (m : Parameters) (i weight : ℕ) (word after line : List ℕ) (small : i < 2 ^ 64) (light : weight < 2 ^ 64) (split : IsSplit word after line) where
  -- another word begins no slice's line
  pub no_slice_word : false ≡ is_text word (codes "slice") → (n : ℕ) → n ≤ weight → slice_line m i n ≡ line → ⊥
  no_slice_word other n few same = is_no_word (codes "slice") word other (SliceIs-line m i n word after line small (lt_of_le_of_lt few light) split same).word_is

  -- a text that is not three numbers follows no word of a slice's line
  pub no_place : IsNotJust 3 after → (n : ℕ) → n ≤ weight → slice_line m i n ≡ line → ⊥
  no_place none n few same = none (place_and_count m i n) refl (SliceIs-line m i n word after line small (lt_of_le_of_lt few light) split same).takes

  module _ (domain part count : ℕ) (takes : Takes (domain ∷ part ∷ count ∷ []) [] after) where
    -- the numbers of the line
    numbers_are : (n : ℕ) → n ≤ weight → slice_line m i n ≡ line → place_and_count m i n ≡ domain ∷ part ∷ count ∷ []
    numbers_are n few same = (Takes-unique (place_and_count m i n) (domain ∷ part ∷ count ∷ []) [] [] after refl (SliceIs-line m i n word after line small (lt_of_le_of_lt few light) split same).takes takes).0

    -- the numbers of another slice
    pub other_place : (domain ≡ domain_in m i → part ≡ i % m.slices → ⊥) → (n : ℕ) → n ≤ weight → slice_line m i n ≡ line → ⊥
    other_place other n few same = let all = numbers_are n few same in other (sym (ap (λ (xs : List ℕ). get_or xs 0 0) all)) (sym (ap (λ (xs : List ℕ). get_or xs 1 0) all))

    -- more entries than there may be
    pub too_many : (count ≤ weight → ⊥) → (n : ℕ) → n ≤ weight → slice_line m i n ≡ line → ⊥
    too_many many n few same = many (subst (λ (k : ℕ). k ≤ weight) (ap (λ (xs : List ℕ). get_or xs 2 0) (numbers_are n few same)) few)

    -- the line of what was read
    pub slice_line-read : codes "slice" ≡ word → (domain ≡ domain_in m i) × (part ≡ i % m.slices) → slice_line m i count ≡ line
    slice_line-read named place =
        ap (λ (d : ℕ). codes "slice" ++ fields (d ∷ i % m.slices ∷ count ∷ [])) (sym place.0)
        ∙ ap (λ (p : ℕ). codes "slice" ++ fields (domain ∷ p ∷ count ∷ [])) (sym place.1)
        ∙ ap (λ (w : List ℕ). w ++ fields (domain ∷ part ∷ count ∷ [])) named
        ∙ ap (λ (t : List ℕ). word ++ t) (sym (takes.same ∙ append-nil (fields (domain ∷ part ∷ count ∷ []))))
        ∙ sym split.same
