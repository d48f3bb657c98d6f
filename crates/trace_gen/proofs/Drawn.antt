-- What is made of draws, one after the other.
use Rattle.std.proofs.Common.{◌≡◌, ℕ, ◌+◌, List, [], ◌∷◌, ◌++◌, map, sym, ap, ◌∙◌, arith}
use Rattle.std.specs.List.{range_with_len}
use Rattle.std.proofs.lemmas.List.{map-append}
use Rattle.lists.proofs.Ranges.{range_with_len-suc}
use Rattle.trace_gen.specs.Draws.{next_number, drawn_from, number_at, draws_from}
use Rattle.trace_gen.proofs.Texts.{draws-next, number_at-next}

-- These items are made of these draws, and the last number is that of this place.
pub record AreDrawn {X : Type 0} (f : ℕ → X) (first from count place last : ℕ) (items : List X) : Type 0 where
  pub reached : last ≡ number_at first place
  pub made : items ≡ map f (draws_from first from count)

-- so it is where nothing was drawn
pub AreDrawn-zero : {X : Type 0} (f : ℕ → X) (first from place last : ℕ) (items : List X) → last ≡ number_at first place → items ≡ [] → AreDrawn f first from 0 place last items
AreDrawn-zero f first from place last items is none = record { reached = is; made = none }

-- and with one draw more
pub AreDrawn-next : {X : Type 0} (f : ℕ → X) (first from count place next last last' : ℕ) (items new : List X) → place + 1 ≡ from + count → place + 1 ≡ next → AreDrawn f first from count place last items → last' ≡ next_number last → new ≡ items ++ f (drawn_from last') ∷ []
    → AreDrawn f first from (count + 1) next last' new
AreDrawn-next {X = X} f first from count place next last last' items new here after are is more =
    let there : last' ≡ number_at first (place + 1) = is ∙ ap next_number are.reached ∙ sym (number_at-next first place) in
    record {
      reached = there ∙ ap (number_at first) after;
      made = more ∙ (ap (λ (xs : List X). xs ++ f (drawn_from last') ∷ []) are.made
          ∙ (sym (map-append f (draws_from first from count) (drawn_from last' ∷ [])) ∙ ap (map f) (sym (draws-next first from count place last' here there))));
    }

-- one more of what is made of each number of a range
pub map-range_with_len-next : {X : Type 0} (f : ℕ → X) (before : ℕ) (items new : List X) → items ≡ map f (range_with_len 1 before) → new ≡ items ++ f (before + 1) ∷ [] → new ≡ map f (range_with_len 1 (before + 1))
map-range_with_len-next {X = X} f before items new here more =
    let range : range_with_len 1 (before + 1) ≡ range_with_len 1 before ++ (before + 1) ∷ [] = range_with_len-suc 1 before ∙ ap (λ (k : ℕ). range_with_len 1 before ++ k ∷ []) (omega arith) in
    more ∙ (ap (λ (xs : List X). xs ++ f (before + 1) ∷ []) here ∙ (sym (map-append f (range_with_len 1 before) ((before + 1) ∷ [])) ∙ ap (map f) (sym range)))
