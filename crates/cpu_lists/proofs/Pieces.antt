-- Reading the pieces of a text one after the other.
use Rattle.std.proofs.Common.{◌≡◌, ℕ, true, false, inl, inr, List, [], ◌∷◌, ◌++◌, Option, Some, None, refl, sym, ap, ◌∙◌, append_assoc}
use Rattle.std.specs.Option.{option_map}
use Rattle.std.specs.List.{list_any, slice_split, before_first, after_first}
use Rattle.std.proofs.lemmas.Bool.{cases_Bool}
use Rattle.lists.proofs.Cuts.{slice_split-none, slice_split-some, before_first-none}
use Rattle.cpu_lists.specs.Masks.{comma, each}

-- what the pieces of a text say is what is done and what the pieces of the rest say
pub record SoFar {A : Type 0} (says : List ℕ → Option A) (text rest : List ℕ) (done : List A) : Type 0 where
  pub parts : each says (slice_split comma text) ≡ option_map (λ (more : List A). done ++ more) (each says (slice_split comma rest))

-- before the first piece
pub SoFar-nil : {A : Type 0} (says : List ℕ → Option A) (text : List ℕ) → SoFar says text text []
SoFar-nil says text = record { parts = same (each says (slice_split comma text)) }
  where
    same : {A : Type 0} (o : Option (List A)) → o ≡ option_map (λ (more : List A). [] ++ more) o
    same None = refl
    same (Some x) = refl

-- a piece that says nothing
pub each-bad_piece : {A : Type 0} (says : List ℕ → Option A) (text rest : List ℕ) (done : List A) → SoFar says text rest done → says (before_first comma rest) ≡ None → each says (slice_split comma text) ≡ None
each-bad_piece {A} says text rest done so none = so.parts ∙ ap (option_map (λ (more : List A). done ++ more)) nothing
  where
    first : (pieces : List (List ℕ)) → each says (before_first comma rest ∷ pieces) ≡ None
    first pieces = rw none refl

    nothing : each says (slice_split comma rest) ≡ None
    nothing = elim (cases_Bool (list_any comma rest)) [
      | inl some ↦ ap (each says) (slice_split-some comma rest some) ∙ first (slice_split comma (after_first comma rest))
      | inr no_comma ↦ ap (each says) (slice_split-none comma rest no_comma ∙ ap (λ (x : List ℕ). x ∷ []) (sym (before_first-none comma rest no_comma))) ∙ first []
    ]

-- the last piece
pub each-last_piece : {A : Type 0} (says : List ℕ → Option A) (text rest : List ℕ) (done : List A) (a : A) → SoFar says text rest done → list_any comma rest ≡ false → says (before_first comma rest) ≡ Some a → each says (slice_split comma text) ≡ Some (done ++ a ∷ [])
each-last_piece {A} says text rest done a so no_comma one =
    so.parts ∙ ap (option_map (λ (more : List A). done ++ more)) (ap (each says) (slice_split-none comma rest no_comma) ∙ whole (ap says (sym (before_first-none comma rest no_comma)) ∙ one))
  where
    whole : says rest ≡ Some a → each says (rest ∷ []) ≡ Some (a ∷ [])
    whole e = rw e refl

-- a piece with others after it
pub SoFar-next_piece : {A : Type 0} (says : List ℕ → Option A) (text rest : List ℕ) (done : List A) (a : A) → SoFar says text rest done → list_any comma rest ≡ true → says (before_first comma rest) ≡ Some a → SoFar says text (after_first comma rest) (done ++ a ∷ [])
SoFar-next_piece {A} says text rest done a so some one = record {
  parts = so.parts ∙ ap (option_map (λ (more : List A). done ++ more)) (ap (each says) (slice_split-some comma rest some) ∙ first one) ∙ onto (each says (slice_split comma (after_first comma rest)));
}
  where
    first : says (before_first comma rest) ≡ Some a → each says (before_first comma rest ∷ slice_split comma (after_first comma rest)) ≡ option_map (λ (all : List A). a ∷ all) (each says (slice_split comma (after_first comma rest)))
    first e = rw e refl

    onto : (o : Option (List A)) → option_map (λ (more : List A). done ++ more) (option_map (λ (all : List A). a ∷ all) o) ≡ option_map (λ (more : List A). (done ++ a ∷ []) ++ more) o
    onto None = refl
    onto (Some x) = ap Some (sym (append_assoc done (a ∷ []) x))

-- a text without the separator is its own front
pub ruleset uncut = (before_first-none)
