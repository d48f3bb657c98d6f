-- The counts of a command's line, taken one after the other.
use Rattle.std.proofs.Common.{◌≡◌, ℕ, ◌+◌, ◌<◌, List, [], ◌∷◌, length, true, false, ◌==◌, refl, sym, ap, subst, ◌∙◌, arith}
use Rattle.std.proofs.lemmas.Bool.{eq-eqb, eqb-true}
use Rattle.journal_text.specs.Taken.{IsNotJust, Takes, TakesNone}
use Rattle.journal_text.proofs.laws.Taken.{IsNotJust-rest, TakesNone-after, TakesNone-more}

-- where no number follows those that were taken, there are not more of them
pub no_more : (ms left text : List ℕ) (taken count : ℕ) → Takes ms left text → length ms ≡ taken → taken < count → TakesNone 1 left → IsNotJust count text
no_more ms left text taken count t len few none ns all is = TakesNone-more (taken + 1) count text (omega arith) (TakesNone-after 1 (taken + 1) ms left text (omega (arith, len)) t none) ns [] all is

-- a list with no elements
nil_of-length : (xs : List ℕ) → true ≡ (length xs == 0) → xs ≡ []
nil_of-length [] e = refl
nil_of-length (x ∷ xs) e = absurd (omega (arith, eqb-true (length (x ∷ xs)) 0 (sym e)))

-- where nothing is left, the text is those that were taken
pub all_taken : (ms left text : List ℕ) → Takes ms left text → true ≡ (length left == 0) → Takes ms [] text
all_taken ms left text t none = subst (λ (r : List ℕ). Takes ms r text) (nil_of-length left none) t

-- and where something is left, it is not
pub not_all : (ms left text : List ℕ) (count : ℕ) → Takes ms left text → length ms ≡ count → false ≡ (length left == 0) → IsNotJust count text
not_all ms left text count t len some =
    subst (λ (k : ℕ). IsNotJust k text) len (IsNotJust-rest ms left text t (λ none. (let zero : false ≡ true = some ∙ eq-eqb (length left) 0 (ap length none) in absurd cc)))
