-- What the words of programs ask for, one after the other.
use Rattle.std.proofs.Common.{◌≡◌, ℕ, ◌<◌, ◌≤◌, List, [], ◌∷◌, ◌++◌, length, drop, Some, refl, sym, ap, ◌∙◌, arith, append-nil}
use Rattle.std.specs.Prelude.{All, String, option_map}
use Rattle.std.specs.declared.alloc.Global.{Global}
use Rattle.std.proofs.lemmas.Bool.{le-ltb}
use Rattle.std.proofs.lemmas.List.{drop_all}
use Rattle.share_plans.specs.declared.division_limits.TheConstants.{MOST_PROGRAMS, MOST_WEIGHT}
use Rattle.plan_top.specs.ShareForms.{wishes_in, wishes_of}
use Rattle.plan_top.specs.declared.share_form.Wish.{Wish}

-- a weight is not too great
abbrev pub IsLight : Wish → Type 0
IsLight w = w.weight ≤ MOST_WEIGHT

-- the wishes of so many first words, which stand before those of the later ones
pub record AreFirst (words : List (String Global)) (wishes : List Wish) (count : ℕ) : Type 0 where
  pub said : wishes_of words ≡ option_map (λ (later : List Wish). wishes ++ later) (wishes_of (drop count words))
  pub counted : length wishes ≡ count
  pub light : All IsLight wishes
  pub few : length wishes ≤ MOST_PROGRAMS

-- no more than there may be programs, and one at least
wishes_in-few : (words : List (String Global)) → 0 < length words → length words ≤ MOST_PROGRAMS → wishes_in words ≡ wishes_of words
wishes_in-few [] some few = absurd (omega (arith, some))
wishes_in-few (word ∷ words) some few = rw (le-ltb MOST_PROGRAMS (length (word ∷ words)) few) refl

-- after the last word
pub AreFirst-all : (words : List (String Global)) (wishes : List Wish) (k : ℕ) → 0 < length words → length words ≤ k → AreFirst words wishes k → Some wishes ≡ wishes_in words
AreFirst-all words wishes k some all are = sym (wishes_in-few words some (omega (arith, all, are.counted, are.few))
    ∙ (are.said ∙ (ap (λ (ws : List (String Global)). option_map (λ (later : List Wish). wishes ++ later) (wishes_of ws)) (drop_all k words all) ∙ ap Some (append-nil wishes))))
