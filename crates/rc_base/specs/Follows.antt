-- Lists in which each entry may follow those before it.
use Rattle.std.specs.Prelude.{List, [], ◌∷◌, ◌++◌}

module _ {E : Type 0} where
  -- after the entries `before`, each of these may follow all that stand before it
  abbrev pub GoesOn : (List E → E → Type 0) → List E → List E → Type 0
  GoesOn may before [] = Unit {0}
  GoesOn may before (e ∷ es) = may before e × GoesOn may (before ++ e ∷ []) es

  -- each entry may follow those before it
  abbrev pub EachFollows : (List E → E → Type 0) → List E → Type 0
  EachFollows may entries = GoesOn may [] entries
