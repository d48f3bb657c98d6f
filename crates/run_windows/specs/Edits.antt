-- How the exclusive groups before a change are made of those after it.
-- (For functions and proofs: no promise of the program stands on it.)
use Rattle.std.specs.Prelude.{List, [], ◌∷◌, ℕ}
use Rattle.std.specs.List.{insert, remove, slice_set}
use Rattle.run_windows.specs.declared.edit.Edit.{Edit}
use Rattle.run_windows.specs.declared.edit.Edit.TheVariants.{Whole, Put, Insert, Remove}
use Rattle.run_windows.specs.declared.changes.Past.{Past}
use Rattle.run_windows.specs.declared.exclusive_group.ExclusiveGroup.{ExclusiveGroup}

-- the groups that an edit makes of these
abbrev pub edited : Edit → List ExclusiveGroup → List ExclusiveGroup
edited (Whole all) after = all.items
edited (Put at group) after = slice_set after at group
edited (Insert at group) after = insert after at group
edited (Remove at) after = remove after at

-- the groups before these changes, where these come after them
abbrev pub undone : List ExclusiveGroup → List Past → List ExclusiveGroup
undone after [] = after
undone after (p ∷ ps) = edited p.edit (undone after ps)

-- the exclusive groups from an epoch on, up to the next change
pub record Change : Type 0 where
  pub from : ℕ
  pub exclusive : List ExclusiveGroup

-- the groups of each of these changes, where these come after the last one
abbrev pub changes_of : List ExclusiveGroup → List Past → List Change
changes_of after [] = []
changes_of after (p ∷ ps) = record { from = p.from; exclusive = undone after (p ∷ ps) } ∷ changes_of after ps
