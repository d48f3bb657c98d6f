-- A list of exclusive groups, in order of creation, of which one changes.
-- (For functions and proofs: no promise of the program stands on it.)
use Rattle.std.specs.Prelude.{ℕ, ◌<◌, suc, Bool, not, ◌==◌, nat_lt, if◌then◌else◌, AllPairs, List, [], ◌∷◌, ◌++◌, Option, Some, None, filter}
use Rattle.std.specs.List.{insert, remove, slice_set}
use Rattle.group_tree.specs.Records.{has_mode}
use Rattle.group_tree.specs.declared.group.Group.{Group}
use Rattle.rc_base.specs.declared.names.Gid.{Gid}
use Rattle.rc_base.specs.declared.names.Mode.TheVariants.{Exclusive}
use Rattle.run_windows.specs.Edits.{edited}
use Rattle.run_windows.specs.Stays.{exclusive_of}
use Rattle.run_windows.specs.declared.edit.Edit.{Edit}
use Rattle.run_windows.specs.declared.exclusive_group.ExclusiveGroup.{ExclusiveGroup}

-- each group was made before those after it
abbrev pub AreInOrder : List ExclusiveGroup → Type 0
AreInOrder groups = AllPairs (λ (a b : ExclusiveGroup). a.gid.0 < b.gid.0) groups

-- whether a record is of this group
abbrev pub is_of : Gid → ExclusiveGroup → Bool
is_of gid g = gid.0 == g.gid.0

-- the records of all other groups
abbrev pub others : Gid → List ExclusiveGroup → List ExclusiveGroup
others gid groups = filter (λ (g : ExclusiveGroup). not (is_of gid g)) groups

-- a record, where there is one
abbrev pub listed : Option ExclusiveGroup → List ExclusiveGroup
listed None = []
listed (Some g) = g ∷ []

-- the record of a group, where there is one, among those of others, in order of creation
abbrev pub joined : Gid → Option ExclusiveGroup → List ExclusiveGroup → List ExclusiveGroup
joined gid own [] = listed own
joined gid own (x ∷ xs) = if nat_lt x.gid.0 gid.0 then x ∷ joined gid own xs else listed own ++ x ∷ xs

-- the place of a group in order of creation: how many of these are older
abbrev pub place_in : Gid → List ExclusiveGroup → ℕ
place_in gid [] = 0
place_in gid (x ∷ xs) = if nat_lt x.gid.0 gid.0 then suc (place_in gid xs) else 0

-- a record, where it is of this group
abbrev pub own_of : Gid → Option ExclusiveGroup → Option ExclusiveGroup
own_of gid None = None
own_of gid (Some g) = if is_of gid g then Some g else None

-- the record of a group, where it is exclusive
abbrev pub if_exclusive : Option Group → Option ExclusiveGroup
if_exclusive None = None
if_exclusive (Some g) = if has_mode Exclusive g then Some (exclusive_of g) else None

-- these records with another one in place of one of them, or without it
abbrev pub with_other : ℕ → Option ExclusiveGroup → List ExclusiveGroup → List ExclusiveGroup
with_other at (Some now) groups = slice_set groups at now
with_other at None groups = remove groups at

-- these records with one more, where there is one
abbrev pub with_new : ℕ → Option ExclusiveGroup → List ExclusiveGroup → List ExclusiveGroup
with_new at (Some now) groups = insert groups at now
with_new at None groups = groups

-- the groups before a change, where there was one
abbrev pub before : Option Edit → List ExclusiveGroup → List ExclusiveGroup
before None after = after
before (Some e) after = edited e after
