-- The names of the groups of a state.
use Rattle.std.specs.Prelude.{ℕ, ◌<◌, IfSome, List, length}
use Rattle.std.specs.List.{All}
use Rattle.group_tree.specs.declared.group.Group.{Group}
use Rattle.path_names.specs.ShortNames.{IsShortName}
use Rattle.path_names.specs.declared.names.NameId.{NameId}

-- (For proofs.) a name is one of these, and as short as the component of a path
pub record IsName (names : List (List ℕ)) (id : NameId) : Type 0 where
  pub known : id.0 < length names
  pub short : IsShortName names id.0

-- (For proofs.) a group that has no name, or such a name
abbrev pub IsNamed : List (List ℕ) → Group → Type 0
IsNamed names g = IfSome g.name (IsName names)

-- (For proofs.) the name of every group is one of these, and short
abbrev pub AreNamed : List (List ℕ) → List Group → Type 0
AreNamed names groups = All (IsNamed names) groups
