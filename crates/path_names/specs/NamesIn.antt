-- The numbers of the names in a path.
-- (For functions and proofs: no promise of the program stands on it.)
use Rattle.std.specs.Prelude.{ℕ, ◌<◌, List, [], ◌∷◌, ◌++◌, All}
use Rattle.path_names.specs.declared.dirs.DirRef.{DirRef}
use Rattle.path_names.specs.declared.dirs.DirRef.TheVariants.{Root, Info, InfoL3, InfoL3Mon, Ctrl, MonGroups, Mon, MonData, MonDomain}
use Rattle.path_names.specs.declared.dirs.Holder.{Holder}
use Rattle.path_names.specs.declared.dirs.Holder.TheVariants.{Control, Monitor}
use Rattle.path_names.specs.declared.dirs.Owner.{Owner}
use Rattle.path_names.specs.declared.dirs.Owner.TheVariants.{Default as TheDefault, Ctrl as Named}
use Rattle.path_names.specs.declared.path_ref.PathRef.{PathRef}
use Rattle.path_names.specs.declared.path_ref.PathRef.TheVariants.{Dir, File, Free, Nowhere}

-- the name of a control group; the default group has none
abbrev pub owner_ids : Owner → List ℕ
owner_ids TheDefault = []
owner_ids (Named name) = name.0 ∷ []

-- the names of a group whose lines are counted, with its owner
abbrev pub holder_ids : Holder → List ℕ
holder_ids (Control owner) = owner_ids owner
holder_ids (Monitor owner name) = owner_ids owner ++ name.0 ∷ []

-- the names in a directory
abbrev pub dir_ids : DirRef → List ℕ
dir_ids Root = []
dir_ids Info = []
dir_ids InfoL3 = []
dir_ids InfoL3Mon = []
dir_ids (Ctrl name) = name.0 ∷ []
dir_ids (MonGroups owner) = owner_ids owner
dir_ids (Mon owner name) = owner_ids owner ++ name.0 ∷ []
dir_ids (MonData holder) = holder_ids holder
dir_ids (MonDomain holder domain) = holder_ids holder

-- the names in a path
abbrev pub path_ids : PathRef → List ℕ
path_ids (Dir dir) = dir_ids dir
path_ids (File dir kind) = dir_ids dir
path_ids (Free dir name) = dir_ids dir ++ name.0 ∷ []
path_ids (Nowhere name) = name.0 ∷ []

-- name numbers that are all below `count`
abbrev pub AreKnown : ℕ → List ℕ → Type 0
AreKnown count ids = All (λ id. id < count) ids
