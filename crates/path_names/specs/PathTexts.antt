-- The canonical texts of paths, each as a script may write it.
use Rattle.std.specs.Prelude.{ℕ, List, [], ◌++◌, codes, unwrap_or, slice_get}
use Rattle.path_names.specs.declared.names.NameId.{NameId}
use Rattle.path_names.specs.declared.dirs.DirRef.{DirRef}
use Rattle.path_names.specs.declared.dirs.DirRef.TheVariants.{Root, Info, InfoL3, InfoL3Mon, Ctrl, MonGroups, Mon, MonData, MonDomain}
use Rattle.path_names.specs.declared.dirs.Holder.{Holder}
use Rattle.path_names.specs.declared.dirs.Holder.TheVariants.{Control, Monitor}
use Rattle.path_names.specs.declared.dirs.Owner.{Owner}
use Rattle.path_names.specs.declared.dirs.Owner.TheVariants.{Default as TheDefault, Ctrl as Named}
use Rattle.path_names.specs.declared.path_ref.PathRef.{PathRef}
use Rattle.path_names.specs.declared.path_ref.PathRef.TheVariants.{Dir, File, Free, Nowhere}
use Rattle.path_names.specs.PathTable.{domain_name, file_name}

-- a name by its number
abbrev pub name_in : List (List ℕ) → NameId → List ℕ
name_in names id = unwrap_or (slice_get names id.0) []

-- the directory of a group; the default group's is the root, whose name is empty in front of a slash
abbrev pub owner_path : List (List ℕ) → Owner → List ℕ
owner_path names TheDefault = []
owner_path names (Named name) = codes "/" ++ name_in names name

-- the directory of a group whose lines are counted
abbrev pub holder_path : List (List ℕ) → Holder → List ℕ
holder_path names (Control owner) = owner_path names owner
holder_path names (Monitor owner name) = owner_path names owner ++ codes "/mon_groups/" ++ name_in names name

-- a directory, as it stands in front of a slash
abbrev pub dir_path : List (List ℕ) → DirRef → List ℕ
dir_path names Root = []
dir_path names Info = codes "/info"
dir_path names InfoL3 = codes "/info/L3"
dir_path names InfoL3Mon = codes "/info/L3_MON"
dir_path names (Ctrl name) = codes "/" ++ name_in names name
dir_path names (MonGroups owner) = owner_path names owner ++ codes "/mon_groups"
dir_path names (Mon owner name) = owner_path names owner ++ codes "/mon_groups/" ++ name_in names name
dir_path names (MonData holder) = holder_path names holder ++ codes "/mon_data"
dir_path names (MonDomain holder domain) = holder_path names holder ++ codes "/mon_data/" ++ domain_name domain

-- a path: `/`, the directories down to it and its name, with one slash between
abbrev pub path_text : List (List ℕ) → PathRef → List ℕ
path_text names (Dir Root) = codes "/"
path_text names (Dir dir) = dir_path names dir
path_text names (File dir kind) = dir_path names dir ++ codes "/" ++ file_name kind
path_text names (Free dir name) = dir_path names dir ++ codes "/" ++ name_in names name
path_text names (Nowhere name) = name_in names name
