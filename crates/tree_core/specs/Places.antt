-- Paths by what is made or written there, and what is against the place of a new group.
-- (For functions and proofs: no promise of the program stands on it.)
use Rattle.std.specs.Prelude.{Bool, true, false, List, [], ◌∷◌}
use Rattle.path_names.specs.declared.dirs.DirRef.TheVariants.{MonDomain}
use Rattle.path_names.specs.declared.files.FileKind.TheVariants.{Mode, Occupancy}
use Rattle.path_names.specs.declared.path_ref.PathRef.{PathRef}
use Rattle.path_names.specs.declared.path_ref.PathRef.TheVariants.{File}
use Rattle.rc_base.specs.declared.replies.Why.{Why}
use Rattle.rc_base.specs.declared.replies.Why.TheVariants.{NoSuchPath, NotAPlace, Exists}

-- the reasons against the place alone, which are the first against the command
abbrev pub place_reasons : List Why
place_reasons = NoSuchPath ∷ Exists ∷ NotAPlace ∷ []

-- whether a path is a file of some directory
abbrev pub is_some_file : PathRef → Bool
is_some_file (File dir kind) = true
is_some_file path = false

-- whether a path is the file `mode` of some directory
abbrev pub is_mode_file : PathRef → Bool
is_mode_file (File dir Mode) = true
is_mode_file path = false

-- whether a path is the file `llc_occupancy` of a group in some domain
abbrev pub is_occupancy : PathRef → Bool
is_occupancy (File (MonDomain holder domain) Occupancy) = true
is_occupancy path = false
