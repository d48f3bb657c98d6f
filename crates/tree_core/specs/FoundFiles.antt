-- The directory and the file that a look-up by a path found.
-- (For functions and proofs: no promise of the program stands on it.)
use Rattle.std.specs.Prelude.{◌≡◌, true, false, Option, Some, None, Result, Ok, Err, find}
use Rattle.path_names.specs.declared.dirs.DirRef.{DirRef}
use Rattle.path_names.specs.declared.files.FileKind.{FileKind}
use Rattle.path_names.specs.declared.path_ref.PathRef.{PathRef}
use Rattle.path_names.specs.declared.path_ref.PathRef.TheVariants.{File}
use Rattle.rc_base.specs.declared.replies.Why.{Why}
use Rattle.tree_law.specs.Existing.{dir_exists, directory_gid}
use Rattle.tree_law.specs.State.{State}
use Rattle.tree_law.specs.commands.Write.{against, reasons}
use Rattle.tree_core.specs.declared.found_dir.FoundDir.{FoundDir}

-- the directory that was found, with its group where it has one, and None where there is none
abbrev pub FindsDir : State → DirRef → Option FoundDir → Type 0
FindsDir s dir None = dir_exists s dir ≡ false
FindsDir s dir (Some at) = (dir ≡ at.dir) × (dir_exists s at.dir ≡ true) × (at.gid ≡ directory_gid s at.dir)

-- the file that can be written at a path, or what is against that
abbrev pub FindsFile : State → PathRef → Result (FoundDir × FileKind) Why → Type 0
FindsFile s path (Ok file) =
    (path ≡ File file.0.dir file.1)
    × (find (against s (File file.0.dir file.1)) reasons ≡ None)
    × (file.0.gid ≡ directory_gid s file.0.dir)
FindsFile s path (Err why) = find (against s path) reasons ≡ Some why
