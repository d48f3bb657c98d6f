-- Worked rows: what a list of commands is answered, and what state it leaves.
-- (For functions and proofs: no promise of the program stands on it.)
use Rattle.std.specs.Prelude.{◌≡◌, ℕ, ◌^◌, false, List, [], ◌∷◌, codes, Some, None}
use Rattle.machine.specs.declared.parameters.Parameters.{Parameters}
use Rattle.path_names.specs.declared.dirs.DirRef.TheVariants.{Root, Ctrl}
use Rattle.path_names.specs.declared.files.FileKind.{FileKind}
use Rattle.path_names.specs.declared.files.FileKind.TheVariants.{Tasks, Schemata, Mode}
use Rattle.path_names.specs.declared.names.NameId.{NameId}
use Rattle.path_names.specs.declared.path_ref.PathRef.TheVariants.{Dir, File}
use Rattle.rc_base.specs.Replies.{refused}
use Rattle.rc_base.specs.declared.replies.Reply.{Reply}
use Rattle.rc_base.specs.declared.replies.Reply.TheVariants as replies
use Rattle.rc_base.specs.declared.replies.Why.TheVariants as whys
use Rattle.script_ops.specs.declared.op.Op.{Op}
use Rattle.script_ops.specs.declared.op.Op.TheVariants as ops
use Rattle.tree_law.specs.State.{State, opening}
use Rattle.tree_law.specs.Steps.{next}

-- a command with the counts that it is given
pub record Step : Type 0 where
  pub op : Op
  pub looks : List ℕ

-- the replies to these commands, from a state on
abbrev pub answers : Parameters → State → List Step → List Reply
answers m s [] = []
answers m s (step ∷ steps) = (next m s step.op step.looks).reply ∷ answers m (next m s step.op step.looks).state steps

-- the state after these commands
abbrev pub at_end : Parameters → State → List Step → State
at_end m s [] = s
at_end m s (step ∷ steps) = at_end m (next m s step.op step.looks).state steps

-- a machine with one cache of so many sets and ways, so many RMIDs, 4 classes and one CPU
abbrev pub machine : ℕ → ℕ → ℕ → Parameters
machine sets ways rmids = record { domains = 1; sets = sets; ways = ways; classes = 4; rmids = rmids; cpus = 1; min = 1; shareable = 0; threshold = 0; sparse = false; slices = 1 }

-- the name of this number
abbrev pub named : ℕ → NameId
named n = record { 0 = n }

-- makes the control group of this name
abbrev pub mkdir : ℕ → Step
mkdir n = record { op = ops.Mkdir (Dir (Ctrl (named n))); looks = [] }

-- removes the control group of this name, with the counts of its RMID
abbrev pub rmdir : ℕ → List ℕ → Step
rmdir n looks = record { op = ops.Rmdir (Dir (Ctrl (named n))); looks = looks }

-- writes a text to a file of the control group of this name, with the counts that it needs
abbrev pub write : ℕ → FileKind → List ℕ → List ℕ → Step
write n kind text looks = record { op = ops.Write (File (Ctrl (named n)) kind) text; looks = looks }

-- writes a text to a file of the default group
abbrev pub write_root : FileKind → List ℕ → Step
write_root kind text = record { op = ops.Write (File Root kind) text; looks = [] }

-- a freed RMID with lines waits in limbo until a tick finds it empty
abbrev pub limbo_row : List Step
limbo_row = mkdir 1 ∷ write 1 Tasks (codes "1") [] ∷ rmdir 1 (1 ∷ []) ∷ mkdir 2 ∷ record { op = ops.Flush None; looks = [] } ∷ record { op = ops.Tick; looks = 0 ∷ [] } ∷ mkdir 2 ∷ []

-- only the mkdir before the tick is refused: the RMID that it needs is in limbo
abbrev pub LimboRow : Type 0
LimboRow = answers (machine 1 4 2) (opening (machine 1 4 2) (1 ∷ [])) limbo_row ≡ replies.Ok ∷ replies.Ok ∷ replies.Ok ∷ refused whys.RmidsBusy 0 ∷ replies.Ok ∷ replies.Ok ∷ replies.Ok ∷ []

-- writes of `tasks`: with an undeclared task, with an empty element, of an empty text, and with a last comma
abbrev pub tasks_row : List Step
tasks_row = mkdir 1 ∷ write 1 Tasks (codes "101,999,102") [] ∷ write 1 Tasks (codes ",") [] ∷ write 1 Tasks [] [] ∷ write 1 Tasks (codes " 102 ,") [] ∷ []

-- the first two of these writes are refused, and the last two are accepted
abbrev pub TasksRow : Type 0
TasksRow = answers (machine 1 4 4) (opening (machine 1 4 4) (101 ∷ 102 ∷ [])) tasks_row ≡ replies.Ok ∷ refused whys.NoTask 999 ∷ refused whys.BadTaskList 0 ∷ replies.Ok ∷ replies.Ok ∷ []

-- leaving pseudo-locksetup is refused while an exclusive group overlaps
abbrev pub setup_row : List Step
setup_row = write_root Schemata (codes "L3:0=3") ∷ mkdir 1 ∷ write 1 Schemata (codes "L3:0=c") [] ∷ write 1 Mode (codes "pseudo-locksetup") (0 ∷ []) ∷ mkdir 2 ∷ write 2 Schemata (codes "L3:0=c") [] ∷ write 2 Mode (codes "exclusive") []
    ∷ write 1 Mode (codes "shareable") [] ∷ rmdir 2 (0 ∷ []) ∷ write 1 Mode (codes "shareable") [] ∷ []

-- leaving is refused while the other group is there, and accepted once it is removed
abbrev pub SetupRow : Type 0
SetupRow = answers (machine 1 4 4) (opening (machine 1 4 4) []) setup_row
    ≡ replies.Ok ∷ replies.Ok ∷ replies.Ok ∷ replies.Ok ∷ replies.Ok ∷ replies.Ok ∷ replies.Ok ∷ refused whys.OverlapExclusive 0 ∷ replies.Ok ∷ replies.Ok ∷ []

-- a region is locked, and its group's files refuse
abbrev pub lock_row : List Step
lock_row = write_root Schemata (codes "L3:0=3") ∷ mkdir 1 ∷ write 1 Mode (codes "pseudo-locksetup") (0 ∷ []) ∷ write 1 Schemata (codes "L3:0=c") [] ∷ write 1 Tasks (codes "1") [] ∷ write 1 Mode (codes "exclusive") [] ∷ write 1 Mode (codes "pseudo-locked") []
    ∷ write_root Schemata (codes "L3:0=f") ∷ []

-- after the lock no task joins the group, its mode stays, and the default group may not have the region's ways
abbrev pub LockRow : Type 0
LockRow = answers (machine 4 4 4) (opening (machine 4 4 4) (1 ∷ [])) lock_row
    ≡ replies.Ok ∷ replies.Ok ∷ replies.Ok ∷ replies.Ok ∷ refused whys.Locking 0 ∷ refused whys.GroupLocked 0 ∷ replies.Ok ∷ refused whys.OverlapRegion 0 ∷ []

-- after that row the domain has the region: ways 2 and 3, and the first line of a first lock
abbrev pub LockState : Type 0
LockState = (at_end (machine 4 4 4) (opening (machine 4 4 4) (1 ∷ [])) lock_row).regions ≡ Some (record { gid = record { 0 = 1 }; domain = 0; mask = 12; first_line = 2 ^ 52 }) ∷ []

-- an exclusive group with all ways leaves no space
abbrev pub space_row : List Step
space_row = write_root Mode (codes "exclusive") ∷ mkdir 1 ∷ []

-- the new group is refused, since domain 0 has no space
abbrev pub SpaceRow : Type 0
SpaceRow = answers (machine 1 4 4) (opening (machine 1 4 4) []) space_row ≡ replies.Ok ∷ refused whys.NoSpace 0 ∷ []

-- a domain takes one region
abbrev pub region_row : List Step
region_row = write_root Schemata (codes "L3:0=3") ∷ mkdir 1 ∷ write 1 Mode (codes "pseudo-locksetup") (0 ∷ []) ∷ write 1 Schemata (codes "L3:0=c") [] ∷ mkdir 2 ∷ write 2 Schemata (codes "L3:0=30") [] ∷ write 2 Mode (codes "pseudo-locksetup") (0 ∷ [])
    ∷ write 2 Schemata (codes "L3:0=30") [] ∷ []

-- the lock of a second region in domain 0 is refused
abbrev pub RegionRow : Type 0
RegionRow = answers (machine 1 8 4) (opening (machine 1 8 4) []) region_row ≡ replies.Ok ∷ replies.Ok ∷ replies.Ok ∷ replies.Ok ∷ replies.Ok ∷ replies.Ok ∷ replies.Ok ∷ refused whys.HasRegion 0 ∷ []
