-- Worked rows of locked regions: where the window of a lock ends in two runs.
-- (For functions and proofs: no promise of the program stands on it.)
use Rattle.std.specs.Prelude.{ℕ, ◌+◌, ◌^◌, true, false, List, [], ◌∷◌, ◌++◌, codes, None}
use Rattle.cache_core.specs.declared.entry.What.TheVariants.{Access, Raise, Flush, Lock, Look}
use Rattle.cache_core.specs.declared.entry.SliceEntry.{SliceEntry}
use Rattle.cache_core.specs.Stands.{entry}
use Rattle.path_names.specs.declared.dirs.DirRef.TheVariants.{Root, Ctrl}
use Rattle.path_names.specs.declared.files.FileKind.{FileKind}
use Rattle.path_names.specs.declared.files.FileKind.TheVariants.{Schemata, Mode}
use Rattle.path_names.specs.declared.path_ref.PathRef.{PathRef}
use Rattle.path_names.specs.declared.path_ref.PathRef.TheVariants.{Dir, File}
use Rattle.pseudo_lock.specs.declared.region.Region.{Region}
use Rattle.rc_base.specs.declared.replies.Reply.TheVariants as replies
use Rattle.run_law.specs.Journals.{JournalsValue}
use Rattle.run_law.specs.TreeHistory.{TreeEntryValue}
use Rattle.run_windows.specs.Regions.{IsLockWindow}
use Rattle.script_ops.specs.Values.{ScriptValue}
use Rattle.script_ops.specs.declared.op.Op.{Op}
use Rattle.script_ops.specs.declared.op.Op.TheVariants as ops

-- a machine with one cache of four sets and four ways, one task, the name k, and one thread with these ops
abbrev pub script_of : List Op → ScriptValue
script_of thread = record {
  machine = record { domains = 1; sets = 4; ways = 4; classes = 8; rmids = 16; cpus = 1; min = 1; shareable = 0; threshold = 0; sparse = false; slices = 1 };
  tasks = 1 ∷ [];
  names = codes "k" ∷ [];
  phases = record { order = []; threads = thread ∷ [] } ∷ [];
}

-- the group k, and its files
abbrev pub group : PathRef
group = Dir (Ctrl (record { 0 = 0 }))

abbrev pub file : FileKind → PathRef
file kind = File (Ctrl (record { 0 = 0 })) kind

-- The group k locks ways 2 and 3, and two lines of its region are touched.
abbrev pub locking : List Op
locking = ops.Write (File Root Schemata) (codes "L3:0=3") ∷ ops.Mkdir group ∷ ops.Write (file Mode) (codes "pseudo-locksetup") ∷ ops.Write (file Schemata) (codes "L3:0=c") ∷ ops.Touch 0 group 1 0 ∷ ops.Touch 0 group 1 448 ∷ []

-- a command that was accepted
abbrev pub accepted : ℕ → List ℕ → TreeEntryValue
accepted op looks = record { thread = 0; op = op; reply = replies.Ok; looks = looks }

-- the region of that lock, and its entry
abbrev pub region : Region
region = record { gid = record { 0 = 1 }; domain = 0; mask = 12; first_line = 2 ^ 52 }

abbrev pub lock : SliceEntry
lock = entry 0 3 4 (Lock 12 (2 ^ 52))

-- the entries of the slice up to the second touch
abbrev pub up_to_touches : List SliceEntry
up_to_touches = entry 0 0 1 Raise ∷ entry 0 2 2 (Look 1 0) ∷ entry 0 2 3 Raise ∷ lock ∷ entry 0 4 5 (Access true 2 (record { 0 = 0 }) 0 3 (2 ^ 52)) ∷ entry 0 5 6 (Access true 3 (record { 0 = 0 }) 0 3 (2 ^ 52 + 7)) ∷ []

-- ---- a flush

-- then the cache is flushed, and the first line is touched again
abbrev pub flushed : ScriptValue
flushed = script_of (locking ++ ops.Flush None ∷ ops.Touch 0 group 1 0 ∷ [])

abbrev pub flushed_run : JournalsValue
flushed_run = record {
  tree = accepted 0 [] ∷ accepted 1 [] ∷ accepted 2 (0 ∷ []) ∷ accepted 3 [] ∷ accepted 4 [] ∷ accepted 5 [] ∷ accepted 6 [] ∷ accepted 7 [] ∷ [];
  slices = (up_to_touches ++ entry 0 6 7 Flush ∷ entry 0 7 8 (Access false 0 (record { 0 = 0 }) 0 3 (2 ^ 52)) ∷ []) ∷ [];
}

-- The window of the lock ends at the flush, and neither after nor before it.
pub record FlushedRegion : Type 0 where
  pub window : IsLockWindow flushed flushed_run 0 3 6 lock region
  pub beyond : IsLockWindow flushed flushed_run 0 3 7 lock region → ⊥
  pub before : IsLockWindow flushed flushed_run 0 3 5 lock region → ⊥

-- ---- a removed group

-- then the group is removed, and the task uses a line of its own
abbrev pub removed : ScriptValue
removed = script_of (locking ++ ops.Rmdir group ∷ ops.Access 1 0 0 ∷ [])

abbrev pub removed_run : JournalsValue
removed_run = record {
  tree = accepted 0 [] ∷ accepted 1 [] ∷ accepted 2 (0 ∷ []) ∷ accepted 3 [] ∷ accepted 4 [] ∷ accepted 5 [] ∷ accepted 6 [] ∷ [];
  slices = (up_to_touches ++ entry 0 6 7 Raise ∷ entry 0 7 7 (Access false 0 (record { 0 = 0 }) 0 3 0) ∷ []) ∷ [];
}

-- The window ends at the first entry in whose state the region is gone.
pub record RemovedRegion : Type 0 where
  pub window : IsLockWindow removed removed_run 0 3 6 lock region
  pub beyond : IsLockWindow removed removed_run 0 3 7 lock region → ⊥
  pub whole : IsLockWindow removed removed_run 0 3 8 lock region → ⊥
