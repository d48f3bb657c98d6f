-- What the locks keep they keep with each step: one law for each thing that a cell sees or is given.
-- (For functions and proofs: no promise of the program stands on it.)
use Rattle.std.specs.Prelude.{◌≡◌, ℕ, ◌+◌, ◌<◌, ◌≤◌, IsSome, List, [], ◌∷◌, ◌++◌, length}
use Rattle.cache_core.specs.History.{IsLegal, floor_of}
use Rattle.cache_core.specs.declared.entry.SliceEntry.{SliceEntry}
use Rattle.machine.specs.Slices.{slice_count}
use Rattle.rc_base.specs.declared.names.Tag.{Tag}
use Rattle.run_law.specs.Jobs.{jobs_of}
use Rattle.run_law.specs.Journals.{JournalsValue, slice_at}
use Rattle.run_law.specs.Slices.{shape_in}
use Rattle.run_law.specs.TreeHistory.{CommandMayFollow, TreeEntryValue}
use Rattle.script_ops.specs.Values.{ScriptValue, op_at}
use Rattle.script_ops.specs.declared.op.Op.{Op}
use Rattle.seen_journal.specs.Prefixes.{IsPrefix}
use Rattle.tree_law.specs.State.{State}
use Rattle.tree_law.specs.Steps.{next}
use Rattle.live_law.specs.Cells.{MayStand, SliceKeeps, TreeKeeps}
use Rattle.live_law.specs.SeenJournals.{HasGrown}
use Rattle.live_law.specs.Stages.{HoldsTag, IsFollowing, IsLooking}

-- ---- a slice's cell

-- a cell that sees more of the tree's history keeps what it kept
abbrev pub SliceSeesMore : Type 0
SliceSeesMore =
    (script : ScriptValue) (i : ℕ) (tree longer : List TreeEntryValue) (list : List SliceEntry)
    → IsPrefix tree longer → SliceKeeps script i tree list
    → SliceKeeps script i longer list

-- so does one that is given an entry which may stand there, where the cache says that the longer list is legal
abbrev pub SliceAddsEntry : Type 0
SliceAddsEntry =
    (script : ScriptValue) (i : ℕ) (tree : List TreeEntryValue) (list : List SliceEntry) (e : SliceEntry)
    → IsLegal (shape_in script.machine i) (list ++ e ∷ []) → MayStand script tree i list e → SliceKeeps script i tree list
    → SliceKeeps script i tree (list ++ e ∷ [])

-- its floor is an epoch that the tree has had
abbrev pub SliceFloorIsPast : Type 0
SliceFloorIsPast =
    (script : ScriptValue) (i : ℕ) (tree : List TreeEntryValue) (list : List SliceEntry) → SliceKeeps script i tree list
    → floor_of list ≤ length tree

-- a look of the command that holds the tree may come after all that its thread has seen
abbrev pub LookMayStand : Type 0
LookMayStand =
    (script : ScriptValue) (start : JournalsValue) (t n i : ℕ) (c : Op) (found : List ℕ) (v : JournalsValue)
    (list : List SliceEntry) (e : SliceEntry)
    → IsLooking script start t n c found v → IsPrefix (slice_at v i) list → i < slice_count script.machine
    → e.thread ≡ t → e.op ≡ n → e.epoch ≡ length v.tree
    → MayStand script v.tree i list e

-- so may what follows that command
abbrev pub FollowMayStand : Type 0
FollowMayStand =
    (script : ScriptValue) (start : JournalsValue) (t n k i : ℕ) (c : Op) (h : TreeEntryValue) (made : ℕ) (v : JournalsValue)
    (list : List SliceEntry) (e : SliceEntry)
    → IsFollowing script start t n k c h made v → IsPrefix (slice_at v i) list → i < slice_count script.machine
    → e.thread ≡ t → e.op ≡ n → e.epoch ≤ k + 1
    → MayStand script v.tree i list e

-- so may the entry of an access with its tag, whatever history the cell has seen
abbrev pub TouchMayStand : Type 0
TouchMayStand =
    (script : ScriptValue) (task cpu : ℕ) (tag : Tag) (i : ℕ) (v : JournalsValue) (tree : List TreeEntryValue)
    (list : List SliceEntry) (e : SliceEntry)
    → HoldsTag script v task cpu tag → IsPrefix v.tree tree → IsPrefix (slice_at v i) list → i < slice_count script.machine
    → IsSome (op_at script e.thread e.op) → e.epoch ≡ tag.epoch
    → MayStand script tree i list e

-- ---- the tree's cell

-- a cell that sees more of the slices keeps what it kept
abbrev pub TreeSeesMore : Type 0
TreeSeesMore =
    (script : ScriptValue) (s : State) (v : JournalsValue) (slices : List (List SliceEntry))
    → HasGrown v (record { tree = v.tree; slices = slices }) → TreeKeeps script s v
    → TreeKeeps script s (record { tree = v.tree; slices = slices })

-- so does one that is given a command which was decided and has made all that it owes, when the cell has seen what its thread has
abbrev pub TreeAddsCommand : Type 0
TreeAddsCommand =
    (script : ScriptValue) (s : State) (v : JournalsValue) (start : JournalsValue) (t n : ℕ) (c : Op) (h : TreeEntryValue)
    (slices : List (List SliceEntry))
    → 0 < script.machine.slices → TreeKeeps script s v → HasGrown v (record { tree = v.tree; slices = slices })
    → CommandMayFollow script v.tree h
    → IsFollowing script start t n (length v.tree) c h (length (jobs_of script (v.tree ++ h ∷ []) (length v.tree) c))
    (record { tree = v.tree ++ h ∷ []; slices = slices })
    → TreeKeeps script (next script.machine s c h.looks).state (record { tree = v.tree ++ h ∷ []; slices = slices })
