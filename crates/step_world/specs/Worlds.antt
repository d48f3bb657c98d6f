-- What contracts see of a world, and when it is one of a script.
-- (For functions and proofs: no promise of the program stands on it.)
use Rattle.std.specs.Prelude.{◌≡◌, ℕ, ◌+◌, ◌*◌, ◌^◌, ◌<◌, ◌≤◌, List, [], ◌∷◌, ◌++◌, drop, take, length, map, IsSome, Option, Some, slice_get, slice_index_or, sum_by, vec_capacity, false}
use Rattle.std.specs.List.{All}
use Rattle.machine.specs.Slices.{slice_count}
use Rattle.rc_base.specs.Buffers.{Looks}
use Rattle.run_law.specs.Entries.{entry_value}
use Rattle.run_law.specs.Journals.{JournalsValue}
use Rattle.run_law.specs.Jobs.{looks_of}
use Rattle.run_law.specs.Ops.{is_command}
use Rattle.run_law.specs.Quotas.{command_count, most_counts, room_of}
use Rattle.run_law.specs.Targets.{slices_for}
use Rattle.run_law.specs.TreeHistory.{TreeEntryValue, tree_after}
use Rattle.script_ops.specs.Values.{IsLawful, ScriptValue, op_at, ops_of, threads_of}
use Rattle.script_ops.specs.declared.op.Op.{Op}
use Rattle.script_ops.specs.declared.op.Op.TheVariants.{Access}
use Rattle.run_law.specs.Caches.{IsCacheOf}
use Rattle.run_law.specs.FoundLooks.{found_at}
use Rattle.run_law.specs.LookLists.{AreReady, rooms_of}
use Rattle.step_world.specs.Looked.{HasLooked}
use Rattle.step_world.specs.Machine.{MachineValue, thread_at}
use Rattle.step_world.specs.Moments.{IsRunSoFar}
use Rattle.step_world.specs.Slices.{SliceValue}
use Rattle.step_world.specs.declared.thread_state.ThreadState.{ThreadState}
use Rattle.step_world.specs.declared.thread_state.ThreadState.TheVariants.{Ready, Looking, Following, Tagged}
use Rattle.step_world.specs.declared.thread_state.Thread.{Thread}
use Rattle.step_world.specs.declared.work.Work.{Work}
use Rattle.step_world.specs.declared.world.World.{World}
use Rattle.tree_core.specs.Follows.{IsReady}
use Rattle.tree_core.specs.Values.{TreeValue}
use Rattle.tree_law.specs.Steps.{after, follow_domain, needs}
use Rattle.tree_law.specs.declared.follow.Follow.{Follow}

-- the journals so far
abbrev pub journals_of : List TreeEntryValue → List SliceValue → JournalsValue
journals_of commands slices = record { tree = commands; slices = map (λ (s : SliceValue). s.entries) slices }

-- the state of the machine of steps that a world is in
abbrev pub machine_of : World → MachineValue
machine_of w = record { journals = journals_of (map entry_value w.commands.items) w.slices.items; phase = w.phase; holder = w.holder; threads = w.threads.items }

-- ---- the parts of a world

-- each cache is the one that its slice's entries left, and each slice has room for the entries of all ops
pub record AreInPlay (script : ScriptValue) (slices : List SliceValue) : Type 0 where
  pub count : length slices ≡ slice_count script.machine
  pub caches : (i : ℕ) (d : SliceValue) → i < length slices → IsCacheOf script.machine i (slice_index_or slices i d).entries (slice_index_or slices i d).cache
  pub rooms : (i : ℕ) (d : SliceValue) → i < length slices → room_of script i ≤ (slice_index_or slices i d).room

-- a place fits the op, if there is one: only an access is Tagged, and without an op the thread is Ready
abbrev pub IsIn : ThreadState → Option Op → Type 0
IsIn Ready o = Unit {0}
IsIn (Looking made) o = IsSome o
IsIn (Following made) o = IsSome o
IsIn (Tagged tag) (Some (Access task cpu addr)) = Unit {0}
IsIn (Tagged tag) o = ⊥

-- a thread is at one of its ops or at its end
abbrev pub IsWithin : ScriptValue → ℕ → Thread → Type 0
IsWithin script t v = (v.next ≤ length (ops_of script t)) × IsIn v.state (op_at script t v.next)

-- each thread is at one of its ops or at its end
abbrev pub AreWithin : ScriptValue → MachineValue → Type 0
AreWithin script s = (t : ℕ) → IsWithin script t (thread_at s t)

-- the tree is the one that its history left
pub record IsTreeOf (script : ScriptValue) (commands : List TreeEntryValue) (tree : TreeValue) : Type 0 where
  pub machine : tree.machine ≡ script.machine
  pub state : tree.state ≡ tree_after script commands
  pub epoch : tree.epoch ≡ length commands

-- the rooms of the commands of a thread, from op n on
abbrev pub rooms_from : ScriptValue → ℕ → ℕ → List ℕ
rooms_from script t n = rooms_of script.machine (drop n (ops_of script t))

-- while a command looks, its list is the last, and has room for the counts that it still needs
pub record HasList (script : ScriptValue) (t n : ℕ) (numbers : List ℕ) (lists : List Looks) : Type 0 where
  pub front : List Looks
  pub last : Looks
  pub is : lists ≡ front ++ last ∷ []
  pub numbers_are : last.numbers ≡ numbers
  pub room : (op : Op) → op_at script t n ≡ Some op → most_counts script.machine op ≤ length numbers + last.spare
  pub ready : AreReady (rooms_from script t (n + 1)) front

-- an access that has its tag needs no list
pub record KeepsLists (script : ScriptValue) (t n : ℕ) (lists : List Looks) : Type 0 where
  pub access : (op : Op) → op_at script t n ≡ Some op → is_command op ≡ false
  pub ready : AreReady (rooms_from script t n) lists

-- a thread has a list for each of its commands that is still to be decided
abbrev pub HasLists : ScriptValue → ℕ → ℕ → ThreadState → List Looks → Type 0
HasLists script t n Ready lists = AreReady (rooms_from script t n) lists
HasLists script t n (Looking made) lists = (numbers : List ℕ) × HasList script t n numbers lists
HasLists script t n (Following made) lists = AreReady (rooms_from script t (n + 1)) lists
HasLists script t n (Tagged tag) lists = KeepsLists script t n lists

-- ---- the work of the command that holds the tree

-- the command looks: `work.at` counts are complete, and `work.slice` slices of the next one are counted
pub record IsLookingAt (script : ScriptValue) (s : MachineValue) (t : ℕ) (op : Op) (lists : List Looks) (work : Work) : Type 0 where
  pub found : List ℕ
  pub looked : HasLooked script s t op found
  pub counts : 0 < work.count → work.counts ≡ Some (needs script.machine (tree_after script s.journals.tree) op)
  pub number : work.count ≡ length (needs script.machine (tree_after script s.journals.tree) op)
  pub few : work.count < 2 ^ 32
  pub made : length found ≡ work.at * script.machine.slices + work.slice
  pub within : work.at ≤ length (needs script.machine (tree_after script s.journals.tree) op)
  pub slice : work.slice < script.machine.slices
  pub last : work.at ≡ length (needs script.machine (tree_after script s.journals.tree) op) → work.slice ≡ 0
  pub numbers : List ℕ
  pub list : HasList script t (thread_at s t).next numbers lists
  pub count : length numbers ≡ work.at
  pub each : (q : ℕ) → q < work.at → slice_get numbers q ≡ Some (found_at script.machine.slices found q script.machine.slices)
  pub lines : work.lines ≡ found_at script.machine.slices found work.at work.slice
  pub bound : work.lines ≤ work.slice * 2097152

-- the command follows: `work.at` follow-ups are done, and `work.slice` slices of the next one
pub record IsFollowing (script : ScriptValue) (tree : List TreeEntryValue) (made : ℕ) (op : Op) (work : Work) : Type 0 where
  pub position : ℕ
  pub decided : length tree ≡ position + 1
  pub after : work.after.items ≡ after script.machine (tree_after script (take position tree)) position op
  pub ready : All (IsReady script.machine) work.after.items
  pub domains : All (λ f. follow_domain f < script.machine.domains) work.after.items
  pub within : work.at < length work.after.items
  pub slice : (f : Follow) → slice_get work.after.items work.at ≡ Some f → work.slice < slices_for script.machine f
  pub number : made ≡ length (looks_of script tree position op) + (sum_by (slices_for script.machine) (take work.at work.after.items) + work.slice)
  pub bound : length (looks_of script tree position op) < 2 ^ 40

-- the work is as far as the place of the thread that holds the tree says
abbrev pub IsAtWork : ScriptValue → MachineValue → ℕ → Op → List Looks → Work → ThreadState → Type 0
IsAtWork script s t op lists work Ready = Unit {0}
IsAtWork script s t op lists work (Looking made) = IsLookingAt script s t op lists work
IsAtWork script s t op lists work (Following made) = IsFollowing script s.journals.tree made op work
IsAtWork script s t op lists work (Tagged tag) = Unit {0}

-- The world is one of this script: its journals are those of a run so far, the tree and the caches are those that the journals
-- left, and there is room for all that is still to come.
pub record IsWorldOf (script : ScriptValue) (w : World) : Type 0 where
  pub lawful : IsLawful script
  pub so_far : IsRunSoFar script (machine_of w)
  pub phase : w.phase ≤ length script.phases
  pub tree : IsTreeOf script (map entry_value w.commands.items) w.tree
  pub slices : AreInPlay script w.slices.items
  pub room : command_count script ≤ vec_capacity w.commands
  pub closing : (w.closing.items ≡ []) × (slice_count script.machine ≤ vec_capacity w.closing)
  pub threads : length w.threads.items ≡ length (threads_of script)
  pub within : AreWithin script (machine_of w)
  pub lists_count : length w.lists.items ≡ length (threads_of script)
  pub lists : (t : ℕ) (d : List Looks) → t < length w.threads.items → HasLists script t (thread_at (machine_of w) t).next (thread_at (machine_of w) t).state (slice_index_or w.lists.items t d)
  pub work : (t : ℕ) (op : Op) (d : List Looks) → w.holder ≡ Some t → op_at script t (thread_at (machine_of w) t).next ≡ Some op
      → IsAtWork script (machine_of w) t op (slice_index_or w.lists.items t d) w.work (thread_at (machine_of w) t).state

-- there is room for the journals of the slices
abbrev pub CanClose : World → Type 0
CanClose w = (w.closing.items ≡ []) × (length w.slices.items ≤ vec_capacity w.closing)
