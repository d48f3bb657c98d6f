-- The tag that a thread was given last, which may be given again while the tree takes no command.
-- (For functions and proofs: no promise of the program stands on it.)
use Rattle.std.specs.Prelude.{◌≡◌, ℕ, ◌<◌, ◌≤◌, ◌^◌, length, Option, None, Some}
use Rattle.live_law.specs.Stages.{HoldsTag}
use Rattle.live_run.specs.Names.{SeenValue, seen_by}
use Rattle.schedule_law.specs.declared.part.GivenTag.{GivenTag}
use Rattle.rc_base.specs.declared.names.Tag.{Tag}
use Rattle.live_run.specs.Sharing.{given_in}
use Rattle.run_law.specs.Growth.{tag_of}
use Rattle.run_law.specs.Quotas.{command_count}
use Rattle.schedule_law.specs.declared.part.Part.{Part}
use Rattle.shared_parts.specs.Shares.{ShareValue}
use Rattle.script_ops.specs.Values.{ScriptValue}
use Rattle.tree_core.specs.Values.{TreeValue}

-- the tag that a tree gives to a task on a CPU
pub record IsGiven (t : TreeValue) (task cpu : ℕ) (tag : Tag) : Type 0 where
  pub is : tag ≡ tag_of t.machine t.state t.epoch task cpu
  pub rmid : tag.rmid < t.machine.rmids
  pub mask : (0 < tag.mask) × (tag.mask < 2 ^ t.machine.ways)

-- It is the tag of its task and CPU in the tree of its epoch, and the thread has seen what all commands before had made.
pub record IsCached (script : ScriptValue) (s : SeenValue) (k : GivenTag) : Type 0 where
  pub holds : HoldsTag script (seen_by s) k.task k.cpu k.tag
  pub rmid : k.tag.rmid < script.machine.rmids
  pub mask : (0 < k.tag.mask) × (k.tag.mask < 2 ^ script.machine.ways)
  pub most : k.tag.epoch ≤ command_count script

-- so is what a thread knows, if it knows one
abbrev pub HoldsCached : ScriptValue → SeenValue → Option GivenTag → Type 0
HoldsCached script s None = Unit {0}
HoldsCached script s (Some k) = IsCached script s k

-- the machine of steps knows that it was given to the thread
abbrev pub IsNoted : ShareValue Part → Option GivenTag → Type 0
IsNoted worker None = Unit {0}
IsNoted worker (Some k) = given_in worker.parts ≡ Some k

-- What a thread knows of a tag that it recalls: all that an access owes to its tag.
pub record IsRecalled (script : ScriptValue) (s : SeenValue) (task cpu : ℕ) (tag : Tag) : Type 0 where
  pub holds : HoldsTag script (seen_by s) task cpu tag
  pub fresh : length s.tree.seen ≤ tag.epoch
  pub most : tag.epoch ≤ command_count script
  pub known : tag.rmid < script.machine.rmids
  pub valid : (0 < tag.mask) × (tag.mask < 2 ^ script.machine.ways)
