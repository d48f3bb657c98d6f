-- Accesses that read their tag and go to their slice in one go, while nobody holds the tree.
-- (For functions and proofs: no promise of the program stands on it.)
use Rattle.std.specs.Prelude.{◌≡◌, ℕ, ◌+◌, None, replicate}
use Rattle.machine.specs.Maps.{domain_of}
use Rattle.rc_base.specs.declared.names.Tag.{Tag}
use Rattle.script_ops.specs.Values.{ScriptValue}
use Rattle.script_ops.specs.declared.op.Op.TheVariants as ops
use Rattle.step_world.specs.Answers.{HasNext}
use Rattle.step_world.specs.Machine.{MachineValue, thread_at}
use Rattle.step_world.specs.Play.{StepsOf}
use Rattle.step_world.specs.Worlds.{machine_of}
use Rattle.step_world.specs.declared.thread_state.ThreadState.TheVariants.{Ready}
use Rattle.step_world.specs.declared.world.World.{World}
use Rattle.tree_law.specs.Resolving.{resolve}

-- what the tree of a world answers an access of a task on a CPU
pub record IsResolved (w : World) (task cpu : ℕ) (tag : Tag) : Type 0 where
  pub epoch : tag.epoch ≡ w.tree.epoch
  pub owner : tag.owner ≡ (resolve w.tree.machine w.tree.state task cpu).owner
  pub class : tag.class ≡ (resolve w.tree.machine w.tree.state task cpu).class
  pub rmid : tag.rmid ≡ (resolve w.tree.machine w.tree.state task cpu).rmid
  pub mask : tag.mask ≡ (resolve w.tree.machine w.tree.state task cpu).mask
  pub domain : tag.domain ≡ domain_of w.tree.machine cpu

-- the thread is before an access of this address, nobody holds the tree, and this is the tag that the access reads
pub record CanPass (script : ScriptValue) (w : World) (t n addr : ℕ) (tag : Tag) : Type 0 where
  pub task : ℕ
  pub cpu : ℕ
  pub next : HasNext script (machine_of w) t (ops.Access task cpu addr)
  pub number : n ≡ (thread_at (machine_of w) t).next
  pub place : (thread_at (machine_of w) t).state ≡ Ready
  pub free : w.holder ≡ None
  pub reads : IsResolved w task cpu tag

-- access n of the thread is done, in two steps, and the tree is as it was
pub record HasPassed (script : ScriptValue) (t n : ℕ) (old new : World) : Type 0 where
  pub steps : StepsOf script (replicate 2 t) (machine_of old) (machine_of new)
  pub there : thread_at (machine_of new) t ≡ (record { next = n + 1; state = Ready })
  pub tree : new.tree ≡ old.tree
  pub holder : new.holder ≡ old.holder
  pub phase : new.phase ≡ old.phase

-- the thread is before an access of this task on this CPU, and nobody holds the tree
pub record IsBefore (script : ScriptValue) (t task cpu : ℕ) (s : MachineValue) : Type 0 where
  pub addr : ℕ
  pub next : HasNext script s t (ops.Access task cpu addr)
  pub place : (thread_at s t).state ≡ Ready
  pub free : s.holder ≡ None
