-- Each command keeps a sound tree.
use Rattle.std.proofs.Common.{◌≡◌, ℕ, List, length, Option, None, Some, refl}
use Rattle.machine.specs.Ranges.{InRange}
use Rattle.machine.specs.declared.parameters.Parameters.{Parameters}
use Rattle.rc_base.specs.declared.replies.Reply.{Reply}
use Rattle.script_ops.specs.Fits.{Fits}
use Rattle.script_ops.specs.declared.op.Op.{Op}
use Rattle.tree_law.proofs.Mkdir.{mkdir-sound}
use Rattle.tree_law.proofs.Tick.{tick-sound}
use Rattle.tree_law.proofs.Writes.{refused-sound, write-sound}
use Rattle.tree_law.proofs.Rmdir.{rmdir-sound}
use Rattle.tree_law.specs.Refusals.{Refusal}
use Rattle.tree_law.specs.Sound.{IsSound}
use Rattle.tree_law.specs.State.{State, tasks_of}
use Rattle.tree_law.specs.Steps.{accepted, left, needs, next, next_if, refusal, with_status}
use Rattle.script_ops.specs.declared.op.Op.TheVariants as ops

-- the last status says nothing of soundness
pub status-sound : (m : Parameters) (s : State) (reply : Reply) → IsSound m s → IsSound m (record s { status = reply })
status-sound m s reply sound = record { named = sound.named; numbered = sound.numbered; masks = sound.masks; regions = sound.regions; lines = sound.lines; threshold = sound.threshold; tasks = sound.tasks; cpus = sound.cpus }

-- setting the last status keeps a sound tree
with_status-sound : (m : Parameters) (s : State) (op : Op) (reply : Reply) → IsSound m s → IsSound m (with_status op reply s)
with_status-sound m s (ops.Mkdir path) reply sound = status-sound m s reply sound
with_status-sound m s (ops.Write path text) reply sound = status-sound m s reply sound
with_status-sound m s op reply sound = sound

-- each accepted command keeps a sound tree
accepted-sound : (m : Parameters) (s : State) (op : Op) (looks : List ℕ) → InRange m → IsSound m s → refusal m s op ≡ None → IsSound m (accepted m s op looks)
unfolding refusal
accepted-sound m s (ops.Mkdir path) looks range sound none = mkdir-sound m s path range sound none
accepted-sound m s (ops.Rmdir path) looks range sound none = rmdir-sound m s path looks sound
accepted-sound m s (ops.Write path text) looks range sound none = write-sound m s path text looks range sound none
accepted-sound m s ops.Tick looks range sound none = tick-sound m s looks sound
accepted-sound m s op looks range sound none = sound

-- each refused command keeps a sound tree
left-sound : (m : Parameters) (s : State) (op : Op) → IsSound m s → IsSound m (left s op)
left-sound m s (ops.Write path text) sound = refused-sound m s path text sound
left-sound m s op sound = sound

-- each command keeps a sound tree
pub next-sound : (m : Parameters) (s : State) (op : Op) (looks : List ℕ) → InRange m → IsSound m s → Fits m (tasks_of s) op → length looks ≡ length (needs m s op) → IsSound m (next m s op looks).state
unfolding next
next-sound m s op looks range sound fits count = with_status-sound m (next_if m s op looks (refusal m s op)) op _ (at (refusal m s op) refl)
  where
    at : (o : Option Refusal) → refusal m s op ≡ o → IsSound m (next_if m s op looks o)
    at None is = accepted-sound m s op looks range sound is
    at (Some r) is = left-sound m s op sound
