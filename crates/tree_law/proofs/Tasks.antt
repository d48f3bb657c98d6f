-- A write of `tasks` and one of the threshold keep a sound tree.
use Rattle.std.proofs.Common.{◌≡◌, ℕ, ◌+◌, List, find, Option, Some, None, refl, arith}
use Rattle.group_tree.specs.Records.{has_gid}
use Rattle.group_tree.specs.declared.group.Group.{Group}
use Rattle.lists.proofs.Choices.{cond-case}
use Rattle.machine.specs.Maps.{cache_bytes}
use Rattle.machine.specs.declared.parameters.Parameters.{Parameters}
use Rattle.num_text.proofs.laws.Limits.{below-lt}
use Rattle.num_text.specs.Blanks.{trim}
use Rattle.num_text.specs.Numbers.{dec_of}
use Rattle.tree_law.proofs.Cpus.{MayTake-open}
use Rattle.tree_law.proofs.TaskMoves.{AreBound-moves}
use Rattle.tree_law.specs.Places.{controlling, is_closed}
use Rattle.tree_law.specs.Sound.{IsSound}
use Rattle.tree_law.specs.State.{State}
use Rattle.tree_law.specs.commands.Tasks as tasks
use Rattle.tree_law.specs.commands.Threshold as threshold

-- a write of tasks keeps a sound tree, also one that stops at a refused task
pub tasks-sound : (m : Parameters) (s : State) (g : Group) (text : List ℕ) → IsSound m s → find (has_gid g.gid) s.groups ≡ Some g → IsSound m (tasks.kept s g text)
unfolding tasks.kept
tasks-sound m s g text sound found = cond-case (IsSound m) (is_closed s (controlling g.gid g.kind)) s (record s { tasks = (tasks.moves_in s g text).tasks }) (λ is. sound) (λ is. record {
  named = sound.named;
  numbered = sound.numbered;
  masks = sound.masks;
  regions = sound.regions;
  lines = sound.lines;
  threshold = sound.threshold;
  tasks = AreBound-moves s.groups g.gid g.kind (tasks.elements text) s.tasks (MayTake-open s g found is) sound.tasks;
  cpus = sound.cpus;
})

-- a write of the threshold keeps a sound tree
pub threshold-sound : (m : Parameters) (s : State) (text : List ℕ) → IsSound m s → IsSound m (threshold.accepted m s text)
unfolding threshold.accepted threshold.threshold_in
threshold-sound m s text sound = at (threshold.threshold_in m text) refl
  where
    at : (o : Option ℕ) → threshold.threshold_in m text ≡ o → IsSound m (threshold.with_threshold s o)
    at None is = sound
    at (Some n) is = record {
      named = sound.named;
      numbered = sound.numbered;
      masks = sound.masks;
      regions = sound.regions;
      lines = sound.lines;
      threshold = (let less = below-lt (cache_bytes m + 1) (dec_of (trim text)) n is in omega arith);
      tasks = sound.tasks;
      cpus = sound.cpus;
    }
