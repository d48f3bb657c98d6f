-- Soundness of the state, apart from the last status.
use Rattle.machine.specs.declared.parameters.Parameters.{Parameters}
use Rattle.rc_base.specs.declared.replies.Reply.{Reply}
use Rattle.tree_law.specs.Sound.{IsSound}
use Rattle.tree_law.specs.State.{State}

-- the last status says nothing of soundness
pub IsSound-from_status : (m : Parameters) (s : State) (reply : Reply) → IsSound m (record s { status = reply }) → IsSound m s
IsSound-from_status m s reply sound = record { named = sound.named; numbered = sound.numbered; masks = sound.masks; regions = sound.regions; lines = sound.lines; threshold = sound.threshold; tasks = sound.tasks; cpus = sound.cpus }
