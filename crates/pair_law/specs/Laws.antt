-- Laws of the states.
-- (For functions and proofs: no promise of the program stands on it.)
use Rattle.std.specs.Prelude.{◌≡◌, ℕ, List, Some}
use Rattle.std.specs.List.Sorted.{IsStrictlyIncreasing}
use Rattle.pair_law.specs.Epochs.{state_at}
use Rattle.pair_law.specs.Registers.{class_of, mask_of_group, register, register_of}
use Rattle.pair_law.specs.Sound.{IsGroup, IsSound}
use Rattle.pair_law.specs.State.{PairState, opening}
use Rattle.pair_law.specs.Steps.{next}
use Rattle.pair_text.specs.Values.{AreMachines, IsLawful, Machines, PairScriptValue}
use Rattle.pair_text.specs.declared.op.PairOp.{PairOp}
use Rattle.pair_text.specs.declared.side.Side.{Side}
use Rattle.rc_base.specs.declared.names.Gid.{Gid}

-- the opening state is sound
abbrev pub OpeningIsSound : Type 0
OpeningIsSound = (m : Machines) (tasks : List ℕ) → AreMachines m → IsStrictlyIncreasing tasks → IsSound m (opening m tasks)

-- each command leaves a sound state, from any sound state
abbrev pub NextIsSound : Type 0
NextIsSound = (m : Machines) (s : PairState) (op : PairOp) → AreMachines m → IsSound m s → IsSound m (next m s op).state

-- the state of every epoch is sound
abbrev pub EpochsAreSound : Type 0
EpochsAreSound = (script : PairScriptValue) (epoch : ℕ) → IsLawful script → IsSound script.machines (state_at script epoch)

-- the register of a group's class and of a side holds the group's mask
abbrev pub RegistersAgree : Type 0
RegistersAgree = (m : Machines) (s : PairState) (gid : Gid) (domain : ℕ) (side : Side) → IsSound m s → IsGroup s.groups gid → register s domain (register_of (class_of s gid) side) ≡ Some (mask_of_group s side domain gid)
