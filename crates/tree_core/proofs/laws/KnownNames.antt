-- The names of groups are known and short ones, and stay so after a command whose names are known and short.
use Rattle.std.proofs.Common.{ℕ, zero, suc, List, length, Option, Some, None, arith}
use Rattle.machine.specs.declared.parameters.Parameters.{Parameters}
use Rattle.path_names.specs.NamesIn.{AreKnown}
use Rattle.script_ops.specs.Canonical.{IsShort, op_ids}
use Rattle.script_ops.specs.declared.op.Op.{Op}
use Rattle.tree_core.specs.Named.{AreNamed}
use Rattle.tree_core.proofs.laws.NamedCommands.{AreNamed-accepted, AreNamed-left, AreNamed-with_status}
use Rattle.tree_law.specs.Refusals.{Refusal, reply_of}
use Rattle.tree_law.specs.State.{State, opening}
use Rattle.tree_law.specs.Steps.{next, next_if, refusal}

-- the default group has no name
pub named_opening : (names : List (List ℕ)) (m : Parameters) (tasks : List ℕ) → AreNamed names (opening m tasks).groups
named_opening names m tasks zero d within = tt
named_opening names m tasks (suc k) d within = absurd (omega (arith, within))

-- after a command
pub named_next : (names : List (List ℕ)) (m : Parameters) (s : State) (op : Op) (looks : List ℕ) → AreKnown (length names) (op_ids op) → IsShort names op → AreNamed names s.groups → AreNamed names (next m s op looks).state.groups
unfolding next
named_next names m s op looks known short named = AreNamed-with_status names (next_if m s op looks (refusal m s op)) op (reply_of (refusal m s op)) (at (refusal m s op))
  where
    at : (against : Option Refusal) → AreNamed names (next_if m s op looks against).groups
    at None = AreNamed-accepted names m s op looks known short named
    at (Some r) = AreNamed-left names s op named
