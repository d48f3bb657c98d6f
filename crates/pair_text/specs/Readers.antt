-- What the functions of a reader promise.
-- (For functions and proofs: no promise of the program stands on it.)
use Rattle.std.specs.Prelude.{◌≡◌, ◌≤◌, Result, Ok, Err}
use Rattle.pair_text.specs.PairKeys.{machines_seen}
use Rattle.pair_text.specs.PairLines.{PairState}
use Rattle.pair_text.specs.declared.fault.PairFault.{PairFault}
use Rattle.pair_text.specs.declared.limits.TheConstants.{MOST_COMMANDS, MOST_USES}
use Rattle.pair_text.specs.declared.reader.PairReader.{PairReader}
use Rattle.pair_text.specs.declared.stop.Stop.{Stop}
use Rattle.pair_text.specs.declared.stop.Stop.TheVariants as stops
use Rattle.script_lines.specs.Tasks.{RiseFrom}

-- the state of a reader
abbrev pub state_of : PairReader → PairState
state_of r = record { place = r.place; machines = machines_seen r.machine r.l2; tasks = r.tasks.items; ops = r.ops.items; commands = r.commands; uses = r.uses }

-- what the lines so far keep to
pub record IsSound (s : PairState) : Type 0 where
  pub tasks : RiseFrom 0 s.tasks
  pub commands : s.commands ≤ MOST_COMMANDS
  pub uses : s.uses ≤ MOST_USES

-- An error is this fault, or out of memory.
abbrev pub Fails : {A : Type 0} → Stop → Result A PairFault → Type 0
Fails stops.NoMemory meaning = Unit {0}
Fails (stops.Fault f) meaning = meaning ≡ Err f

-- After a function the state is this meaning, or memory ran out.
abbrev pub Means : Result (Unit {0}) Stop → PairState → Result PairState PairFault → Type 0
Means (Ok u) after meaning = meaning ≡ Ok after
Means (Err e) after meaning = Fails e meaning

-- A function returned this, or memory ran out.
abbrev pub Gives : {A : Type 0} → Result A Stop → Result A PairFault → Type 0
Gives (Ok a) meaning = meaning ≡ Ok a
Gives (Err e) meaning = Fails e meaning
