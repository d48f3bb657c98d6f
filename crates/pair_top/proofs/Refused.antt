-- Inputs that are refused for a line.
use Rattle.std.proofs.Common.{◌≡◌, ℕ, List, Err}
use Rattle.call_rim.specs.Performing.{Performs}
use Rattle.call_rim.specs.declared.performed.Performed.{Performed}
use Rattle.call_rim.specs.declared.performed.Performed.TheVariants.{NoMemory, Refused, Reported}
use Rattle.pair_text.specs.PairReading.{PairFaultAt, pair_script_of}
use Rattle.pair_text.specs.declared.kind.PairKind.{PairKind}
use Rattle.pair_top.specs.Ready.{TellsLine}
use Rattle.pair_top.specs.Refusals.{RefusesLine, refusal_line}

-- bytes that are no script are refused with the line that tells the fault
pub Performs-refused : {T : Type 0} (kind : PairKind) (reports : List ℕ → T → List ℕ → Type 0) (bytes : List ℕ) (fault : PairFaultAt) (r : Performed T) → pair_script_of kind bytes ≡ Err fault → TellsLine (refusal_line fault) r
    → Performs (RefusesLine kind) reports bytes r
Performs-refused kind reports bytes fault (Refused line) bad tells = record { fault = fault; no_script = bad; told = tells }
Performs-refused kind reports bytes fault (Reported outcome report) bad tells = absurd tells
Performs-refused kind reports bytes fault NoMemory bad tells = tt
