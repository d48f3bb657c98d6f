-- What is made of an input that is a script, and of one that is none.
use Rattle.std.proofs.Common.{ℕ, ◌≤◌, List, length, inr}
use Rattle.call_rim.specs.Performing.{Performs}
use Rattle.call_rim.specs.declared.performed.Performed.{Performed}
use Rattle.call_rim.specs.declared.performed.Performed.TheVariants.{Refused, Reported, NoMemory}
use Rattle.resctrl_top.specs.Endings.{IsPlayed}
use Rattle.resctrl_top.specs.Performances.{Plays, RefusesBytes}
use Rattle.call_rim.specs.Within.{RefusesWithin, ReportsWithin}
use Rattle.script_ops.specs.declared.limits.TheConstants.{MOST_SCRIPT_BYTES}
use Rattle.run_law.specs.Journals.{JournalsValue}
use Rattle.top_parts.specs.declared.form.Form.{Form}

-- the report of a run, as what is made of its bytes
pub Performs-played : (form : Form) (bytes : List ℕ) (made : Performed JournalsValue) → Plays form bytes made → Performs RefusesBytes (IsPlayed form) bytes made
Performs-played form bytes (Refused line) plays = absurd plays
Performs-played form bytes (Reported run report) plays = plays
Performs-played form bytes NoMemory plays = tt

-- and of bytes that are not too many
pub Performs-within : (form : Form) (bytes : List ℕ) (made : Performed JournalsValue) → length bytes ≤ MOST_SCRIPT_BYTES → Performs RefusesBytes (IsPlayed form) bytes made
    → Performs (RefusesWithin MOST_SCRIPT_BYTES RefusesBytes) (ReportsWithin MOST_SCRIPT_BYTES (IsPlayed form)) bytes made
Performs-within form bytes (Refused line) few performs = inr (few, performs)
Performs-within form bytes (Reported run report) few performs = (few, performs)
Performs-within form bytes NoMemory few performs = tt
