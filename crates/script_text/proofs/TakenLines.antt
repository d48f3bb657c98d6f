-- Lines that are taken from the front of a text.
use Rattle.std.proofs.Common.{◌≡◌, ℕ, List, Bor, Option, Some, None, Result, Ok, Err, sym, subst, ◌∙◌}
use Rattle.script_lines.specs.declared.fault.LineError.{LineError}
use Rattle.script_lines.specs.declared.fault.LineFault.{LineFault}
use Rattle.script_text.specs.declared.kind.LinePosition.TheVariants.{Thread}
use Rattle.script_text.specs.Meaning.{Fails}
use Rattle.script_text.specs.States.{ReaderState}
use Rattle.script_text.specs.Usual.{BeginsWithAccess, use_by, access_means, TakesLine, TakesUsual}
use Rattle.script_text.proofs.AccessLines.{FirstAccess-begins}

-- an access line in its usual form
pub TakesLine-usual : (r : Result (Option (Bor (List ℕ))) LineError) (before after : ReaderState) (text : List ℕ) (task cpu addr : ℕ) (rest : List ℕ) → before.place ≡ Thread → BeginsWithAccess text task cpu addr rest → TakesUsual r after rest (access_means before (use_by before.machine task cpu addr)) → TakesLine r before after text
TakesLine-usual (Ok None) before after text task cpu addr rest thread begins h = absurd h
TakesLine-usual (Ok (Some left)) before after text task cpu addr rest thread begins h =
    let line = FirstAccess-begins text task cpu addr rest begins in
    rw h.0 (line.line, line.first, line.shorter, line.meaning before thread ∙ h.1)
TakesLine-usual (Err e) before after text task cpu addr rest thread begins h =
    let line = FirstAccess-begins text task cpu addr rest begins in
    (line.line, rest, line.first, subst (λ (m : Result ReaderState LineFault). Fails e m) (sym (line.meaning before thread)) h)
