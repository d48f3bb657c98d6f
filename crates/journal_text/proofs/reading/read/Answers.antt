use Rattle.std.proofs.Common.{◌≡◌, sym, ap, subst, ◌∙◌}
use Rattle.journal_text.proofs.Progress.{Reads-error}
use Rattle.journal_text.specs.Kept.{parts_in}
use Rattle.journal_text.specs.Readings.{IsTextOf}
use Rattle.journal_text.specs.States.{PartsRead, journals_in}
use Rattle.journal_text.specs.declared.kept_journals.KeptJournals.{KeptJournals}
use Rattle.journal_text.proofs.reading.read.Goals as goal

pub returns-in-Ok : goal.returns-in-Ok
returns-in-Ok c =
    let found = c.in-Ok.ensures in
    subst (IsTextOf c.args.script.now c.args.text.now) (ap journals_in found.1 ∙ sym c.into_journals.ensures) found.2

pub returns-in-Err : goal.returns-in-Err
returns-in-Err c =
    let keeps : KeptJournals → PartsRead → Type 0 = λ kept parts. parts ≡ parts_in kept in
    Reads-error keeps c.args.script.now c.args.text.now c.in-Err.error c.in-Err.ensures
