use Rattle.std.proofs.Common.{refl}
use Rattle.check_parts.proofs.KeptParts.{KeepsExpected-part, OnOk-map}
use Rattle.journal_text.specs.States.{with_entry}
use Rattle.check_parts.proofs.expected_journals.ExpectedJournalsKeeper.add_entry.Goals as goal

pub returns : goal.returns
returns c =
    let old = c.args.self.now in
    OnOk-map c.keep_entry.result
    (λ too parts keeps. KeepsExpected-part c.args.script.now old (record old { left = c.keep_entry.new.left }) (λ p. with_entry p c.args.entry) parts refl refl too keeps)
    c.keep_entry.ensures
