use Rattle.std.proofs.Common.{refl}
use Rattle.check_parts.proofs.KeptParts.{KeepsExpected-part, OnOk-map}
use Rattle.journal_text.specs.States.{with_slice}
use Rattle.check_parts.proofs.expected_journals.ExpectedJournalsKeeper.end_slice.Goals as goal

pub returns : goal.returns
returns c =
    let old = c.args.self.now in
    OnOk-map c.end_kept.result
    (λ too parts keeps. KeepsExpected-part c.args.weighed.now.script.now old (record old { left = c.end_kept.new.left }) with_slice parts refl refl too keeps)
    c.end_kept.ensures
