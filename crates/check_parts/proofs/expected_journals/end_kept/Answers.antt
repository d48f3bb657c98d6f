use Rattle.check_parts.proofs.KeptParts.{KeepsToo-kept, OnOk-map}
use Rattle.journal_text.specs.States.{with_slice}
use Rattle.check_parts.proofs.expected_journals.end_kept.Goals as goal

pub returns-in-Some : goal.returns-in-Some
returns-in-Some c =
    OnOk-map c.end_slice.result
    (λ step. KeepsToo-kept c.args.weighed.now.script.now c.args.left.now c.in-Some.journals c.end_slice.new.self with_slice c.in-Some.is step)
    c.end_slice.ensures
