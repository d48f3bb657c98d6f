use Rattle.check_parts.proofs.KeptParts.{KeepsToo-kept, OnOk-map}
use Rattle.journal_text.specs.States.{with_entry}
use Rattle.check_parts.proofs.expected_journals.keep_entry.Goals as goal

pub returns-in-Some : goal.returns-in-Some
returns-in-Some c =
    OnOk-map c.add_entry.result
    (λ step. KeepsToo-kept c.args.script.now c.args.left.now c.in-Some.journals c.add_entry.new.self (λ parts. with_entry parts c.args.entry) c.in-Some.is step)
    c.add_entry.ensures
