use Rattle.check_parts.proofs.KeptParts.{KeepsCommand-kept, OnOk-map}
use Rattle.run_law.specs.Entries.{entry_value}
use Rattle.check_parts.proofs.expected_journals.keep_command.Goals as goal

pub returns-in-Some : goal.returns-in-Some
returns-in-Some c =
    OnOk-map c.add_command.result
    (λ step. KeepsCommand-kept c.args.script.now c.args.left.now c.in-Some.journals c.add_command.new.self (entry_value c.args.entry) c.in-Some.is step)
    c.add_command.ensures
