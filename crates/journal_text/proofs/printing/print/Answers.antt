use Rattle.std.proofs.Common.{◌≡◌, ◌++◌, List, ℕ, codes, ap, ◌∙◌}
use Rattle.journal_text.specs.Lines.{text_of, command_line}
use Rattle.std.specs.Prelude.{map}
use Rattle.machine.specs.Maps.{parameters_of}
use Rattle.run_law.specs.TreeHistory.{TreeEntryValue}
use Rattle.journal_text.proofs.Pushes.{journal_text-parts}
use Rattle.journal_text.proofs.printing.print.Goals as goal

pub returns : goal.returns
returns c =
    let one : c.push.new.self ≡ codes "journal 1\n" = c.in_ok-push.ensures ∙ ap (λ (t : List ℕ). t ++ codes "journal 1\n") c.in_ok-text.ensures in
    let two : c.push_commands.new.text ≡ c.push.new.self ++ text_of (map command_line c.args.journals.now.tree) = c.in_ok-push_commands.ensures ∙ ap (λ (es : List TreeEntryValue). c.push.new.self ++ text_of (map command_line es)) c.tree.ensures in
    c.into_bytes.ensures ∙ journal_text-parts (parameters_of c.args.machine.now) c.args.journals.now c.push.new.self c.push_commands.new.text c.push_slices.new.text c.push-2.new.self one two c.in_ok-push_slices.ensures c.in_ok-push-2.ensures
