use Rattle.std.proofs.Common.{◌++◌, List, ℕ, map, ap, ◌∙◌}
use Rattle.std.proofs.lemmas.List.{take_all}
use Rattle.journal_text.specs.Lines.{command_line, text_of}
use Rattle.journal_text.proofs.Pushes.{map-seen, text_of-none, text_of-take_suc}
use Rattle.run_law.specs.Entries.{entry_value}
use Rattle.run_law.specs.declared.journals.TreeEntry.{TreeEntry}
use Rattle.journal_text.proofs.printing.push_commands.Goals as goal

pub loop-entry-init : goal.loop-entry-init
loop-entry-init c = text_of-none c.args.text.now

pub loop-entry-preserved : goal.loop-entry-preserved
loop-entry-preserved c =
    text_of-take_suc (λ (e : TreeEntry). command_line (entry_value e)) c.args.tree.now c.args.text.now c.loop-entry.text c.push_command.new.text c.loop-entry.entry-index c.entry-item.result c.entry-item.result c.loop-entry-test.true c.entry-item.is c.loop-entry.invariant c.in_ok-push_command.ensures

pub returns : goal.returns
returns c =
    let tree = c.args.tree.now in
    let end = c.loop-entry-test.false in
    c.loop-entry.invariant ∙ ap (λ (es : List TreeEntry). c.args.text.now ++ text_of (map (λ (e : TreeEntry). command_line (entry_value e)) es)) (take_all c.loop-entry.entry-index tree end)
    ∙ ap (λ (lines : List (List ℕ)). c.args.text.now ++ text_of lines) (map-seen command_line entry_value tree)
