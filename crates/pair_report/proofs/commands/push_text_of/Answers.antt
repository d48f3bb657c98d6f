use Rattle.std.proofs.Common.{◌++◌, ap, ap₂, ◌∙◌, arith}
use Rattle.pair_law.specs.Epochs.{state_at}
use Rattle.pair_law.specs.State.{PairState}
use Rattle.pair_text.specs.Values.{Machines, epoch_at}
use Rattle.pair_tree.specs.Reads.{text_read}
use Rattle.report_pieces.specs.Pieces.{barred}
use Rattle.pair_report.proofs.commands.push_text_of.Goals as goal

pub returns-clause-text : goal.returns-clause-text
returns-clause-text c =
    let script = c.args.script.now in
    let there = c.reach.ensures in
    let machines = ap (λ t. t.machines) c.tree.ensures ∙ there.taken.machines in
    let state = ap (λ t. t.state) c.tree.ensures ∙ (there.taken.state ∙ ap (state_at script) (there.taken.epoch ∙ ap (epoch_at script) there.place)) in
    c.in_ok-push_file_text.ensures.text ∙ ap₂ (λ (m : Machines) (s : PairState). c.args.report.now ++ barred (text_read m s c.args.command.now.op.now)) machines state

pub returns-clause-behind : goal.returns-clause-behind
returns-clause-behind c = let there = c.reach.ensures.place in record { taken = c.reach.ensures.taken; later = omega (arith, there) }
