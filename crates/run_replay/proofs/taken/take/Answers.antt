use Rattle.std.proofs.Common.{◌≡◌, ◌∙◌, Some, ap, length, sym}
use Rattle.run_replay.proofs.Entries.{IsCommandThat-some, is_some-command}
use Rattle.script_ops.specs.Values.{op_at}
use Rattle.script_ops.specs.declared.op.Op.{Op}
use Rattle.tree_law.specs.Steps.{needs}
use Rattle.run_replay.proofs.taken.take.Goals as goal

pub op_of-op-requires : goal.op_of-op-requires
op_of-op-requires c = is_some-command _ (op_at c.args.script.now c.args.entry.now.thread c.args.entry.now.op) c.requires.counted

pub take_op-requires-clause-looks : goal.take_op-requires-clause-looks
take_op-requires-clause-looks c =
    IsCommandThat-some (λ op. length c.args.entry.now.looks.numbers ≡ length (needs c.args.script.now.machine c.args.replay.now.state op)) (op_at c.args.script.now c.args.entry.now.thread c.args.entry.now.op) c.get.result.now c.requires.counted (c.op_of-op.ensures.there ∙ ap (λ (o : Op). Some o) (sym c.get.ensures))
