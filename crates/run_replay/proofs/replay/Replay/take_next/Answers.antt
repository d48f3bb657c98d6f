use Rattle.std.proofs.Common.{◌+◌, ap, sym, ◌∙◌, arith}
use Rattle.run_law.specs.Entries.{entry_value}
use Rattle.run_law.specs.Journals.{At}
use Rattle.run_law.specs.TreeHistory.{state_after}
use Rattle.run_replay.proofs.Entries.{IsAnswered-next, IsCounted-answered}
use Rattle.run_replay.proofs.laws.Playbacks.{At-entries, length-entries}
use Rattle.run_replay.proofs.laws.Steps.{state_before-suc}
use Rattle.run_replay.specs.Playbacks.{state_before}
use Rattle.script_ops.specs.Values.{op_at}
use Rattle.run_replay.proofs.replay.Replay.take_next.Goals as goal

pub take-requires-clause-counted : goal.take-requires-clause-counted
take-requires-clause-counted c =
    let script = c.args.script.now in
    let tree = c.args.journals.now.tree in
    let es = c.tree-tree.result.now in
    let e = c.index-tree-position.result in
    let k = c.args.position in
    let within = c.requires.within in
    let there : At tree k (entry_value e) = At-entries es tree c.tree-tree.ensures k e (let len = length-entries es tree c.tree-tree.ensures in omega (arith, within, len)) c.index-tree-position.is in
    IsCounted-answered script c.args.self.now.state (entry_value e) (IsAnswered-next script tree c.args.self.now k (entry_value e) c.requires.taken c.requires.next there)

pub returns-clause-taken : goal.returns-clause-taken
returns-clause-taken c =
    let script = c.args.script.now in
    let tree = c.args.journals.now.tree in
    let es = c.tree-tree.result.now in
    let e = c.index-tree-position.result in
    let k = c.args.position in
    let within = c.requires.within in
    let before = c.requires.taken in
    let told = c.take.ensures in
    let there : At tree k (entry_value e) = At-entries es tree c.tree-tree.ensures k e (let len = length-entries es tree c.tree-tree.ensures in omega (arith, within, len)) c.index-tree-position.is in
    record {
      legal = before.legal;
      few = before.few;
      counts = before.counts;
      replay = told.replay;
      state =
          told.state
          ∙ (ap (λ s. state_after script.machine s e.looks.numbers (op_at script e.thread e.op)) (before.state ∙ ap (state_before script tree) c.requires.next)
          ∙ (sym (state_before-suc script tree k (entry_value e) there) ∙ sym (ap (state_before script tree) (told.epoch ∙ ap (λ n. n + 1) c.requires.next))));
    }
