use Rattle.std.proofs.Common.{ap, ap₂, sym, ◌∙◌, arith}
use Rattle.run_law.proofs.laws.RunSizes.{length-commands}
use Rattle.run_replay.proofs.Entries.{HasFewLooks-run}
use Rattle.run_replay.proofs.Replays.{IsReplay-opening}
use Rattle.run_replay.specs.Playbacks.{state_before}
use Rattle.tree_law.specs.State.{opening}
use Rattle.run_replay.proofs.replay.Replay.create.Goals as goal

pub returns : goal.returns
returns c =
    let script = c.args.script.now in
    let j = c.args.journals.now in
    let first = c.in_ok-tree.ensures in
    let epoch = first.epoch in
    let machine = first.machine ∙ c.machine.ensures in
    let state = first.state ∙ ap₂ opening c.machine.ensures c.tasks.ensures.tasks in
    record {
      taken = record {
        legal = c.requires.tree_legal;
        few = length-commands script j c.threads-threads.ensures.lawful c.requires;
        counts = HasFewLooks-run script j c.threads-threads.ensures.lawful.in_range c.requires;
        replay = IsReplay-opening script c.in_ok-tree.tree machine state;
        state = state ∙ sym (ap (state_before script j.tree) epoch);
      };
      before = omega (arith, epoch);
    }
