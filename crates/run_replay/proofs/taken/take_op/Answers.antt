use Rattle.run_replay.proofs.Replays.{Fits-replay, IsReplay-next}
use Rattle.run_replay.proofs.taken.take_op.Goals as goal

pub take-requires-clause-fits : goal.take-requires-clause-fits
take-requires-clause-fits c = Fits-replay c.args.script.now c.args.replay.now c.args.op.now c.requires.replay c.requires.op.fit

pub returns-clause-replay : goal.returns-clause-replay
returns-clause-replay c =
    let did = c.take.ensures in
    IsReplay-next c.args.script.now c.args.replay.now c.take.new.self c.args.op.now c.items.result.now c.requires.replay c.requires.op.named c.requires.op.short did.machine did.state
