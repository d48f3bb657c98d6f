use Rattle.live_run.proofs.MetThreads.{HaveHandedOn-first}
use Rattle.live_run.proofs.live.Live.hand_all.Goals as goal

pub returns : goal.returns
returns g c =
    let (one, others) = c.split_at_mut-one.result in
    HaveHandedOn-first g.N.RunNames.script one.now others.now c.hand_each.new.others c.args.later.now c.hand_each-2.new.others c.args.own.now c.index-one-0.result c.index-one-0-2.result c.hand_each.new.one c.hand_each-2.new.one
    c.split_at_mut-one.ensures.front_len c.split_at_mut-one.ensures.value c.hand_each.ensures c.hand_each-2.ensures
