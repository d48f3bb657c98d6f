use Rattle.std.proofs.Common.{◌≡◌, ℕ, ◌<◌, length, subst, arith}
use Rattle.std.proofs.lemmas.List.{get_or_default}
use Rattle.live_run.proofs.MetThreads.{HasMet, HasMetEach-next}
use Rattle.live_run.proofs.live.Live.hand_each.Goals as goal
use Rattle.live_run.specs.Names.{PassesValue}
use Rattle.live_run.specs.Phases.{HasMetEach, no_passes, passes_at}

pub loop-k-preserved : goal.loop-k-preserved
loop-k-preserved g c =
    let script = g.N.RunNames.script in
    let k : ℕ = c.loop-k.k in
    let within : k < length c.loop-k.others = omega (arith, c.loop-k-test.true, c.loop-k.auto.others) in
    let met : HasMet script c.loop-k.one c.hand_on.new.earlier (passes_at c.loop-k.others k) c.hand_on.new.later = subst (λ (p : PassesValue). HasMet script c.loop-k.one c.hand_on.new.earlier p c.hand_on.new.later) (get_or_default c.loop-k.others k c.index-others-k.result no_passes within) (record {
      one_is = record { taken = c.hand_on.ensures.earlier; next = (c.hand_on.ensures.next).0 };
      other_is = record { taken = c.hand_on.ensures.later; next = (c.hand_on.ensures.next).1 };
      same = c.hand_on.ensures.same;
      ended = c.hand_on.ensures.ended;
      other_ended = c.hand_on.ensures.later_ended;
    }) in
    HasMetEach-next script k c.args.one.now c.loop-k.one c.hand_on.new.earlier c.args.others.now c.loop-k.others c.loop-k-test.true c.loop-k.invariant c.hand_on.new.later met

pub returns : goal.returns
returns g c =
    let all : c.loop-k.k ≡ length c.args.others.now = omega (arith, c.loop-k-test.false, c.loop-k.auto.k-end) in
    subst (λ k. HasMetEach g.N.RunNames.script k c.args.one.now c.loop-k.one c.args.others.now c.loop-k.others) all c.loop-k.invariant
