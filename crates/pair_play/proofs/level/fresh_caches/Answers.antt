use Rattle.std.proofs.Common.{◌+◌, sym, subst}
use Rattle.machine.specs.Maps.{parameters_of}
use Rattle.pair_play.proofs.Opened.{AreFresh-push}
use Rattle.pair_play.proofs.level.fresh_caches.Goals as goal
use Rattle.pair_play.specs.Histories.{AreFresh}

pub loop-domain-preserved : goal.loop-domain-preserved
loop-domain-preserved c =
    subst (AreFresh (parameters_of c.args.m.now) (c.loop-domain.domain + 1)) (sym c.in_ok-push.ensures.items)
    (AreFresh-push (parameters_of c.args.m.now) c.loop-domain.domain c.loop-domain.caches.items c.in_ok-create.field-0 c.loop-domain.invariant c.in_ok-create.ensures.shape c.in_ok-create.ensures.empty)
