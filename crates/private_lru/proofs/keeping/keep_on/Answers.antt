use Rattle.std.proofs.Common.{◌<◌, length, set, ap, ◌∙◌, arith}
use Rattle.std.proofs.lemmas.List.Edits.{map_over_more}
use Rattle.private_lru.specs.Keeping.{span_on}
use Rattle.private_lru.proofs.keeping.keep_on.Goals as goal

pub loop-i-preserved : goal.loop-i-preserved
loop-i-preserved g c =
    let f = span_on (g.S.HoldsAt.holds c.args.state.now) c.args.epoch in
    let test = c.loop-i-test.true in
    let count = c.len-i-end.ensures in
    let lt : c.loop-i.i < length c.args.spans.now.items = omega (arith, test, count) in
    ap (set c.loop-i.spans.items c.loop-i.i) c.kept_on.ensures
    ∙ map_over_more f c.args.spans.now.items c.loop-i.spans.items c.loop-i.i c.index.result.now lt c.loop-i.invariant c.index.ensures
