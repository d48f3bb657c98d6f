use Rattle.cache_core.specs.Flat.{Flat}
use Rattle.cache_core.proofs.FlatViews.{length-set_in_flat}
use Rattle.cache_core.proofs.sets.Sets.ways.Goals as goal

pub returns-clause-limit : goal.returns-clause-limit
returns-clause-limit c = c.self.invariant.limit

pub returns-clause-widths : goal.returns-clause-widths
returns-clause-widths c set within =
    let i = c.self.inside in
    let f : Flat = record { ways = i.ways; valid = i.valid.items; lines = i.lines; used = i.used.items; rmids = i.rmids.items } in
    length-set_in_flat f c.args.self.now set c.self.view_is within
