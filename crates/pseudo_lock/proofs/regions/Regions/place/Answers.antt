use Rattle.std.proofs.Common.{◌<◌}
use Rattle.pseudo_lock.proofs.Placing.{IsLawful-with_region}
use Rattle.pseudo_lock.proofs.regions.Regions.place.Goals as goal

pub invariant_of-self : goal.invariant_of-self
invariant_of-self c =
    let limit : c.self.inside.placed < 4000000 = rw (← c.self.view_is) at c.requires.limit in
    rw c.first_line_of.ensures (IsLawful-with_region (record { places = c.self.inside.places; placed = c.self.inside.placed }) c.args.gid c.args.domain c.args.mask c.self.invariant c.requires.exists limit)
