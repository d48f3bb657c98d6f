use Rattle.pseudo_lock.proofs.Placing.{IsLawful-without_group}
use Rattle.pseudo_lock.proofs.regions.Regions.remove.Goals as goal

pub invariant_of-self : goal.invariant_of-self
invariant_of-self c = rw c.clear.ensures (IsLawful-without_group (record { places = c.self.inside.places; placed = c.self.inside.placed }) c.args.gid c.self.invariant)
