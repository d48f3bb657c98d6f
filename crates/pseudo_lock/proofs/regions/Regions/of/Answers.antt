use Rattle.std.proofs.Common.{◌≡◌, ◌<◌, ◌^◌, Option, Some, None, get_or, refl, IfSome}
use Rattle.pseudo_lock.specs.declared.region.Region.{Region}
use Rattle.pseudo_lock.proofs.Placing.{first_line-low}
use Rattle.pseudo_lock.proofs.regions.Regions.of.Goals as goal

pub returns-then-place-lt-DOMAINS-clause-low : goal.returns-then-place-lt-DOMAINS-clause-low
returns-then-place-lt-DOMAINS-clause-low c = each (get_or c.self.inside.places c.args.domain None) refl
  where
    each : (o : Option Region) → get_or c.self.inside.places c.args.domain None ≡ o → IfSome o (λ (r : Region). r.first_line < 2 ^ 60)
    each None e = tt
    each (Some r) e = first_line-low (record { places = c.self.inside.places; placed = c.self.inside.placed }) c.self.invariant c.args.domain r e
