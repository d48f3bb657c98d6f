use Rattle.std.proofs.Common.{ℕ, Option, None, sym, subst, refl}
use Rattle.cache_core.specs.History.{Shape, decides}
use Rattle.cache_core.specs.declared.entry.What.TheVariants.{Drop}
use Rattle.machine.specs.Maps.{parameters_of}
use Rattle.run_counts.proofs.Occupancies.{SkipsPlaces-none}
use Rattle.run_counts.specs.Occupancies.{SkipsPlaces}
use Rattle.run_law.specs.Slices.{shape_in}
use Rattle.run_counts.proofs.line_counts.Occupancy.empty_if_held.Goals as goal

pub returns-in-Some : goal.returns-in-Some
returns-in-Some c =
    let m : Shape = shape_in (parameters_of c.args.machine.now) c.args.i in
    subst (λ (o : Option ℕ). SkipsPlaces m c.args.self.now c.empty.new.self (λ s w. decides m s w (Drop c.args.line o))) (sym c.in-Some.is) c.empty.ensures

pub returns-in-None : goal.returns-in-None
returns-in-None c =
    let m : Shape = shape_in (parameters_of c.args.machine.now) c.args.i in
    subst (λ (o : Option ℕ). SkipsPlaces m c.args.self.now c.args.self.now (λ s w. decides m s w (Drop c.args.line o))) (sym c.in-None.is) (SkipsPlaces-none m c.args.self.now (λ s w. decides m s w (Drop c.args.line None)) (λ s w own there. refl))
