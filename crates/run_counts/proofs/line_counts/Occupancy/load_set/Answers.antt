use Rattle.std.proofs.Common.{◌≡◌, ◌+◌, ◌∙◌, sym, subst, ap, arith, length}
use Rattle.machine.specs.Maps.{parameters_of}
use Rattle.run_counts.proofs.LoadedPlaces.{AddsPlaces-all_ways, AddsPlaces-other_way, AddsPlaces-no_way, AddsPlaces-way, is_loaded_way}
use Rattle.run_counts.proofs.Occupancies.{IsAtMost-le, IsAtMost-one}
use Rattle.run_counts.specs.Occupancies.{AddsPlaces, IsAtMost, OccupancyValue}
use Rattle.run_law.specs.Slices.{shape_in}
use Rattle.run_counts.proofs.line_counts.Occupancy.load_set.Goals as goal
use Rattle.run_counts.proofs.line_counts.Occupancy.load_set.Goals.{then-has_way, else-has_way}

pub put-requires-clause-few : goal.put-requires-clause-few
put-requires-clause-few c =
    IsAtMost-le (4611686018427387872 + c.loop-way.way) 4611686018427387904 c.loop-way.self (let few = c.args.machine.now.in_range.way_limit in omega (arith, few)) (c.loop-way.invariant.few 4611686018427387872 c.requires.few)

pub loop-way-init : goal.loop-way-init
loop-way-init c = record {
  sets = omega arith;
  few = λ most few. IsAtMost-le most (most + 0) c.args.self.now (omega arith) few;
  adds = AddsPlaces-no_way (shape_in (parameters_of c.args.machine.now) c.args.i) c.args.self.now c.args.set c.args.mask;
}

pub loop-way-preserved : goal.loop-way-preserved
loop-way-preserved c =
    let m = shape_in (parameters_of c.args.machine.now) c.args.i in
    let before = c.loop-way.invariant in
    record {
      sets = elim c.if-has_way.branch [
        | then-has_way w ↦ ap (λ (now : OccupancyValue). length now.seen) w.self-is ∙ (w.put.ensures.sets ∙ before.sets)
        | else-has_way w ↦ ap (λ (now : OccupancyValue). length now.seen) w.self-is ∙ before.sets
      ];
      few = λ most few. elim c.if-has_way.branch [
        | then-has_way w ↦
            subst (λ (now : OccupancyValue). IsAtMost (most + (c.loop-way.way + 1)) now) (sym w.self-is)
            (IsAtMost-le ((most + c.loop-way.way) + 1) (most + (c.loop-way.way + 1)) w.put.new.self (omega arith) (IsAtMost-one (most + c.loop-way.way) c.loop-way.self w.put.new.self c.args.set c.loop-way.way 0 w.put.ensures (before.few most few)))
        | else-has_way w ↦
            subst (λ (now : OccupancyValue). IsAtMost (most + (c.loop-way.way + 1)) now) (sym w.self-is)
            (IsAtMost-le (most + c.loop-way.way) (most + (c.loop-way.way + 1)) c.loop-way.self (omega arith) (before.few most few))
      ];
      adds = elim c.if-has_way.branch [
        | then-has_way w ↦
            subst (λ (now : OccupancyValue). AddsPlaces m c.args.self.now now 0 (is_loaded_way c.args.set c.args.mask (c.loop-way.way + 1))) (sym w.self-is)
            (AddsPlaces-way m c.args.self.now c.loop-way.self w.put.new.self c.args.set c.args.mask c.loop-way.way c.args.machine.now.in_range.way_limit c.requires.own c.loop-way-test.true (sym c.has_way.ensures ∙ w.if-has_way.true) before.adds w.put.ensures)
        | else-has_way w ↦
            subst (λ (now : OccupancyValue). AddsPlaces m c.args.self.now now 0 (is_loaded_way c.args.set c.args.mask (c.loop-way.way + 1))) (sym w.self-is)
            (AddsPlaces-other_way m c.args.self.now c.loop-way.self c.args.set c.args.mask c.loop-way.way (sym c.has_way.ensures ∙ w.if-has_way.false) before.adds)
      ];
    }

pub returns-clause-few : goal.returns-clause-few
returns-clause-few c = λ most few. IsAtMost-le (most + c.loop-way.way) (most + 32) c.loop-way.self (let limit = c.args.machine.now.in_range.way_limit in let end = c.loop-way.auto.way-end in omega (arith, limit, end)) (c.loop-way.invariant.few most few)

pub returns-clause-adds : goal.returns-clause-adds
returns-clause-adds c =
    let m = shape_in (parameters_of c.args.machine.now) c.args.i in
    let end : c.loop-way.way ≡ c.args.machine.now.ways = omega arith in
    AddsPlaces-all_ways m c.args.self.now c.loop-way.self c.args.set c.args.mask
    (subst (λ k. AddsPlaces m c.args.self.now c.loop-way.self 0 (is_loaded_way c.args.set c.args.mask k)) end c.loop-way.invariant.adds)
