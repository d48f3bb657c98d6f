use Rattle.std.proofs.Common.{◌≡◌, ◌+◌, ◌*◌, ◌∙◌, sym, subst, ap, arith, length}
use Rattle.std.proofs.lemmas.Bool.{eqb-true}
use Rattle.machine.specs.Maps.{parameters_of}
use Rattle.run_counts.proofs.LoadedPlaces.{AddsPlaces-all_sets, AddsPlaces-no_set, AddsPlaces-other_set, AddsPlaces-set, is_loaded_set}
use Rattle.run_counts.proofs.Occupancies.{IsAtMost-le}
use Rattle.run_counts.specs.Occupancies.{AddsPlaces, IsAtMost, OccupancyValue}
use Rattle.run_law.specs.Slices.{shape_in}
use Rattle.run_counts.proofs.line_counts.Occupancy.load.Goals as goal
use Rattle.run_counts.proofs.line_counts.Occupancy.load.Goals.{then-is_of_slice, else-is_of_slice}

pub load_set-requires-clause-few : goal.load_set-requires-clause-few
load_set-requires-clause-few c =
    IsAtMost-le (2305843009213693952 + c.loop-set.set * 32) 4611686018427387872 c.loop-set.self (let few = c.args.machine.now.in_range.set_limit in let within = c.loop-set-test.true in omega (arith, few, within)) (c.loop-set.invariant.few 2305843009213693952 c.requires.few)

pub load_set-requires-clause-own : goal.load_set-requires-clause-own
load_set-requires-clause-own c = (c.loop-set-test.true, eqb-true _ _ (sym c.is_of_slice.ensures ∙ c.if-is_of_slice.true))

pub loop-set-init : goal.loop-set-init
loop-set-init c = record {
  sets = omega arith;
  few = λ most few. IsAtMost-le most (most + 0 * 32) c.args.self.now (omega arith) few;
  adds = AddsPlaces-no_set (shape_in (parameters_of c.args.machine.now) c.args.i) c.args.self.now c.args.mask;
}

pub loop-set-preserved : goal.loop-set-preserved
loop-set-preserved c =
    let m = shape_in (parameters_of c.args.machine.now) c.args.i in
    let before = c.loop-set.invariant in
    record {
      sets = elim c.if-is_of_slice.branch [
        | then-is_of_slice w ↦ ap (λ (now : OccupancyValue). length now.seen) w.self-is ∙ (w.load_set.ensures.sets ∙ before.sets)
        | else-is_of_slice w ↦ ap (λ (now : OccupancyValue). length now.seen) w.self-is ∙ before.sets
      ];
      few = λ most few. elim c.if-is_of_slice.branch [
        | then-is_of_slice w ↦
            subst (λ (now : OccupancyValue). IsAtMost (most + (c.loop-set.set + 1) * 32) now) (sym w.self-is)
            (IsAtMost-le ((most + c.loop-set.set * 32) + 32) (most + (c.loop-set.set + 1) * 32) w.load_set.new.self (omega arith) (w.load_set.ensures.few (most + c.loop-set.set * 32) (before.few most few)))
        | else-is_of_slice w ↦
            subst (λ (now : OccupancyValue). IsAtMost (most + (c.loop-set.set + 1) * 32) now) (sym w.self-is)
            (IsAtMost-le (most + c.loop-set.set * 32) (most + (c.loop-set.set + 1) * 32) c.loop-set.self (omega arith) (before.few most few))
      ];
      adds = elim c.if-is_of_slice.branch [
        | then-is_of_slice w ↦
            subst (λ (now : OccupancyValue). AddsPlaces m c.args.self.now now 0 (is_loaded_set c.args.mask (c.loop-set.set + 1))) (sym w.self-is)
            (AddsPlaces-set m c.args.self.now c.loop-set.self w.load_set.new.self c.args.mask c.loop-set.set before.adds w.load_set.ensures.adds)
        | else-is_of_slice w ↦
            subst (λ (now : OccupancyValue). AddsPlaces m c.args.self.now now 0 (is_loaded_set c.args.mask (c.loop-set.set + 1))) (sym w.self-is)
            (AddsPlaces-other_set m c.args.self.now c.loop-set.self c.args.mask c.loop-set.set (sym c.is_of_slice.ensures ∙ w.if-is_of_slice.false) before.adds)
      ];
    }

pub returns : goal.returns
returns c =
    let m = shape_in (parameters_of c.args.machine.now) c.args.i in
    let end : c.loop-set.set ≡ c.args.machine.now.sets = omega arith in
    AddsPlaces-all_sets m c.args.self.now c.loop-set.self c.args.mask
    (subst (λ k. AddsPlaces m c.args.self.now c.loop-set.self 0 (is_loaded_set c.args.mask k)) end c.loop-set.invariant.adds)
