use Rattle.std.proofs.Common.{◌%◌, inl, inr, sym, ◌∙◌}
use Rattle.machine.specs.Maps.{parameters_of}
use Rattle.run_counts.proofs.LoadedPlaces.{SkipsPlaces-drop, SkipsPlaces-other_drop}
use Rattle.run_law.specs.Slices.{shape_in}
use Rattle.run_counts.proofs.line_counts.Occupancy.empty.Goals as goal
use Rattle.run_counts.proofs.line_counts.Occupancy.empty.Goals.{else-is_of_slice-via-then-is_of_slice+else-placed-machine, else-is_of_slice-via-else-is_of_slice}

pub returns-then-placed-machine : goal.returns-then-placed-machine
returns-then-placed-machine c =
    SkipsPlaces-drop (shape_in (parameters_of c.args.machine.now) c.args.i) c.args.self.now c.skip.new.self c.set_of-set.result (c.args.placed.line % c.args.machine.now.sets) c.args.placed.way
    c.args.machine.now.in_range.way_limit c.set_of-set.ensures.set c.set_of-set.ensures.below (sym c.is_of_slice.ensures ∙ c.if-is_of_slice.true) c.if-placed-machine.true c.skip.ensures

pub returns-else-is_of_slice : goal.returns-else-is_of_slice
returns-else-is_of_slice c =
    elim c.else-is_of_slice.branch [
      | else-is_of_slice-via-then-is_of_slice+else-placed-machine w ↦
          SkipsPlaces-other_drop (shape_in (parameters_of c.args.machine.now) c.args.i) c.args.self.now c.set_of-set.result (c.args.placed.line % c.args.machine.now.sets) c.args.placed.way c.set_of-set.ensures.set
          (inr w.if-placed-machine.false)
      | else-is_of_slice-via-else-is_of_slice w ↦
          SkipsPlaces-other_drop (shape_in (parameters_of c.args.machine.now) c.args.i) c.args.self.now c.set_of-set.result (c.args.placed.line % c.args.machine.now.sets) c.args.placed.way c.set_of-set.ensures.set
          (inl (sym c.is_of_slice.ensures ∙ w.if-is_of_slice.false))
    ]
