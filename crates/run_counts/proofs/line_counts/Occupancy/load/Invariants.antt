use Rattle.std.proofs.Common.{◌≡◌, ℕ, ◌+◌, ◌*◌, length}
use Rattle.machine.specs.Maps.{parameters_of}
use Rattle.run_counts.proofs.LoadedPlaces.{is_loaded_set}
use Rattle.run_counts.specs.Occupancies.{AddsPlaces, IsAtMost}
use Rattle.run_law.specs.Slices.{shape_in}
use Rattle.run_counts.proofs.line_counts.Occupancy.load.Given as goal

abbrev pub invariant-loop-set : goal.invariant-loop-set
invariant-loop-set l = record {
  sets : length l.self.seen ≡ length l.initial.self.seen;
  few : (most : ℕ) → IsAtMost most l.initial.self → IsAtMost (most + l.set * 32) l.self;
  adds : AddsPlaces (shape_in (parameters_of l.machine) l.i) l.initial.self l.self 0 (is_loaded_set l.mask l.set);
}
