use Rattle.std.proofs.Common.{List, length}
use Rattle.std.specs.List.{flat_map}
use Rattle.cpu_lists.specs.declared.runs.Run.{Run}
use Rattle.cpu_lists.specs.Sets.{is_among}
use Rattle.cpu_lists.specs.Lists.{numbers_in, run_of}
use Rattle.cpu_lists.specs.Collected.{Collects}
use Rattle.cpu_lists.proofs.Pieces.{SoFar}
use Rattle.cpu_lists.proofs.list_text.elements.Given as goal

abbrev pub invariant-elements : goal.invariant-elements
invariant-elements l = record {
  done : (all : List Run) × SoFar run_of l.text l.left all × Collects (is_among (flat_map numbers_in all)) l.found;
}

abbrev pub decreases-elements : goal.decreases-elements
decreases-elements l = length l.left
