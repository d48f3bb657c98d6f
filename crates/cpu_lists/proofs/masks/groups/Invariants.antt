use Rattle.std.proofs.Common.{ℕ, ◌^◌, List, length}
use Rattle.std.specs.Int.Digits.{AllBelowBase}
use Rattle.cpu_lists.specs.Sets.{has}
use Rattle.cpu_lists.specs.Masks.{group_of, value_of}
use Rattle.cpu_lists.specs.Collected.{Collects}
use Rattle.cpu_lists.proofs.Pieces.{SoFar}
use Rattle.cpu_lists.proofs.masks.groups.Given as goal

abbrev pub invariant-groups : goal.invariant-groups
invariant-groups l = record {
  done : (all : List ℕ) × SoFar group_of l.text l.left all × AllBelowBase (2 ^ 32) all × Collects (has (value_of all)) l.found;
}

abbrev pub decreases-groups : goal.decreases-groups
decreases-groups l = length l.left
