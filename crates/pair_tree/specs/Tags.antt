-- What an access knows of the tree of groups with two masks for each domain.
-- (For functions and proofs: no promise of the program stands on it.)
use Rattle.std.specs.Prelude.{ℕ, [], ◌∷◌}
use Rattle.machine.specs.Maps.{domain_of}
use Rattle.pair_law.specs.Registers.{class_of, mask_of_group}
use Rattle.pair_law.specs.State.{PairState, owner_of}
use Rattle.pair_text.specs.Values.{Machines, side_machine}
use Rattle.pair_text.specs.declared.side.Side.{Side}
use Rattle.pair_text.specs.declared.side.Side.TheVariants.{First, Second}
use Rattle.pair_tree.specs.declared.tag.PairTag.{PairTag}

-- the domain of a CPU on a side
abbrev pub domain_on : Machines → Side → ℕ → ℕ
domain_on m side cpu = domain_of (side_machine m side) cpu

-- the mask of a task's group on a side, in the domain of a CPU
abbrev pub mask_on : Machines → PairState → Side → ℕ → ℕ → ℕ
mask_on m s side task cpu = mask_of_group s side (domain_on m side cpu) (owner_of s task)

-- the tag of an access by a task on a CPU
abbrev pub tag_of : Machines → PairState → ℕ → ℕ → ℕ → PairTag
tag_of m s epoch task cpu = record {
  epoch = epoch;
  owner = owner_of s task;
  class = class_of s (owner_of s task);
  masks = mask_on m s First task cpu ∷ mask_on m s Second task cpu ∷ [];
  domains = domain_on m First cpu ∷ domain_on m Second cpu ∷ [];
}
