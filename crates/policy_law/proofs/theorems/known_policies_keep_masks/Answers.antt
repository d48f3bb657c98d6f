use Rattle.policy_law.proofs.Ages.{KeepsMasks-srrip}
use Rattle.policy_law.proofs.Generators.{KeepsMasks-random, KeepsMasks-random_by_mask}
use Rattle.policy_law.proofs.Resets.{KeepsMasks-nru}
use Rattle.policy_law.proofs.laws.Stamped.{has_way-victim}
use Rattle.policy_law.proofs.Subtrees.{KeepsMasks-tree}
use Rattle.policy_law.proofs.theorems.known_policies_keep_masks.Goals as goal

pub returns : goal.returns
returns c = record {
  by_use = has_way-victim;
  by_fill = has_way-victim;
  by_tree = KeepsMasks-tree;
  by_resets = KeepsMasks-nru;
  by_ages = KeepsMasks-srrip;
  by_generator = KeepsMasks-random;
  by_generators = KeepsMasks-random_by_mask;
}
