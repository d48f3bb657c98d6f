use Rattle.tree_law.proofs.laws.Follows.{after-good}
use Rattle.tree_law.proofs.theorems.follows_are_lawful.Goals as goal

pub returns : goal.returns
returns c = record {
  domains = λ m s k op range sound fits i d within. (after-good m s k op range sound fits i d within).0;
  lawful = λ m s k op range sound fits i d within. (after-good m s k op range sound fits i d within).1;
}
