use Rattle.std.proofs.Common.{ℕ, true, false, List, refl, ap}
use Rattle.hw_ids.specs.Classes.{Classes}
use Rattle.hw_ids.proofs.Places.{places-first}
use Rattle.hw_ids.proofs.class_ids.ClassIds.create.Goals as goal

pub returns : goal.returns
returns c = ap {B = Classes} (λ (l : List ℕ). record { count = c.args.n; taken = l }) (places-first (λ t. t) c.args.n 63 true false c.requires.some refl refl)
