use Rattle.std.proofs.Common.{refl}
use Rattle.share_plans.proofs.Steps.{IsGood-nil}
use Rattle.share_plans.proofs.stream.Stream.create.Goals as goal

pub returns-clause-empty : goal.returns-clause-empty
returns-clause-empty c = IsGood-nil _ _ refl c.in_ok-rest.ensures.items refl c.in_ok-played.ensures.empty
