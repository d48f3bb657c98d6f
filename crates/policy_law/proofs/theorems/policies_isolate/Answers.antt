use Rattle.std.proofs.Common.{refl}
use Rattle.policy_law.specs.Policies.{empty_set}
use Rattle.policy_law.proofs.Isolated.{IsIsolated-respected, list_all-set_after}
use Rattle.policy_law.proofs.theorems.policies_isolate.Goals as goal

pub returns-clause-isolated : goal.returns-clause-isolated
returns-clause-isolated g c = IsIsolated-respected

pub returns-clause-ways : goal.returns-clause-ways
returns-clause-ways g c = λ policy mask s own events some keeps h. list_all-set_after policy mask own some keeps events (empty_set s) h refl
