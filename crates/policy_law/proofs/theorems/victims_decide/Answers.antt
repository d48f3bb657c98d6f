use Rattle.policy_law.proofs.laws.Victims.{VictimsAgree-isolated, IsIsolated-agreeing, Heard-empty_set}
use Rattle.policy_law.proofs.theorems.victims_decide.Goals as goal

pub returns-clause-exactly : goal.returns-clause-exactly
returns-clause-exactly g c = λ policy mask s t some keeps. (VictimsAgree-isolated policy mask s t some keeps, IsIsolated-agreeing policy mask s t some keeps)

pub returns-clause-heard : goal.returns-clause-heard
returns-clause-heard g c = Heard-empty_set
