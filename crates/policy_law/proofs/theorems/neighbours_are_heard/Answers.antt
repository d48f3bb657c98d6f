use Rattle.std.proofs.Common.{true, false, slice_get, refl, ap}
use Rattle.std.proofs.lemmas.Bool.{true≢false, false≢true}
use Rattle.std.proofs.lemmas.Option.{same_Some}
use Rattle.policy_law.proofs.theorems.neighbours_are_heard.Goals as goal

pub returns-clause-tree : goal.returns-clause-tree
returns-clause-tree g c = record { apart = refl; before = refl; differs = λ e. true≢false (same_Some true false e) }

pub returns-clause-resets : goal.returns-clause-resets
returns-clause-resets g c = record { apart = refl; before = refl; differs = λ e. false≢true (same_Some false true e) }

pub returns-clause-ages : goal.returns-clause-ages
returns-clause-ages g c = record { apart = refl; before = refl; differs = λ e. false≢true (same_Some false true e) }

pub returns-clause-generator : goal.returns-clause-generator
returns-clause-generator g c = record { apart = refl; before = refl; differs = λ e. true≢false (same_Some true false e) }

pub returns-clause-refuted : goal.returns-clause-refuted
returns-clause-refuted g c = λ policy mask s own events at heard isolated. heard.differs (ap (λ hits. slice_get hits at) (isolated own events heard.apart))
