use Rattle.hw_ids.proofs.laws.Membership.{contains-with_id, contains-without}
use Rattle.hw_ids.proofs.theorems.members.Goals as goal

pub returns : goal.returns
returns c = record { with_one = contains-with_id; without_one = contains-without }
