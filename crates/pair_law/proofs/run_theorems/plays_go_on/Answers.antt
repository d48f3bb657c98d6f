use Rattle.pair_law.proofs.laws.Playing.{has_at-more, replies_to-push, state_at-command}
use Rattle.pair_law.proofs.run_theorems.plays_go_on.Goals as goal

pub returns-clause-replies : goal.returns-clause-replies
returns-clause-replies c = replies_to-push

pub returns-clause-states : goal.returns-clause-states
returns-clause-states c = state_at-command

pub returns-clause-entries : goal.returns-clause-entries
returns-clause-entries c = has_at-more
