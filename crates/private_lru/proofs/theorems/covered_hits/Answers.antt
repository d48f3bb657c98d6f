use Rattle.private_lru.proofs.laws.CoveredHits.{covered_hits-private, hits_of_group-covered}
use Rattle.private_lru.proofs.theorems.covered_hits.Goals as goal

pub returns-clause-lists : goal.returns-clause-lists
returns-clause-lists c = covered_hits-private

pub returns-clause-counts : goal.returns-clause-counts
returns-clause-counts c = hits_of_group-covered
