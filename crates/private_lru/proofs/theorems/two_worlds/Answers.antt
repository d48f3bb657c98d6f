use Rattle.private_lru.proofs.laws.CoveredHits.{covered_hits-two_worlds}
use Rattle.private_lru.proofs.theorems.two_worlds.Goals as goal

pub returns : goal.returns
returns c = covered_hits-two_worlds
