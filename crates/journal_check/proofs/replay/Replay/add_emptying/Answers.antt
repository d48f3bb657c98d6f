use Rattle.std.proofs.Common.{arith}
use Rattle.journal_check.proofs.StandingPlaces.{StandsFor-empties}
use Rattle.journal_check.proofs.replay.Replay.add_emptying.Goals as goal

pub empty-requires-clause-slots : goal.empty-requires-clause-slots
empty-requires-clause-slots c = (let g = c.requires.stands.slots_generation in omega (arith, g, c.requires.few))

pub empty-requires-clause-counts : goal.empty-requires-clause-counts
empty-requires-clause-counts c = (let g = c.requires.stands.counts_generation in omega (arith, g, c.requires.few))

pub returns : goal.returns
returns c = StandsFor-empties c.args.self.now.slots.shape c.args.before.now c.args.entry c.args.self.now c.empty.new.self c.requires.stands c.args.region c.empty.ensures c.requires.what c.requires.low
