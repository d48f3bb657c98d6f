use Rattle.std.proofs.Common.{arith}
use Rattle.library_tests.proofs.RisingPairs.{AllPairs-two}
use Rattle.library_tests.proofs.run_tests.several_groups.counted.Goals as goal

pub counts_of-requires : goal.counts_of-requires
counts_of-requires c = record { rising = AllPairs-two _ _ (omega (arith, c.stay.ensures, c.stay-2.ensures)); few = c.requires }
