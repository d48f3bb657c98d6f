use Rattle.live_tests.proofs.Merges.{opening_is_merged}
use Rattle.live_tests.proofs.opening.open.Goals as goal

pub create-requires : goal.create-requires
create-requires c = record { starts = opening_is_merged }
