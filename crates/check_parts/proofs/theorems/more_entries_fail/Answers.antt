use Rattle.check_parts.proofs.SliceRooms.{MoreEntriesFail-all}
use Rattle.check_parts.proofs.theorems.more_entries_fail.Goals as goal

pub returns : goal.returns
returns c = MoreEntriesFail-all
