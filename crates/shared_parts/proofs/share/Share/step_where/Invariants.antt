use Rattle.std.specs.Prelude.{Some}
use Rattle.shared_parts.proofs.share.Share.step_where.Given as goal

abbrev pub ghosts-happen_where : goal.ghosts-happen_where
ghosts-happen_where g a = record { event = Some a.event.now; number = a.number }
