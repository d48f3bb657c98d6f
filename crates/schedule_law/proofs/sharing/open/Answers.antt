use Rattle.schedule_law.proofs.LiveOpenings.{live_opens}
use Rattle.schedule_law.proofs.sharing.open.Goals as goal

pub create-requires : goal.create-requires
create-requires g c = record { starts = live_opens g.N.NamedScript.script }
