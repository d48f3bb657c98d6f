use Rattle.schedule_law.proofs.LiveEndings.{leaves_scheduled}
use Rattle.schedule_law.proofs.sharing.close.Goals as goal

pub returns-clause-scheduled : goal.returns-clause-scheduled
returns-clause-scheduled g c = leaves_scheduled g.N.NamedScript.script c.args.all.now.parts c.know.ensures.reached
