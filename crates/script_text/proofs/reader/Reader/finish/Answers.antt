use Rattle.script_text.specs.States.{state_of}
use Rattle.script_text.proofs.Readiness.{IsFit-closed}
use Rattle.script_text.proofs.reader.Reader.finish.Goals as goal

pub into_script-requires-clause-fit : goal.into_script-requires-clause-fit
into_script-requires-clause-fit c = IsFit-closed (state_of c.args.self) (state_of c.close_phase.new.self) c.in-Ok.ensures.said c.requires.ready
