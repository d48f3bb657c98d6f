use Rattle.std.proofs.Common.{refl}
use Rattle.call_rim.specs.Outside.{reading_of}
use Rattle.resctrl_top.proofs.calls.obey.Goals as goal

pub returns-in-Gen-clause-complete : goal.returns-in-Gen-clause-complete
returns-in-Gen-clause-complete g c = c.step_trace.ensures.complete (reading_of g.S.Source.left g.S.Source.faults c.args.source.now c.args.source.now) refl refl
