use Rattle.std.proofs.Common.{◌∙◌, sym, subst, rules}
use Rattle.std.proofs.lemmas.List.{get_or_default}
use Rattle.live_run.proofs.live.Live.work_all.Goals as goal
use Rattle.live_run.specs.Phases.{MayWork, no_passes}

pub for_each_mut-requires-clause-accepts : goal.for_each_mut-requires-clause-accepts
for_each_mut-requires-clause-accepts g c κs within i p there is = ((c.requires.script, subst (MayWork g.N.RunNames.script) (get_or_default c.args.own.now i no_passes p.now there ∙ sym is) (c.requires.may.each i there)), search rules)
