use Rattle.std.proofs.Common.{sym, subst, ◌∙◌}
use Rattle.script_ops.specs.Values.{IsLawful}
use Rattle.trace_gen.proofs.Lawful.{IsLawful-trace_script, trace_script-parts}
use Rattle.trace_gen.proofs.script.make_script.Goals as goal

pub new-requires : goal.new-requires
new-requires c = record { lawful = subst IsLawful (sym (trace_script-parts c.args.n _ _ _ _ c.trace_machine.ensures c.in_ok-tasks.ensures c.in_ok-names.ensures c.in_ok-phases.ensures)) (IsLawful-trace_script c.args.n c.requires.high) }

pub returns : goal.returns
returns c = c.new.ensures ∙ trace_script-parts c.args.n _ _ _ _ c.trace_machine.ensures c.in_ok-tasks.ensures c.in_ok-names.ensures c.in_ok-phases.ensures
