use Rattle.std.proofs.Common.{Option, sym, ap, ◌∙◌}
use Rattle.group_tree.specs.declared.group_kind.GroupKind.TheVariants.{Monitor}
use Rattle.tree_core.proofs.CpuSets.{against-monitor_none, against-monitor_some, cpus_after-monitor, is_err-true, not-refused}
use Rattle.tree_core.specs.CpuFiles.{unless}
use Rattle.tree_law.specs.Refusals.{Refusal, reply_of}
use Rattle.tree_law.specs.commands.Cpus.{cpus_after}
use Rattle.tree_core.proofs.cpu_sets.give_monitor.Goals as goal

pub returns-in-Ok-clause-reply : goal.returns-in-Ok-clause-reply
returns-in-Ok-clause-reply c =
    sym (ap reply_of (against-monitor_none c.args.gid c.args.parent c.args.set c.args.cpus.now (not-refused c.set_mon.result _ c.set_mon.ensures.refused c.in-Ok.is)))

pub returns-in-Ok-clause-cpus : goal.returns-in-Ok-clause-cpus
returns-in-Ok-clause-cpus c =
    let none = against-monitor_none c.args.gid c.args.parent c.args.set c.args.cpus.now (not-refused c.set_mon.result _ c.set_mon.ensures.refused c.in-Ok.is) in
    cpus_after-monitor c.args.gid c.args.parent c.args.set c.args.cpus.now c.set_mon.new.self c.in-Ok.ensures.ok
    ∙ sym (ap (λ (o : Option Refusal). unless o c.args.cpus.now (cpus_after c.args.gid (Monitor c.args.parent) c.args.set c.args.cpus.now)) none)

pub returns-in-Err-clause-reply : goal.returns-in-Err-clause-reply
returns-in-Err-clause-reply c =
    c.refused.ensures ∙ sym (ap reply_of (against-monitor_some c.args.gid c.args.parent c.args.set c.args.cpus.now (c.set_mon.ensures.refused.0 (is_err-true c.set_mon.result _ c.in-Err.is))))

pub returns-in-Err-clause-cpus : goal.returns-in-Err-clause-cpus
returns-in-Err-clause-cpus c =
    let some = against-monitor_some c.args.gid c.args.parent c.args.set c.args.cpus.now (c.set_mon.ensures.refused.0 (is_err-true c.set_mon.result _ c.in-Err.is)) in
    c.in-Err.ensures.err ∙ sym (ap (λ (o : Option Refusal). unless o c.args.cpus.now (cpus_after c.args.gid (Monitor c.args.parent) c.args.set c.args.cpus.now)) some)
