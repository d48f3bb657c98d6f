use Rattle.std.proofs.Common.{sym, ◌∙◌}
use Rattle.group_tree.specs.Records.{blank}
use Rattle.tree_core.proofs.LeavingMonitors.{gid-monitor, has_group-monitor}
use Rattle.tree_core.proofs.removal.remove_if_monitor.Goals as goal

pub remove-requires-clause-there : goal.remove-requires-clause-there
remove-requires-clause-there c = has_group-monitor c.args.control c.args.groups.now.groups c.args.i c.in-Some.gid c.requires.within (sym (c.monitor_at.ensures blank) ∙ c.in-Some.is)

pub remove-requires-clause-not_default : goal.remove-requires-clause-not_default
remove-requires-clause-not_default c = gid-monitor c.args.control c.args.groups.now.groups c.args.i c.in-Some.gid c.requires.within c.requires.default (sym (c.monitor_at.ensures blank) ∙ c.in-Some.is)
