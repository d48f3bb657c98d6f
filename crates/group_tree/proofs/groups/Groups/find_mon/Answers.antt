use Rattle.std.proofs.Common.{◌∙◌}
use Rattle.group_tree.specs.Records.{is_monitor_named}
use Rattle.group_tree.proofs.Lookups.{is_some-list_any}
use Rattle.group_tree.proofs.groups.Groups.find_mon.Goals as goal

pub returns-clause-there : goal.returns-clause-there
returns-clause-there c = c.map.ensures.variant ∙ is_some-list_any c.find_monitor.result (is_monitor_named c.args.parent c.args.name) c.args.self.now.groups c.find_monitor.ensures
