use Rattle.std.proofs.Common.{◌∙◌}
use Rattle.group_tree.specs.Records.{is_control_named}
use Rattle.group_tree.proofs.Lookups.{is_some-list_any}
use Rattle.group_tree.proofs.groups.Groups.find_ctrl.Goals as goal

pub returns-clause-there : goal.returns-clause-there
returns-clause-there c = c.map.ensures.variant ∙ is_some-list_any c.find_control.result (is_control_named c.args.name) c.args.self.now.groups c.find_control.ensures
