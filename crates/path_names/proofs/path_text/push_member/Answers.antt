use Rattle.std.specs.Prelude.{codes}
use Rattle.path_names.specs.PathTexts.{name_in}
use Rattle.path_names.proofs.Pieces.{OnOk-append}
use Rattle.path_names.proofs.path_text.push_member.Goals as goal

pub returns : goal.returns
returns c = OnOk-append c.push_name.result c.args.text.now (codes "/mon_groups/") c.push.new.self (name_in c.args.names.now c.args.name) c.push_name.new.text c.in_ok-push.ensures c.push_name.ensures
