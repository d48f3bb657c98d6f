use Rattle.std.specs.Prelude.{codes}
use Rattle.path_names.specs.PathTexts.{owner_path}
use Rattle.path_names.proofs.Pieces.{OnOk-append}
use Rattle.path_names.proofs.path_text.push_dir.Goals as goal

pub returns-in_ok-push_owner-in-MonGroups : goal.returns-in_ok-push_owner-in-MonGroups
returns-in_ok-push_owner-in-MonGroups c =
    rw c.in-MonGroups.is (OnOk-append c.push-in-MonGroups.result c.args.text.now (owner_path c.args.names.now c.in-MonGroups.owner) c.push_owner-in-MonGroups.new.text (codes "/mon_groups") c.push-in-MonGroups.new.self c.in_ok-push_owner-in-MonGroups.ensures c.push-in-MonGroups.ensures)
