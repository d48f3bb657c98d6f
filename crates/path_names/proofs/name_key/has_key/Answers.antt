use Rattle.std.proofs.lemmas.Grind.{common_steps}
use Rattle.std.proofs.Common.{arith, ◌≡◌, true}
use Rattle.std.specs.List.{list_all}
use Rattle.path_names.specs.NameKeys.{is_byte}
use Rattle.path_names.proofs.NameKeys.{list_all-is_byte}
use Rattle.path_names.proofs.name_key.has_key.Goals as goal

pub returns : goal.returns
returns c =
    let bytes : list_all is_byte c.args.name.now ≡ true = list_all-is_byte c.args.name.now c.type_inv.name in
    grind (arith, common_steps)
