use Rattle.std.proofs.Common.{◌≡◌, rules, refl}
use Rattle.std.proofs.lemmas.Fn.{filter_same}
use Rattle.pair_law.specs.commands.Rmdir.{without}
use Rattle.pair_tree.proofs.tables.Tables.remove.Goals as goal

pub returns : goal.returns
returns c =
    let left : c.retain.new.self.items ≡ without c.args.gid c.args.self.now.groups.items = filter_same _ _ _ (λ x b f' k. search rules) _ _ c.retain.ensures.filtered in
    rw (left, c.unbind_ctrl.ensures) refl
