use Rattle.std.proofs.Common.{◌≡◌, List, not, filter, subst, sym, rules}
use Rattle.arrayvec.proofs.ArrayVecLemmas.{filter-from_retain}
use Rattle.group_tree.specs.Indices.{IsIndexBut, is_at}
use Rattle.group_tree.specs.declared.index.Entry.{Entry}
use Rattle.group_tree.proofs.Indices.{IsIndexBut-filter}
use Rattle.group_tree.proofs.index.strike.Goals as goal

pub returns : goal.returns
returns c =
    let left : c.retain.new.self.items ≡ filter (λ e. not (is_at c.args.place e)) c.args.entries.now.items = filter-from_retain _ _ _ (λ x b f' y called. search rules) _ _ c.retain.ensures.filtered in
    λ key_of groups index within. subst (λ (xs : List Entry). IsIndexBut c.args.place key_of groups xs) (sym left) (IsIndexBut-filter key_of groups c.args.entries.now.items c.args.place index within)
