use Rattle.std.proofs.Common.{◌≡◌, ap, sym, ◌∙◌, rules}
use Rattle.std.proofs.lemmas.Fn.{filter_same}
use Rattle.private_lru.specs.Private.{kept_after, without}
use Rattle.private_lru.proofs.private.note_item.Goals as goal

pub returns-in-Drop-clause-kept : goal.returns-in-Drop-clause-kept
returns-in-Drop-clause-kept c =
    let f : c.retain.new.self.items ≡ without c.in-Drop.line c.args.recent.now.items = filter_same _ _ _ (λ x b f' k. search rules) _ _ c.retain.ensures.filtered in
    f ∙ ap (kept_after c.args.ways c.args.recent.now.items) (sym c.in-Drop.is)
