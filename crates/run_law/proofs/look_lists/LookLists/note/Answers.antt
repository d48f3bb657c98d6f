use Rattle.std.proofs.Common.{◌<◌, sym, ap, ◌∙◌, subst}
use Rattle.run_law.proofs.laws.ReadyLists.{spare_in-last}
use Rattle.run_law.proofs.look_lists.LookLists.note.Goals as goal
use Rattle.run_law.specs.LookLists.{spare_in}

pub push-requires : goal.push-requires
push-requires c = subst (λ k. 0 < k) (ap spare_in (sym c.self.view_is) ∙ (ap spare_in c.take_last-list.ensures.items ∙ spare_in-last c.take_last-list.new.self.items c.take_last-list.result)) c.requires
