-- What is left of the arguments, and what they give.
use Rattle.std.proofs.Common.{◌≡◌, List, drop, length, Option, Some, None, refl, sym, ◌∙◌, ap}
use Rattle.std.specs.Iterator.{DrainsIf}
use Rattle.std.specs.Prelude.{⊤}
use Rattle.std.specs.Vec.Iter.{into_iter_items, into_iter_len, into_iter_steps}
use Rattle.std.specs.declared.vec.IntoIter.{IntoIter}
use Rattle.std.proofs.lemmas.Iterator.{items_from_drains}
use Rattle.std.proofs.lemmas.Iterator.Adapters.{YieldsList-from_vec}
use Rattle.std.proofs.lemmas.List.{map-id, nil_from_length}

-- after `next` the first is gone
pub into_iter_items-next : {X Z : Type 0} (s t : IntoIter X Z) (r : Option X) → into_iter_steps s r t → into_iter_items t ≡ drop 1 (into_iter_items s)
into_iter_items-next s t None ends =
    nil_from_length (into_iter_items t) (sym t.rest.ok.0 ∙ ends.1) ∙ sym (ap (drop 1) (nil_from_length (into_iter_items s) (sym s.rest.ok.0 ∙ ends.0)))
into_iter_items-next s t (Some x) steps = sym (ap (drop 1) steps.0)

-- all that comes is what is left
pub drained-into_iter : {X Z : Type 0} (s : IntoIter X Z) (all : List X) → DrainsIf into_iter_steps ⊤ s all → all ≡ into_iter_items s
drained-into_iter s all drains =
    let same : into_iter_items s ≡ into_iter_items s = refl in
    let len : into_iter_len s ≡ length (into_iter_items s) = s.rest.ok.0 in
    sym (map-id all) ∙ items_from_drains all drains (YieldsList-from_vec (into_iter_items s) same len)
