use Rattle.std.proofs.Common.{◌≡◌, ℕ, ◌<◌, List, [], ◌∷◌, ◌++◌, take, length, reverse, get_or, sym, ap, ◌∙◌, arith}
use Rattle.private_lru.specs.Private.{hits_of, is_hit, kept_after, was_kept}
use Rattle.private_lru.specs.declared.item.Item.{Item}
use Rattle.private_lru.specs.declared.item.Item.TheVariants.{Use}
use Rattle.private_lru.proofs.Recency.{is_hit-kept, kept}
use Rattle.private_lru.proofs.PrivateHits.{hits_of-take, kept-take}
use Rattle.private_lru.proofs.private.private_hits.Goals as goal

pub loop-item-preserved : goal.loop-item-preserved
loop-item-preserved c =
    let items : List Item = c.args.items.now in
    let i : ℕ = c.loop-item.item-index in
    let within : i < length items = omega arith in
    let x : Item = get_or items i (Use 0) in
    let was : c.loop-item.recent.items ≡ kept c.args.ways (reverse (take i items)) = c.loop-item.invariant.recent in
    let hit : c.in_ok-hit.hit ≡ is_hit c.args.ways (take i items) x = c.in_ok-hit.ensures.hit ∙ ap (λ l. was_kept l x) was ∙ sym (is_hit-kept c.args.ways (take i items) x) in
    record {
      recent = c.in_ok-hit.ensures.kept ∙ ap (λ l. kept_after c.args.ways l x) was ∙ sym (kept-take c.args.ways i items (Use 0) within);
      hits = c.in_ok-push.ensures.items ∙ ap (λ l. l ++ c.in_ok-hit.hit ∷ []) c.loop-item.invariant.hits ∙ ap (λ b. hits_of c.args.ways (take i items) ++ b ∷ []) hit ∙ sym (hits_of-take c.args.ways i items (Use 0) within);
    }
