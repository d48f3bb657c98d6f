-- One item more in a private cache.
use Rattle.std.proofs.Common.{◌≡◌, ℕ, ◌+◌, ◌<◌, List, [], ◌∷◌, ◌++◌, length, take, reverse, get_or, sym, ◌∙◌, ap}
use Rattle.std.proofs.lemmas.List.{append_assoc, append-nil, reverse-append, take_more}
use Rattle.private_lru.specs.Private.{hits_after, hits_of, is_hit, kept_after}
use Rattle.private_lru.specs.declared.item.Item.{Item}
use Rattle.private_lru.proofs.Recency.{kept}

-- the lines that are kept
pub kept-take : (ways i : ℕ) (items : List Item) (d : Item) → i < length items → kept ways (reverse (take (i + 1) items)) ≡ kept_after ways (kept ways (reverse (take i items))) (get_or items i d)
kept-take ways i items d within = ap (λ k. kept ways (reverse k)) (take_more items i d within) ∙ ap (λ k. kept ways k) (reverse-append (take i items) (get_or items i d ∷ []))

-- the hits after others
hits_after-push : (ways : ℕ) (x : Item) (earlier items : List Item) → hits_after ways earlier (items ++ x ∷ []) ≡ hits_after ways earlier items ++ is_hit ways (earlier ++ items) x ∷ []
hits_after-push ways x earlier [] = ap (λ k. is_hit ways k x ∷ []) (sym (append-nil earlier))
hits_after-push ways x earlier (y ∷ ys) =
    ap (λ hits. is_hit ways earlier y ∷ hits) (hits_after-push ways x (earlier ++ y ∷ []) ys ∙ ap (λ k. hits_after ways (earlier ++ y ∷ []) ys ++ is_hit ways k x ∷ []) (append_assoc earlier (y ∷ []) ys))

-- the hits of one item more
pub hits_of-take : (ways i : ℕ) (items : List Item) (d : Item) → i < length items → hits_of ways (take (i + 1) items) ≡ hits_of ways (take i items) ++ is_hit ways (take i items) (get_or items i d) ∷ []
hits_of-take ways i items d within = ap (hits_of ways) (take_more items i d within) ∙ hits_after-push ways (get_or items i d) [] (take i items)
