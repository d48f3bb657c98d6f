-- What is found among one entry more, and in one slice more.
use Rattle.std.proofs.Common.{◌≡◌, ℕ, ◌+◌, ◌<◌, List, [], ◌∷◌, ◌++◌, Option, Some, None, length, take, get_or, refl, sym, ap, ◌∙◌, append-nil, arith}
use Rattle.std.specs.Prelude.{filter_map}
use Rattle.std.specs.List.{flat_map, range_with_len}
use Rattle.std.proofs.lemmas.List.{flat_map_more, take_more}
use Rattle.std.proofs.lemmas.List.Elements.{filter_map-append}
use Rattle.lists.proofs.Ranges.{range_with_len-suc}
use Rattle.cache_core.specs.declared.entry.SliceEntry.{SliceEntry}

module _ {X : Type 0} (item : SliceEntry → Option X) where
  -- what is found so far, and what the next entry adds
  filter_map-take_more : (es : List SliceEntry) (i : ℕ) (d : SliceEntry) → i < length es
      → filter_map item (take (i + 1) es) ≡ filter_map item (take i es) ++ filter_map item (get_or es i d ∷ [])
  filter_map-take_more es i d within = ap (filter_map item) (take_more es i d within) ∙ filter_map-append item (take i es) (get_or es i d ∷ [])

  -- an entry with an item adds it
  pub filter_map-use : (es : List SliceEntry) (i : ℕ) (d : SliceEntry) (x : X) → i < length es → item (get_or es i d) ≡ Some x
      → filter_map item (take (i + 1) es) ≡ filter_map item (take i es) ++ x ∷ []
  filter_map-use es i d x within is =
      let one : filter_map item (get_or es i d ∷ []) ≡ x ∷ [] = rw is refl in
      filter_map-take_more es i d within ∙ ap (λ (l : List X). filter_map item (take i es) ++ l) one

  -- and any other entry nothing
  pub filter_map-other : (es : List SliceEntry) (i : ℕ) (d : SliceEntry) → i < length es → item (get_or es i d) ≡ None
      → filter_map item (take (i + 1) es) ≡ filter_map item (take i es)
  filter_map-other es i d within is =
      let none : filter_map item (get_or es i d ∷ []) ≡ [] = rw is refl in
      filter_map-take_more es i d within ∙ (ap (λ (l : List X). filter_map item (take i es) ++ l) none ∙ append-nil (filter_map item (take i es)))

-- what is found in the slices before one, and in that one
pub flat_map-next : {X : Type 0} (f : ℕ → List X) (n : ℕ) → flat_map f (range_with_len 0 n) ++ f n ≡ flat_map f (range_with_len 0 (n + 1))
flat_map-next f n =
    let here : 0 + n ≡ n = omega arith in
    let all : range_with_len 0 (n + 1) ≡ range_with_len 0 n ++ n ∷ [] = range_with_len-suc 0 n ∙ ap (λ (k : ℕ). range_with_len 0 n ++ k ∷ []) here in
    flat_map_more f [] (range_with_len 0 n) n ∙ ap (flat_map f) (sym all)
