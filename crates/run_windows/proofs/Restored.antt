-- The stays before a change, made of those after it.
use Rattle.std.proofs.Common.{◌≡◌, ℕ, zero, suc, ◌<◌, false, eqb, List, [], ◌∷◌, ◌++◌, length, map, find, get_or, take, drop, Option, Some, refl, sym, ap, ap₂, ◌∙◌, arith}
use Rattle.std.specs.List.{insert, remove, slice_set}
use Rattle.std.specs.Option.{option_map_or}
use Rattle.std.proofs.Math.ListN.{get_or-map}
use Rattle.std.proofs.lemmas.Bool.{eq-eqb, ne_eqb}
use Rattle.std.proofs.lemmas.List.{drop-map, map-append, map-set, take-map}
use Rattle.private_lru.specs.declared.exclusive_span.ExclusiveSpan.{ExclusiveSpan}
use Rattle.run_windows.proofs.KeptStays.{gids}
use Rattle.run_windows.proofs.RisingGids.{AreRising}
use Rattle.run_windows.specs.Edits.{edited}
use Rattle.run_windows.specs.Stays.{is_same, mask_of, stay_of}
use Rattle.run_windows.specs.Sweeps.{restored}
use Rattle.run_windows.specs.declared.edit.Edit.TheVariants.{Whole, Put, Insert, Remove}
use Rattle.run_windows.specs.declared.edit.Edit.{Edit}
use Rattle.run_windows.specs.declared.exclusive_group.ExclusiveGroup.{ExclusiveGroup}

-- where one of them is found: gids rise, so no other has the same
find-own : (domain : ℕ) (t : ExclusiveGroup) (s : List ExclusiveSpan) (k : ℕ) (d : ExclusiveSpan) → AreRising (gids s) → k < length s → (get_or s k d).gid.0 ≡ t.gid.0 → (get_or s k d).mask ≡ mask_of domain t
    → find (is_same domain t) s ≡ Some (get_or s k d)
find-own domain t [] k d rising within gid mask = absurd (omega arith)
find-own domain t (x ∷ xs) zero d rising within gid mask = rw (eq-eqb x.gid.0 t.gid.0 gid, eq-eqb x.mask (mask_of domain t) mask) refl
find-own domain t (x ∷ xs) (suc k) d rising within gid mask =
    let lt = rising 0 (suc k) d.gid.0 (omega arith) (within_gids (x ∷ xs) (suc k) within) in
    let its : get_or (gids xs) k d.gid.0 ≡ (get_or xs k d).gid.0 = get_or-map (λ (y : ExclusiveSpan). y.gid.0) xs k d in
    let other : eqb x.gid.0 t.gid.0 ≡ false = ne_eqb x.gid.0 t.gid.0 (λ e. omega (arith, lt, e, its, gid)) in
    rw other (find-own domain t xs k d (λ a b z below inside. rising (suc a) (suc b) z (omega arith) (omega arith)) (omega arith) gid mask)
  where
    within_gids : (l : List ExclusiveSpan) (n : ℕ) → n < length l → n < length (gids l)
    within_gids [] n lt = absurd (omega arith)
    within_gids (y ∷ ys) zero lt = omega arith
    within_gids (y ∷ ys) (suc n) lt = let rest = within_gids ys n (omega arith) in omega (arith, rest)

-- they are what they were, made anew of their groups
pub map-stay_of : (domain l last : ℕ) (next : List ExclusiveSpan) (ts : List ExclusiveGroup) → AreRising (gids (map (stay_of domain l next) ts))
    → map (stay_of domain last (map (stay_of domain l next) ts)) ts ≡ map (stay_of domain l next) ts
map-stay_of domain l last next ts rising = at ts (λ k d within. find-own domain (get_or ts k d) whole k (f d) rising (within_map ts k within) (ap (λ (s : ExclusiveSpan). s.gid.0) (get_or-map f ts k d)) (ap (λ (s : ExclusiveSpan). s.mask) (get_or-map f ts k d)) ∙ ap (λ (s : ExclusiveSpan). Some s) (get_or-map f ts k d))
  where
    f : ExclusiveGroup → ExclusiveSpan
    f = stay_of domain l next

    whole : List ExclusiveSpan
    whole = map f ts

    within_map : (us : List ExclusiveGroup) (k : ℕ) → k < length us → k < length (map f us)
    within_map [] k lt = absurd (omega arith)
    within_map (u ∷ us) zero lt = omega arith
    within_map (u ∷ us) (suc k) lt = let rest = within_map us k (omega arith) in omega (arith, rest)

    at : (us : List ExclusiveGroup) → ((k : ℕ) (d : ExclusiveGroup) → k < length us → find (is_same domain (get_or us k d)) whole ≡ Some (f (get_or us k d))) → map (stay_of domain last whole) us ≡ map f us
    at [] found = refl
    at (u ∷ us) found =
        let own : stay_of domain last whole u ≡ f u = ap (λ (o : Option ExclusiveSpan). record { last = option_map_or (λ (s : ExclusiveSpan). s.last) o last; gid = u.gid; mask = mask_of domain u }) (found 0 u (omega arith)) in
        ap₂ (λ (s : ExclusiveSpan) (ss : List ExclusiveSpan). s ∷ ss) own (at us (λ k d within. found (suc k) d (omega arith)))

-- an edit of groups is one of their stays
pub map-edited : (domain last : ℕ) (after : List ExclusiveSpan) (e : Edit) (ts : List ExclusiveGroup) → map (stay_of domain last after) ts ≡ after → map (stay_of domain last after) (edited e ts) ≡ restored domain last e after
map-edited domain last after (Whole all) ts same = refl
map-edited domain last after (Put at t) ts same =
    map-set (stay_of domain last after) ts at t ∙ ap (λ (l : List ExclusiveSpan). slice_set l at (stay_of domain last after t)) same
map-edited domain last after (Insert at t) ts same =
    map-append (stay_of domain last after) (take at ts) (t ∷ drop at ts)
    ∙ (ap₂ (λ (a b : List ExclusiveSpan). a ++ stay_of domain last after t ∷ b) (sym (take-map (stay_of domain last after) at ts)) (sym (drop-map (stay_of domain last after) at ts))
    ∙ ap (λ (l : List ExclusiveSpan). insert l at (stay_of domain last after t)) same)
map-edited domain last after (Remove at) ts same =
    map-append (stay_of domain last after) (take at ts) (drop (suc at) ts)
    ∙ (ap₂ (λ (a b : List ExclusiveSpan). a ++ b) (sym (take-map (stay_of domain last after) at ts)) (sym (drop-map (stay_of domain last after) (suc at) ts))
    ∙ ap (λ (l : List ExclusiveSpan). remove l at) same)
