-- What a drop and a flush leave of the places and the counts of a slice.
use Rattle.std.proofs.Common.{◌≡◌, ℕ, ◌+◌, ◌/◌, ◌^◌, ◌<◌, Bool, true, false, cond, List, [], length, Option, Some, None, option_map, slice_set, refl, sym, ◌∙◌, ap, subst, arith, add-zero}
use Rattle.std.specs.Prelude.{IfSome, slice_index}
use Rattle.cache_core.specs.declared.cached_line.CachedLine.{CachedLine}
use Rattle.cache_core.specs.RmidCounts.{Uncounts, is_rmid}
use Rattle.cache_core.specs.Filled.{places_with}
use Rattle.cache_core.specs.Fills.{Holds}
use Rattle.cache_core.specs.History.{Shape, IsOwn, is_own, is_of}
use Rattle.cache_core.specs.Kept.{IsKept, residents, spread}
use Rattle.cache_core.specs.Places.{IsFormed, set_in, place_in, resident_in}
use Rattle.cache_core.specs.Stands.{Drops}
use Rattle.lists.specs.Sums.{one_if}
use Rattle.cache_core.proofs.Counts.{places_with-none}
use Rattle.cache_core.proofs.Formed.{IsFormed-emptied}
use Rattle.cache_core.proofs.KeptPlaces.{res}
use Rattle.cache_core.proofs.Spread.{length-spread, set_in-spread, set_in-spread_own, place_in-spread_empty, spread-slice_set}
use Rattle.cache_core.proofs.Keeping.{length-kept_set, lt-kept_set, counts-changed}

-- a place that was used before now was used before later
IfSome-later : (o : Option CachedLine) (clock : ℕ) → IfSome o (λ p. p.used < clock) → IfSome o (λ p. p.used < clock + 1)
IfSome-later None clock h = tt
IfSome-later (Some p) clock h = omega (arith, h)

-- a drop leaves them so
pub IsKept-dropped : (m : Shape) (rmids clock : ℕ) (own now : List (List (Option CachedLine))) (counts new : List ℕ) (shift s line : ℕ) (answer : Option ℕ)
    → IsKept m rmids clock own counts shift → IsOwn m s → 0 < m.ways → Drops own now (s / m.slices) line answer
    → length new ≡ length counts → Uncounts counts new (set_in own (s / m.slices)) answer → IsKept m rmids (clock + 1) now new shift
IsKept-dropped m rmids clock own now counts new shift s line None kept is some drops size uncounts = record {
  formed = subst (λ ps. IsFormed m rmids (clock + 1) (spread m ps)) (sym drops.1) (record {
    count = kept.formed.count;
    widths = kept.formed.widths;
    stamped = λ t w. IfSome-later (place_in (set_in (spread m own) t) w) clock (kept.formed.stamped t w);
    named = kept.formed.named;
  });
  narrow = kept.narrow;
  inside = kept.inside;
  power = kept.power;
  known = size ∙ kept.known;
  counted = λ rmid l. ap (λ cs. slice_index cs rmid) uncounts ∙ (kept.counted rmid l ∙ ap (λ ps. places_with m (is_of rmid) (residents (spread m ps))) (sym drops.1));
}
IsKept-dropped m rmids clock own now counts new shift s line (Some way) kept is some drops size uncounts =
    let places : List (List (Option CachedLine)) = spread m own in
    let row : set_in places s ≡ set_in own (s / m.slices) = set_in-spread_own m own s is in
    let width : length (set_in places s) ≡ m.ways = ap length row ∙ length-kept_set m rmids clock own counts shift s kept is in
    let here : way < length (set_in places s) = subst (λ ps. way < length ps) (sym row) drops.0 in
    let changed : List (Option CachedLine) = slice_set (set_in places s) way None in
    let all : spread m now ≡ slice_set places s changed =
    ap (spread m) drops.2 ∙ (spread-slice_set m own s (slice_set (set_in own (s / m.slices)) way None) is (lt-kept_set m rmids clock own counts shift s kept is some) ∙ ap (λ ps. slice_set places s (slice_set ps way None)) (sym row)) in
    let within : s < length places = omega (arith, is.0, length-spread m own) in
    let counted : (r : ℕ) → slice_index new r + one_if (is_rmid (option_map (λ (p : CachedLine). p.rmid) (place_in (set_in places s) way)) r) ≡ slice_index counts r + 0 = λ r.
    ap (λ ps. slice_index new r + one_if (is_rmid (option_map (λ (p : CachedLine). p.rmid) (place_in ps way)) r)) row ∙ (uncounts r ∙ sym (add-zero (slice_index counts r))) in
    record {
      formed = subst (IsFormed m rmids (clock + 1)) (sym all) (IsFormed-emptied m rmids clock places s way kept.formed is.0 here);
      narrow = kept.narrow;
      inside = kept.inside;
      power = kept.power;
      known = size ∙ kept.known;
      counted = λ rmid l. counts-changed m places counts new s way None changed rmid is within width here refl (counted rmid) (kept.counted rmid l) ∙ ap (λ ps. places_with m (is_of rmid) (residents ps)) (sym all);
    }

-- the same of the domain's sets
pub Drops-spread : (m : Shape) (rmids clock : ℕ) (own now : List (List (Option CachedLine))) (counts : List ℕ) (shift s line : ℕ) (answer : Option ℕ) → IsKept m rmids clock own counts shift → IsOwn m s → 0 < m.ways
    → Drops own now (s / m.slices) line answer → Drops (spread m own) (spread m now) s line answer
Drops-spread m rmids clock own now counts shift s line None kept is some drops =
    let row : set_in (spread m own) s ≡ set_in own (s / m.slices) = set_in-spread_own m own s is in
    (subst (λ ps. (w : ℕ) → Holds (resident_in ps) line w → ⊥) (sym row) drops.0, ap (spread m) drops.1)
Drops-spread m rmids clock own now counts shift s line (Some way) kept is some drops =
    let row : set_in (spread m own) s ≡ set_in own (s / m.slices) = set_in-spread_own m own s is in (
      subst (λ ps. way < length ps) (sym row) drops.0,
      subst (λ ps. Holds (resident_in ps) line way) (sym row) drops.1,
      ap (spread m) drops.2 ∙ (spread-slice_set m own s (slice_set (set_in own (s / m.slices)) way None) is (lt-kept_set m rmids clock own counts shift s kept is some) ∙ ap (λ ps. slice_set (spread m own) s (slice_set ps way None)) (sym row)),
    )

-- places and counts that are empty
pub IsKept-empty : (m : Shape) (rmids clock : ℕ) (own : List (List (Option CachedLine))) (counts : List ℕ) (shift : ℕ) → shift < 32 → m.slice < m.slices → m.slices ≡ 2 ^ shift → length counts ≡ rmids → ((r : ℕ) → slice_index counts r ≡ 0)
    → ((set : ℕ) → set < m.sets → length (set_in (spread m own) set) ≡ cond (is_own m set) m.ways 0) → ((s w : ℕ) → place_in (set_in own s) w ≡ None) → IsKept m rmids clock own counts shift
IsKept-empty m rmids clock own counts shift narrow inside power known zeros widths none =
    let empty : (s w : ℕ) → place_in (set_in (spread m own) s) w ≡ None = place_in-spread_empty m own none in
    record {
      formed = record {
        count = length-spread m own;
        widths = widths;
        stamped = λ s w. subst (λ (o : Option CachedLine). IfSome o (λ p. p.used < clock)) (sym (empty s w)) tt;
        named = λ s w. subst (λ (o : Option CachedLine). IfSome o (λ p. p.rmid < rmids)) (sym (empty s w)) tt;
      };
      narrow = narrow;
      inside = inside;
      power = power;
      known = known;
      counted = λ rmid l. zeros rmid ∙ sym (places_with-none m (is_of rmid) (residents (spread m own)) refl (λ s w. ap res (empty s w)));
    }

-- the width of each set of the domain, by that of the kept ones
pub length-set_in_spread : (m : Shape) (own : List (List (Option CachedLine))) → ((set : ℕ) → set < m.sets → length (set_in own (set / m.slices)) ≡ m.ways)
    → (set : ℕ) → set < m.sets → length (set_in (spread m own) set) ≡ cond (is_own m set) m.ways 0
length-set_in_spread m own widths set l = ap length (set_in-spread m own set l) ∙ go (is_own m set)
  where
    go : (b : Bool) → length (cond b (set_in own (set / m.slices)) []) ≡ cond b m.ways 0
    go true = widths set l
    go false = refl

-- where each set keeps its ways
pub length-set_in_spread_same : (m : Shape) (rmids clock : ℕ) (own now : List (List (Option CachedLine))) (counts : List ℕ) (shift : ℕ) → IsKept m rmids clock own counts shift
    → ((set : ℕ) → length (set_in now set) ≡ length (set_in own set)) → (set : ℕ) → set < m.sets → length (set_in (spread m now) set) ≡ cond (is_own m set) m.ways 0
length-set_in_spread_same m rmids clock own now counts shift kept widths set l =
    ap length (set_in-spread m now set l) ∙ (go (is_own m set) ∙ (sym (ap length (set_in-spread m own set l)) ∙ kept.formed.widths set l))
  where
    go : (b : Bool) → length (cond b (set_in now (set / m.slices)) []) ≡ length (cond b (set_in own (set / m.slices)) [])
    go true = widths (set / m.slices)
    go false = refl

-- a flush leaves them so
pub IsKept-emptied : (m : Shape) (rmids clock : ℕ) (own now : List (List (Option CachedLine))) (counts new : List ℕ) (shift : ℕ) → IsKept m rmids clock own counts shift
    → ((set : ℕ) → length (set_in now set) ≡ length (set_in own set)) → ((s w : ℕ) → place_in (set_in now s) w ≡ None) → length new ≡ length counts → ((r : ℕ) → slice_index new r ≡ 0)
    → IsKept m rmids (clock + 1) now new shift
IsKept-emptied m rmids clock own now counts new shift kept widths none size zeros =
    IsKept-empty m rmids (clock + 1) now new shift kept.narrow kept.inside kept.power (size ∙ kept.known) zeros (length-set_in_spread_same m rmids clock own now counts shift kept widths) none
