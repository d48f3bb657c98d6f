-- What the opening of a window is to a set of a group.
use Rattle.std.proofs.Common.{◌≡◌, ℕ, zero, suc, ◌+◌, ◌-◌, ◌*◌, ◌<◌, ◌≤◌, Bool, true, false, cond, not, ◌==◌, List, [], ◌∷◌, length, refl, ◌∙◌, ap, inl, inr, arith}
use Rattle.std.specs.Prelude.{filter}
use Rattle.std.specs.List.{list_any, list_all, range_with_len}
use Rattle.std.proofs.lemmas.Bool.{cases_Bool, and_from, or_parts, eqb-true, not_from_false, true≢false, le-leb, lt-ltb}
use Rattle.cbm.specs.Masks.{has_way, ways_of}
use Rattle.cache_core.specs.declared.entry.What.{What}
use Rattle.cache_core.specs.declared.entry.What.TheVariants.{Access, Raise, Flush, Lock, Look, Drop}
use Rattle.cache_core.specs.declared.entry.SliceEntry.{SliceEntry}
use Rattle.cache_core.specs.Filled.{empties}
use Rattle.cache_core.specs.History.{Shape, ways_below}
use Rattle.cache_core.proofs.laws.WaysBelow.{ways_below-lt}
use Rattle.lists.specs.Sums.{one_if}
use Rattle.private_lru.specs.Covered.{is_loaded_use, is_use, loads, uses_line}
use Rattle.policy_law.specs.Policies.{CacheSet, way_of, set_after, empty_set, after_access, has_way as has}
use Rattle.policy_law.specs.Policies.Event.{Access as Accessed}
use Rattle.policy_law.specs.Isolation.{is_apart, keeps_apart}
use Rattle.policy_law.specs.KnownPolicies.{Stamps, lru}
use Rattle.policy_law.proofs.laws.Masks.{has_way-front, has_way-rest}
use Rattle.policy_law.proofs.laws.Places.{AreOwned}
use Rattle.policy_law.specs.SliceIsolation.{OpensFor}
use Rattle.policy_law.specs.SliceSets.{ways_in}
use Rattle.policy_law.proofs.Fills.{ways_in-has}
use Rattle.policy_law.proofs.Loads.{fills, line_in}
use Rattle.policy_law.proofs.Owned.{AreOwned-other, Keeps, has-ways_apart}

-- as many ways of a mask are below a place as it has there
ways_below-length : (mask a k : ℕ) → ways_below mask (a + k) ≡ ways_below mask a + length (filter (has_way mask) (range_with_len a k))
ways_below-length mask a zero = let same : a + 0 ≡ a = omega arith in ap (ways_below mask) same ∙ omega arith
ways_below-length mask a (suc k) =
    let same : a + suc k ≡ (a + 1) + k = omega arith in
    let next : a + 1 ≡ suc a = omega arith in
    let rest = ways_below-length mask (a + 1) k in
    let first : ways_below mask (a + 1) ≡ ways_below mask a + one_if (has_way mask a) = ap (ways_below mask) next in
    ap (ways_below mask) same ∙ (rest ∙ at (has_way mask a) first)
  where
    at : (b : Bool) → ways_below mask (a + 1) ≡ ways_below mask a + one_if b
        → ways_below mask (a + 1) + length (filter (has_way mask) (range_with_len (a + 1) k)) ≡ ways_below mask a + length (cond b (a ∷ filter (has_way mask) (range_with_len (a + 1) k)) (filter (has_way mask) (range_with_len (a + 1) k)))
    at true e = omega arith
    at false e = omega arith

-- a line that a lock puts into a way of the cache is one of the region
loads-line_in : (m : Shape) (mask first_line set way : ℕ) → m.ways ≤ 64 → set < m.sets → way < m.ways → has_way mask way ≡ true → loads m.sets (Lock mask first_line) (line_in m mask first_line set way) ≡ true
unfolding ways_of
loads-line_in m mask first_line set way narrow inside within has =
    let less : ways_below mask way < ways_below mask 64 = ways_below-lt mask way 64 (omega arith) has in
    let whole : ways_below mask 64 ≡ length (filter (has_way mask) (range_with_len 0 64)) = ways_below-length mask 0 64 ∙ omega arith in
    let n : ℕ = length (filter (has_way mask) (range_with_len 0 64)) in
    let rest : ℕ = n - (ways_below mask way + 1) in
    let more : n ≡ ways_below mask way + 1 + rest = omega arith in
    let product : m.sets * n ≡ ways_below mask way * m.sets + m.sets + m.sets * rest = ap (λ k. m.sets * k) more ∙ grind arith in
    rw (le-leb first_line (line_in m mask first_line set way) (omega arith), lt-ltb (line_in m mask first_line set way) (first_line + m.sets * n) (omega arith)) refl

-- the group uses no line that the opening loads
uses_line-loaded : (sets group : ℕ) (opening : What) (x : ℕ) (window : List SliceEntry) → loads sets opening x ≡ true → list_any (λ (e : SliceEntry). is_loaded_use sets group opening e.what) window ≡ false → uses_line group window x ≡ false
uses_line-loaded sets group opening x [] loaded none = refl
uses_line-loaded sets group opening x (e ∷ es) loaded none =
    let parts = or_parts (is_loaded_use sets group opening e.what) (list_any (λ (i : SliceEntry). is_loaded_use sets group opening i.what) es) none in
    let here : is_use group x e.what ≡ false = at e.what parts.0 in
    rw here (uses_line-loaded sets group opening x es loaded parts.1)
  where
    at : (what : What) → is_loaded_use sets group opening what ≡ false → is_use group x what ≡ false
    at (Access hit way owner rmid mask line) fails = elim (cases_Bool (owner.0 == group)) [
      | inr o ↦ rw o refl
      | inl o ↦ elim (cases_Bool (line == x)) [
        | inr k ↦ rw (o, k) refl
        | inl k ↦
            let loads_it : loads sets opening line ≡ true = ap (loads sets opening) (eqb-true line x k) ∙ loaded in
            let wrong : true ≡ false = rw (o, loads_it) at fails in absurd (true≢false wrong)
      ]
    ]
    at Raise fails = refl
    at Flush fails = refl
    at (Lock mask first_line) fails = refl
    at (Look rmid lines) fails = refl
    at (Drop line place) fails = refl

-- fills of others' ways with others' lines
Keeps-fills : (m : Shape) (mask first_line set : ℕ) (group_ways : List ℕ) (own : ℕ → Bool) (ways : List ℕ) (c : CacheSet Stamps)
    → ((w : ℕ) → has ways w ≡ true → (has group_ways w ≡ false) × (own (line_in m mask first_line set w) ≡ false)) → AreOwned group_ways own c.places
    → (list_all (keeps_apart group_ways own) (fills m mask first_line set ways) ≡ true) × AreOwned group_ways own (set_after lru c (fills m mask first_line set ways)).places
Keeps-fills m mask first_line set group_ways own [] c others owned = (refl, owned)
Keeps-fills m mask first_line set group_ways own (w ∷ ws) c others owned =
    let x : ℕ = line_in m mask first_line set w in
    let here = others w (has_way-front w ws) in
    let apart : is_apart group_ways (w ∷ []) ≡ true = rw here.0 refl in
    let rest = Keeps-fills m mask first_line set group_ways own ws (after_access lru (w ∷ []) x c (way_of x c.places)) (λ v h. others v (has_way-rest w v ws h))
    (AreOwned-other group_ways (w ∷ []) own x c (way_of x c.places) here.1 apart owned) in
    (and_from (keeps_apart group_ways own (Accessed false (w ∷ []) x)) _ (and_from (is_apart group_ways (w ∷ [])) (not (own x)) apart (not_from_false (own x) here.1)) rest.0, rest.1)

-- what the opening is to a set
pub Keeps-opening : (m : Shape) (group mask set : ℕ) (window : List SliceEntry) (what : What) (s : Stamps) → m.ways ≤ 64 → set < m.sets → OpensFor mask what
    → list_any (λ (e : SliceEntry). is_loaded_use m.sets group what e.what) window ≡ false → Keeps m group mask set window what (empty_set s)
Keeps-opening m group mask set window Flush s narrow inside opens none = record { apart = refl; owned = tt }
Keeps-opening m group mask set window (Lock others first_line) s narrow inside opens none =
    let r = Keeps-fills m others first_line set (ways_in m.ways mask) (uses_line group window) (ways_in m.ways others) (empty_set s)
    (λ w h. let p = ways_in-has m.ways others w h in (
      has-ways_apart m.ways mask others w narrow opens h,
      uses_line-loaded m.sets group (Lock others first_line) (line_in m others first_line set w) window (loads-line_in m others first_line set w narrow inside p.0 p.1) none,
    )) tt in
    record { apart = r.0; owned = r.1 }
Keeps-opening m group mask set window (Access hit way owner rmid its line) s narrow inside opens none = absurd opens
Keeps-opening m group mask set window Raise s narrow inside opens none = absurd opens
Keeps-opening m group mask set window (Look rmid lines) s narrow inside opens none = absurd opens
Keeps-opening m group mask set window (Drop line at) s narrow inside opens none = absurd opens

-- it empties the slice
pub empties-OpensFor : (mask : ℕ) (what : What) → OpensFor mask what → empties what ≡ true
empties-OpensFor mask Flush opens = refl
empties-OpensFor mask (Lock others first_line) opens = refl
empties-OpensFor mask (Access hit way owner rmid its line) opens = absurd opens
empties-OpensFor mask Raise opens = absurd opens
empties-OpensFor mask (Look rmid lines) opens = absurd opens
empties-OpensFor mask (Drop line at) opens = absurd opens
