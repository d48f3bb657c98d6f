-- The items of a private cache are a legal history of a slice with one set.
use Rattle.std.proofs.Common.{◌≡◌, ℕ, zero, suc, ◌+◌, ◌-◌, ◌%◌, ◌<◌, ◌≤◌, true, false, ◌==◌, List, [], ◌∷◌, ◌++◌, length, get_or, Option, Some, None, refl, sym, ◌∙◌, ap, subst, arith}
use Rattle.std.specs.Prelude.{is_some, unwrap_or}
use Rattle.std.specs.List.{list_any}
use Rattle.std.proofs.Math.Nat.{mod-one}
use Rattle.std.proofs.lemmas.Bool.{eq-eqb}
use Rattle.std.proofs.lemmas.Option.{none-some}
use Rattle.rc_base.specs.Follows.{GoesOn}
use Rattle.cache_core.specs.declared.entry.What.{What}
use Rattle.cache_core.specs.declared.entry.What.TheVariants.{Access, Flush, Drop}
use Rattle.cache_core.specs.declared.entry.SliceEntry.{SliceEntry}
use Rattle.cache_core.specs.Filled.{empties}
use Rattle.cache_core.specs.Fills.{IsOutcome, IsPlaceOf}
use Rattle.cache_core.specs.History.{Shape, held, used, floor_of, EntryMayFollow, MayHappen}
use Rattle.cache_core.specs.Stands.{entry}
use Rattle.cache_core.proofs.laws.Histories.{floor_of-push}
use Rattle.private_lru.specs.declared.item.Item.{Item}
use Rattle.private_lru.specs.declared.item.Item.TheVariants.{Use, Drop as Dropped}
use Rattle.private_lru.specs.Covered.{is_loaded_use, is_other_use}
use Rattle.private_lru.specs.Isolation.{Respects}
use Rattle.policy_law.specs.Policies.{CacheSet, way_of, after_event, set_after, fill_way}
use Rattle.policy_law.specs.Policies.Event.{Access as Accessed}
use Rattle.policy_law.specs.KnownPolicies.{Stamps, lru, some_or}
use Rattle.policy_law.specs.PrivateCaches.{event_of}
use Rattle.policy_law.specs.SliceSets.{ways_in, event_in}
use Rattle.policy_law.proofs.Fills.{some_or-some}
use Rattle.policy_law.proofs.Victims.{IsVictim-fill_way}
use Rattle.policy_law.proofs.SetEntries.{IsSetOf, IsSetOf-push}

-- a slice with one set
abbrev pub shape : ℕ → Shape
shape n = record { sets = 1; ways = n; slices = 1; slice = 0 }

-- what an item is as an entry of such a slice, by group 0, when this is the set
abbrev pub what_of : ℕ → ℕ → CacheSet Stamps → Item → What
what_of n mask c (Use x) = Access (is_some (way_of x c.places)) (unwrap_or (way_of x c.places) (fill_way lru (ways_in n mask) c)) (record { 0 = 0 }) 0 mask x
what_of n mask c (Dropped x) = Drop x (way_of x c.places)

-- the items as entries
abbrev pub entries_of : ℕ → ℕ → CacheSet Stamps → List Item → List SliceEntry
entries_of n mask c [] = []
entries_of n mask c (i ∷ is) = entry 0 0 0 (what_of n mask c i) ∷ entries_of n mask (after_event lru c (event_of (ways_in n mask) i)) is

-- each line is in the one set
set-one : (x : ℕ) → 0 ≡ x % 1
set-one x = sym (mod-one x)

-- a use may happen
MayHappen-use : (n mask x : ℕ) (history : List SliceEntry) (c : CacheSet Stamps) → 0 < length (ways_in n mask) → floor_of history ≤ 0 → IsSetOf (shape n) history 0 c → (o : Option ℕ) → way_of x c.places ≡ o
    → MayHappen (shape n) history 0 (Access (is_some o) (unwrap_or o (fill_way lru (ways_in n mask) c)) (record { 0 = 0 }) 0 mask x)
MayHappen-use n mask x history c some floor is (Some w) e =
    (floor, subst (λ set. IsOutcome n mask (held (shape n) history set) (used (shape n) history set) x true w) (set-one x) (is.sound x w e))
MayHappen-use n mask x history c some floor is None e =
    let outcome : IsOutcome n mask (held (shape n) history 0) (used (shape n) history 0) x false (fill_way lru (ways_in n mask) c) =
    (λ w l h. none-some w (sym e ∙ is.whole x w l h), IsVictim-fill_way n mask (held (shape n) history 0) (used (shape n) history 0) c is some) in
    (floor, subst (λ set. IsOutcome n mask (held (shape n) history set) (used (shape n) history set) x false (fill_way lru (ways_in n mask) c)) (set-one x) outcome)

-- and a drop
MayHappen-drop : (n x : ℕ) (history : List SliceEntry) (c : CacheSet Stamps) → floor_of history ≤ 0 → IsSetOf (shape n) history 0 c → (o : Option ℕ) → way_of x c.places ≡ o → MayHappen (shape n) history 0 (Drop x o)
MayHappen-drop n x history c floor is (Some w) e = (floor, subst (λ set. IsPlaceOf n (held (shape n) history set) x (Some w)) (set-one x) (is.sound x w e))
MayHappen-drop n x history c floor is None e =
    let place : IsPlaceOf n (held (shape n) history 0) x None = λ w l h. none-some w (sym e ∙ is.whole x w l h) in
    (floor, subst (λ set. IsPlaceOf n (held (shape n) history set) x None) (set-one x) place)

-- any item
MayHappen-item : (n mask : ℕ) (i : Item) (history : List SliceEntry) (c : CacheSet Stamps) → 0 < length (ways_in n mask) → floor_of history ≤ 0 → IsSetOf (shape n) history 0 c → MayHappen (shape n) history 0 (what_of n mask c i)
MayHappen-item n mask (Use x) history c some floor is = MayHappen-use n mask x history c some floor is (way_of x c.places) refl
MayHappen-item n mask (Dropped x) history c some floor is = MayHappen-drop n x history c floor is (way_of x c.places) refl

-- it empties nothing
empties-item : (n mask : ℕ) (i : Item) (c : CacheSet Stamps) → empties (what_of n mask c i) ≡ false
empties-item n mask (Use x) c = refl
empties-item n mask (Dropped x) c = refl

-- it sets no floor
floor-item : (n mask : ℕ) (i : Item) (history : List SliceEntry) (c : CacheSet Stamps) → floor_of history ≤ 0 → floor_of (history ++ entry 0 0 0 (what_of n mask c i) ∷ []) ≤ 0
floor-item n mask (Use x) history c floor = rw (floor_of-push history (entry 0 0 0 (what_of n mask c (Use x)))) (omega arith)
floor-item n mask (Dropped x) history c floor = rw (floor_of-push history (entry 0 0 0 (what_of n mask c (Dropped x)))) (omega arith)

-- it is its event
event_in-item : (n mask : ℕ) (i : Item) (c : CacheSet Stamps) → 0 < length (ways_in n mask) → event_in (shape n) 0 0 (what_of n mask c i) ≡ event_of (ways_in n mask) i ∷ []
event_in-item n mask (Use x) c some =
    let here : (x % 1 == 0) ≡ true = eq-eqb (x % 1) 0 (mod-one x) in
    let way : ℕ = unwrap_or (way_of x c.places) (fill_way lru (ways_in n mask) c) in
    let its : some_or (ways_in n mask) (way ∷ []) ≡ ways_in n mask = some_or-some (ways_in n mask) (way ∷ []) some in
    rw here (ap (λ l. Accessed true l x ∷ []) its)
event_in-item n mask (Dropped x) c some = let here : (x % 1 == 0) ≡ true = eq-eqb (x % 1) 0 (mod-one x) in rw here refl

-- the items are a legal history
pub GoesOn-items : (n mask : ℕ) (is : List Item) (history : List SliceEntry) (c : CacheSet Stamps) → 0 < length (ways_in n mask) → floor_of history ≤ 0 → IsSetOf (shape n) history 0 c → GoesOn (EntryMayFollow (shape n)) history (entries_of n mask c is)
GoesOn-items n mask [] history c some floor set = tt
GoesOn-items n mask (i ∷ is) history c some floor set =
    let may : MayHappen (shape n) history 0 (what_of n mask c i) = MayHappen-item n mask i history c some floor set in
    let next = IsSetOf-push (shape n) 0 0 history 0 0 0 (what_of n mask c i) c may (empties-item n mask i c) set in
    let next' : IsSetOf (shape n) (history ++ entry 0 0 0 (what_of n mask c i) ∷ []) 0 (after_event lru c (event_of (ways_in n mask) i)) =
    subst (λ es. IsSetOf (shape n) (history ++ entry 0 0 0 (what_of n mask c i) ∷ []) 0 (set_after lru c es)) (event_in-item n mask i c some) next in
    (may, GoesOn-items n mask is (history ++ entry 0 0 0 (what_of n mask c i) ∷ []) (after_event lru c (event_of (ways_in n mask) i)) some (floor-item n mask i history c floor) next')

-- each leaves the ways to the group
pub Respects-items : (n mask : ℕ) (is : List Item) (c : CacheSet Stamps) (k : ℕ) (d : SliceEntry) → k < length (entries_of n mask c is) → Respects 0 mask (get_or (entries_of n mask c is) k d).what
Respects-items n mask [] c k d l = absurd (omega arith)
Respects-items n mask (Use x ∷ is) c zero d l = refl
Respects-items n mask (Dropped x ∷ is) c zero d l = refl
Respects-items n mask (i ∷ is) c (suc k) d l = Respects-items n mask is (after_event lru c (event_of (ways_in n mask) i)) k d (omega arith)

-- no line was loaded
pub loaded-items : (n mask : ℕ) (is : List Item) (c : CacheSet Stamps) → list_any (λ (e : SliceEntry). is_loaded_use 1 0 Flush e.what) (entries_of n mask c is) ≡ false
loaded-items n mask [] c = refl
loaded-items n mask (Use x ∷ is) c = loaded-items n mask is (after_event lru c (event_of (ways_in n mask) (Use x)))
loaded-items n mask (Dropped x ∷ is) c = loaded-items n mask is (after_event lru c (event_of (ways_in n mask) (Dropped x)))

-- nobody else uses one
pub other-items : (n mask : ℕ) (window : List SliceEntry) (is : List Item) (c : CacheSet Stamps) → list_any (λ (e : SliceEntry). is_other_use 0 window e.what) (entries_of n mask c is) ≡ false
other-items n mask window [] c = refl
other-items n mask window (Use x ∷ is) c = other-items n mask window is (after_event lru c (event_of (ways_in n mask) (Use x)))
other-items n mask window (Dropped x ∷ is) c = other-items n mask window is (after_event lru c (event_of (ways_in n mask) (Dropped x)))
