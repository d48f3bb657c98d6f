-- The ways of a group's mask, and no others, hold the group's lines.
use Rattle.std.proofs.Common.{◌≡◌, ℕ, ◌%◌, ◌<◌, ◌≤◌, Bool, true, false, not, ◌==◌, nat_lt, List, [], ◌∷◌, length, Option, Some, None, refl, sym, ◌∙◌, ap, subst, inl, inr, arith}
use Rattle.std.specs.Prelude.{find, nat_eq}
use Rattle.std.specs.Cmp.Lexicographic.{pointwise, bytes_decides}
use Rattle.std.specs.List.{list_all}
use Rattle.std.proofs.lemmas.Bool.{cases_Bool, and_from, and_parts, eqb-true, eq-eqb, false_from_ne_true, true≢false, lt-ltb, ltb-true, not_from_false}
use Rattle.cbm.specs.Masks.{overlaps}
use Rattle.cbm.proofs.laws.Overlaps.{has_way-apart}
use Rattle.cache_core.specs.declared.entry.What.{What}
use Rattle.cache_core.specs.declared.entry.What.TheVariants.{Access, Raise, Flush, Lock, Look, Drop}
use Rattle.cache_core.specs.declared.entry.SliceEntry.{SliceEntry}
use Rattle.cache_core.specs.Fills.{IsOutcome}
use Rattle.cache_core.specs.History.{Shape, held, used, MayHappen}
use Rattle.private_lru.specs.Covered.{is_other_use, is_use, uses_line}
use Rattle.policy_law.specs.Policies.{CacheSet, HeldLine, way_of, set_after, is_empty, fill_way, after_access, after_drop, has_way as has}
use Rattle.policy_law.specs.Policies.Event.{Access as Accessed}
use Rattle.policy_law.specs.Isolation.{is_apart, keeps_apart}
use Rattle.policy_law.specs.KnownPolicies.{Stamps, lru, some_or}
use Rattle.policy_law.proofs.laws.Masks.{has_way-front, has_way-rest}
use Rattle.policy_law.proofs.laws.Places.{AreOwned, AreOwned-filter, has_way-filled, has_way-way_of, has_way-apart as has_way-apart_ways}
use Rattle.policy_law.proofs.laws.Stamped.{has_way-victim}
use Rattle.policy_law.specs.SliceIsolation.{LeavesWays}
use Rattle.policy_law.specs.SliceSets.{event_in, ways_in}
use Rattle.policy_law.proofs.Fills.{has-ways_in, ways_in-has, length-ways, some_or-some}
use Rattle.policy_law.proofs.SetEntries.{IsSetOf}

-- ---- after an event

-- an access of the group
AreOwned-own : (m : List ℕ) (own : ℕ → Bool) (x : ℕ) (c : CacheSet Stamps) (o : Option ℕ) → own x ≡ true → 0 < length m → AreOwned m own c.places → AreOwned m own (after_access lru m x c o).places
AreOwned-own m own x c (Some w) mine some owned = owned
AreOwned-own m own x c None mine some owned =
    (has_way-filled lru m c has_way-victim some (find (is_empty c.places) m) refl ∙ sym mine, AreOwned-filter m own (λ (r : HeldLine). not (r.way == fill_way lru m c)) c.places owned)

-- an access of another
pub AreOwned-other : (m its : List ℕ) (own : ℕ → Bool) (x : ℕ) (c : CacheSet Stamps) (o : Option ℕ) → own x ≡ false → is_apart m its ≡ true → AreOwned m own c.places → AreOwned m own (after_access lru its x c o).places
AreOwned-other m its own x c (Some w) foreign apart owned = owned
AreOwned-other m its own x c None foreign apart owned =
    let parts = and_parts (nat_lt 0 (length its)) (list_all (λ (w : ℕ). not (has m w)) its) apart in
    let away : has m (fill_way lru its c) ≡ false = has_way-apart_ways m its (fill_way lru its c) parts.1 (has_way-filled lru its c has_way-victim (ltb-true 0 (length its) parts.0) (find (is_empty c.places) its) refl) in
    (away ∙ sym foreign, AreOwned-filter m own (λ (r : HeldLine). not (r.way == fill_way lru its c)) c.places owned)

-- a drop
AreOwned-drop : (m : List ℕ) (own : ℕ → Bool) (x : ℕ) (c : CacheSet Stamps) (o : Option ℕ) → AreOwned m own c.places → AreOwned m own (after_drop lru x c o).places
AreOwned-drop m own x c None owned = owned
AreOwned-drop m own x c (Some w) owned = AreOwned-filter m own (λ (r : HeldLine). not (r.line == x)) c.places owned

-- ---- masks

-- a test that each way passes
pub list_all-each : (p : ℕ → Bool) (ways : List ℕ) → ((v : ℕ) → has ways v ≡ true → p v ≡ true) → list_all p ways ≡ true
list_all-each p [] all = refl
list_all-each p (w ∷ ws) all = and_from (p w) (list_all p ws) (all w (has_way-front w ws)) (list_all-each p ws (λ v h. all v (has_way-rest w v ws h)))

-- a way of one of two masks that have none in common
pub has-ways_apart : (ways mask its v : ℕ) → ways ≤ 64 → overlaps its mask ≡ false → has (ways_in ways its) v ≡ true → has (ways_in ways mask) v ≡ false
has-ways_apart ways mask its v narrow apart h =
    let there = ways_in-has ways its v h in
    false_from_ne_true (has (ways_in ways mask) v) (λ k. true≢false (sym (ways_in-has ways mask v k).1 ∙ has_way-apart its mask v apart (let l : v < ways = there.0 in omega arith) there.1))

-- masks with no way in common
is_apart-ways : (ways mask its : ℕ) → ways ≤ 64 → overlaps its mask ≡ false → 0 < length (ways_in ways its) → is_apart (ways_in ways mask) (ways_in ways its) ≡ true
is_apart-ways ways mask its narrow apart some =
    and_from (nat_lt 0 (length (ways_in ways its))) (list_all (λ (w : ℕ). not (has (ways_in ways mask) w)) (ways_in ways its)) (lt-ltb 0 (length (ways_in ways its)) some)
    (list_all-each (λ (w : ℕ). not (has (ways_in ways mask) w)) (ways_in ways its) (λ v h. not_from_false (has (ways_in ways mask) v) (has-ways_apart ways mask its v narrow apart h)))

-- a mask that is apart, or else a way that is
is_apart-some_or : (m ways : List ℕ) (way : ℕ) → (0 < length ways → is_apart m ways ≡ true) → ((0 < length ways → ⊥) → has m way ≡ false) → is_apart m (some_or ways (way ∷ [])) ≡ true
is_apart-some_or m [] way some none =
    let out : has m way ≡ false = none (λ (l : 0 < 0). omega arith) in
    rw out refl
is_apart-some_or m (w ∷ ws) way some none = some (omega arith)

-- ---- an access

-- the group's lines are in its ways, and an access that fills has a mask with that way
way-owned : (m : Shape) (history : List SliceEntry) (set its line way : ℕ) (hit : Bool) (own : ℕ → Bool) (ways : List ℕ) (c : CacheSet Stamps) → IsOutcome m.ways its (held m history set) (used m history set) line hit way
    → IsSetOf m history set c → AreOwned ways own c.places → (has (ways_in m.ways its) way ≡ false) → has ways way ≡ own line
way-owned m history set its line way true own ways c outcome is owned out = has_way-way_of ways own line way c.places owned (is.whole line way outcome.0 outcome.1)
way-owned m history set its line way false own ways c outcome is owned out = absurd (true≢false (sym (has-ways_in m.ways its way outcome.1.within outcome.1.allowed) ∙ out))

-- where the group makes an access, its mask has a way
pub length-mask : (m : Shape) (history : List SliceEntry) (set mask line way : ℕ) (hit : Bool) (own : ℕ → Bool) (c : CacheSet Stamps) → IsOutcome m.ways mask (held m history set) (used m history set) line hit way
    → IsSetOf m history set c → AreOwned (ways_in m.ways mask) own c.places → own line ≡ true → 0 < length (ways_in m.ways mask)
length-mask m history set mask line way hit own c outcome is owned mine = elim (cases_Bool (has (ways_in m.ways mask) way)) [
  | inl k ↦ length-ways (ways_in m.ways mask) way k
  | inr k ↦ length-ways (ways_in m.ways mask) way (way-owned m history set mask line way hit own (ways_in m.ways mask) c outcome is owned k ∙ mine)
]

-- what is known of an entry of the window
pub record IsReady (group mask : ℕ) (window : List SliceEntry) (what : What) : Type 0 where
  pub respects : LeavesWays group mask what
  pub uses : (x : ℕ) → is_use group x what ≡ true → uses_line group window x ≡ true

-- what it is to a set keeps apart, and leaves the group's lines in its ways
pub record Keeps (m : Shape) (group mask set : ℕ) (window : List SliceEntry) (what : What) (c : CacheSet Stamps) : Type 0 where
  pub apart : list_all (keeps_apart (ways_in m.ways mask) (uses_line group window)) (event_in m group set what) ≡ true
  pub owned : AreOwned (ways_in m.ways mask) (uses_line group window) (set_after lru c (event_in m group set what)).places

-- an access of the set
Keeps-access : (m : Shape) (group mask set : ℕ) (window history : List SliceEntry) (c : CacheSet Stamps) (hit : Bool) (way owner its line : ℕ) → m.ways ≤ 64 → (owner == group) ≡ true → its ≡ mask
    → uses_line group window line ≡ true → IsOutcome m.ways its (held m history set) (used m history set) line hit way → IsSetOf m history set c → AreOwned (ways_in m.ways mask) (uses_line group window) c.places
    → (keeps_apart (ways_in m.ways mask) (uses_line group window) (Accessed true (some_or (ways_in m.ways its) (way ∷ [])) line) ≡ true)
    × AreOwned (ways_in m.ways mask) (uses_line group window) (after_access lru (some_or (ways_in m.ways its) (way ∷ [])) line c (way_of line c.places)).places
Keeps-access m group mask set window history c hit way owner its line narrow o same mine outcome is owned =
    let some : 0 < length (ways_in m.ways mask) = length-mask m history set mask line way hit (uses_line group window) c (subst (λ k. IsOutcome m.ways k (held m history set) (used m history set) line hit way) same outcome) is owned mine in
    let ways : some_or (ways_in m.ways its) (way ∷ []) ≡ ways_in m.ways mask = ap (λ k. some_or (ways_in m.ways k) (way ∷ [])) same ∙ some_or-some (ways_in m.ways mask) (way ∷ []) some in
    let itself : pointwise nat_eq (ways_in m.ways mask) (ways_in m.ways mask) ≡ true = (bytes_decides (ways_in m.ways mask) (ways_in m.ways mask)).1 refl in (
      rw ways (rw (itself, mine) refl),
      subst (λ l. AreOwned (ways_in m.ways mask) (uses_line group window) (after_access lru l line c (way_of line c.places)).places) (sym ways) (AreOwned-own (ways_in m.ways mask) (uses_line group window) line c (way_of line c.places) mine some owned),
    )

-- and of another owner
Keeps-other : (m : Shape) (group mask set : ℕ) (window history : List SliceEntry) (c : CacheSet Stamps) (hit : Bool) (way its line : ℕ) → m.ways ≤ 64 → overlaps its mask ≡ false
    → uses_line group window line ≡ false → IsOutcome m.ways its (held m history set) (used m history set) line hit way → IsSetOf m history set c → AreOwned (ways_in m.ways mask) (uses_line group window) c.places
    → (keeps_apart (ways_in m.ways mask) (uses_line group window) (Accessed false (some_or (ways_in m.ways its) (way ∷ [])) line) ≡ true)
    × AreOwned (ways_in m.ways mask) (uses_line group window) (after_access lru (some_or (ways_in m.ways its) (way ∷ [])) line c (way_of line c.places)).places
Keeps-other m group mask set window history c hit way its line narrow apart foreign outcome is owned =
    let away : is_apart (ways_in m.ways mask) (some_or (ways_in m.ways its) (way ∷ [])) ≡ true = is_apart-some_or (ways_in m.ways mask) (ways_in m.ways its) way (is_apart-ways m.ways mask its narrow apart)
    (λ none. way-owned m history set its line way hit (uses_line group window) (ways_in m.ways mask) c outcome is owned (false_from_ne_true (has (ways_in m.ways its) way) (λ h. none (length-ways (ways_in m.ways its) way h))) ∙ foreign) in
    (rw (away, foreign) refl, AreOwned-other (ways_in m.ways mask) (some_or (ways_in m.ways its) (way ∷ [])) (uses_line group window) line c (way_of line c.places) foreign away owned)

-- any entry
pub Keeps-entry : (m : Shape) (group mask set : ℕ) (window history : List SliceEntry) (epoch : ℕ) (what : What) (c : CacheSet Stamps) → m.ways ≤ 64 → MayHappen m history epoch what → IsReady group mask window what
    → is_other_use group window what ≡ false → IsSetOf m history set c → AreOwned (ways_in m.ways mask) (uses_line group window) c.places → Keeps m group mask set window what c
Keeps-entry m group mask set window history epoch (Access hit way owner rmid its line) c narrow may ready other is owned = elim (cases_Bool (line % m.sets == set)) [
  | inr k ↦ record { apart = rw k refl; owned = rw k owned }
  | inl k ↦
      let outcome : IsOutcome m.ways its (held m history set) (used m history set) line hit way = subst (λ s. IsOutcome m.ways its (held m history s) (used m history s) line hit way) (eqb-true (line % m.sets) set k) may.1 in
      let respects : LeavesWays group mask (Access hit way owner rmid its line) = ready.respects in
      elim (cases_Bool (owner.0 == group)) [
        | inl o ↦
            let same : its ≡ mask = rw o at respects in
            let line_same : (line == line) ≡ true = eq-eqb line line refl in
            let mine : uses_line group window line ≡ true = ready.uses line (rw (o, line_same) refl) in
            let r = Keeps-access m group mask set window history c hit way owner.0 its line narrow o same mine outcome is owned in
            record { apart = rw k (rw o (and_from _ true r.0 refl)); owned = rw k r.1 }
        | inr o ↦
            let apart : overlaps its mask ≡ false = rw o at respects in
            let foreign : uses_line group window line ≡ false = rw o at other in
            let r = Keeps-other m group mask set window history c hit way its line narrow apart foreign outcome is owned in
            record { apart = rw k (rw o (and_from _ true r.0 refl)); owned = rw k r.1 }
      ]
]
Keeps-entry m group mask set window history epoch Raise c narrow may ready other is owned = record { apart = refl; owned = owned }
Keeps-entry m group mask set window history epoch Flush c narrow may ready other is owned = record { apart = refl; owned = owned }
Keeps-entry m group mask set window history epoch (Lock others first_line) c narrow may ready other is owned = absurd (let stays : true ≡ false = ready.respects in true≢false stays)
Keeps-entry m group mask set window history epoch (Look rmid lines) c narrow may ready other is owned = record { apart = refl; owned = owned }
Keeps-entry m group mask set window history epoch (Drop line at) c narrow may ready other is owned = elim (cases_Bool (line % m.sets == set)) [
  | inl k ↦ record { apart = rw k refl; owned = rw k (AreOwned-drop (ways_in m.ways mask) (uses_line group window) line c (way_of line c.places) owned) }
  | inr k ↦ record { apart = rw k refl; owned = rw k owned }
]
