-- The law of one slice, from the law of policies: the group's private set sees what its private cache does.
use Rattle.std.proofs.Common.{◌≡◌, ℕ, ◌+◌, ◌*◌, ◌%◌, ◌^◌, ◌<◌, ◌≤◌, Bool, true, false, ◌==◌, List, [], ◌∷◌, ◌++◌, length, map, take, get_or, None, refl, sym, ◌∙◌, ap, subst, inl, inr, arith}
use Rattle.std.specs.Prelude.{is_some}
use Rattle.std.specs.List.{All}
use Rattle.std.proofs.lemmas.Bool.{cases_Bool, eq-eqb, true≢false}
use Rattle.std.proofs.lemmas.List.Folds.{list_any_at}
use Rattle.cbm.specs.Masks.{ways_of}
use Rattle.cache_core.specs.declared.entry.What.{What}
use Rattle.cache_core.specs.declared.entry.What.TheVariants.{Access, Raise, Flush, Lock, Look, Drop}
use Rattle.cache_core.specs.declared.entry.SliceEntry.{SliceEntry}
use Rattle.cache_core.specs.History.{Shape, ways_below}
use Rattle.private_lru.specs.declared.item.Item.{Item}
use Rattle.private_lru.specs.Covered.{is_use, item_of, items, uses_line}
use Rattle.private_lru.specs.Isolation.{HitsAsPrivate, Opens, Respects, between}
use Rattle.private_lru.specs.SliceLaws.{SliceIsolation}
use Rattle.policy_law.specs.Policies.{CacheSet, Event, way_of, set_after, empty_set, after_access}
use Rattle.policy_law.specs.Policies.Event.{Access as Accessed, Drop as Dropped}
use Rattle.policy_law.specs.Isolation.{private_events}
use Rattle.policy_law.specs.KnownPolicies.{Stamps, lru, some_or}
use Rattle.policy_law.specs.PrivateCaches.{event_of}
use Rattle.policy_law.specs.SliceIsolation.{HitsAsAlone, LeavesWays, OpensFor}
use Rattle.policy_law.specs.SliceSets.{event_in, events_in, ways_in}
use Rattle.policy_law.proofs.Fills.{some_or-some}
use Rattle.policy_law.proofs.Groups.{AreReady, AreReady-each, HitsAsAlone-between}
use Rattle.policy_law.proofs.Owned.{IsReady}
use Rattle.policy_law.proofs.PrivateSets.{private_hit-lru}
use Rattle.policy_law.proofs.Windows.{All-take, set_after-append}
use Rattle.policy_law.proofs.OwnLines.{AreOwn, AreOwn-access, AreOwn-drop, way_of-foreign}

-- what a private cache sees of two lists
private_events-append : (es fs : List Event) → private_events (es ++ fs) ≡ private_events es ++ private_events fs
private_events-append [] fs = refl
private_events-append (Accessed true its y ∷ es) fs = ap (λ l. Accessed true its y ∷ l) (private_events-append es fs)
private_events-append (Accessed false its y ∷ es) fs = private_events-append es fs
private_events-append (Dropped y ∷ es) fs = ap (λ l. Dropped y ∷ l) (private_events-append es fs)

-- of others' fills it sees nothing
private_events-fills : (f : ℕ → ℕ) (ways : List ℕ) → private_events (map (λ w. Accessed false (w ∷ []) (f w)) ways) ≡ []
private_events-fills f [] = refl
private_events-fills f (w ∷ ws) = private_events-fills f ws

-- nor of the opening of a window
private_events-opening : (m : Shape) (group set mask : ℕ) (what : What) → OpensFor mask what → private_events (event_in m group set what) ≡ []
private_events-opening m group set mask Flush opens = refl
private_events-opening m group set mask (Lock others first_line) opens = private_events-fills (λ w. first_line + set + ways_below others w * m.sets) (ways_in m.ways others)
private_events-opening m group set mask (Access hit way owner rmid its line) opens = absurd opens
private_events-opening m group set mask Raise opens = absurd opens
private_events-opening m group set mask (Look rmid lines) opens = absurd opens
private_events-opening m group set mask (Drop line at) opens = absurd opens

-- what one entry leaves of a set of the group's lines
record IsSeen (m : Shape) (group mask set : ℕ) (own : ℕ → Bool) (what : What) (d : CacheSet Stamps) : Type 0 where
  same : set_after lru d (private_events (event_in m group set what)) ≡ set_after lru d (map (event_of (ways_in m.ways mask)) (item_of m.sets group set own what))
  owned : AreOwn own (set_after lru d (private_events (event_in m group set what))).places

-- each entry of the window is to the private set what it is to the private cache
IsSeen-entry : (m : Shape) (group mask set : ℕ) (window : List SliceEntry) (what : What) (d : CacheSet Stamps) → 0 < length (ways_in m.ways mask) → IsReady group mask window what → AreOwn (uses_line group window) d.places
    → IsSeen m group mask set (uses_line group window) what d
IsSeen-entry m group mask set window (Access hit way owner rmid its line) d some ready h = elim (cases_Bool (line % m.sets == set)) [
  | inr k ↦ elim (cases_Bool (owner.0 == group)) [
    | inl o ↦ record { same = rw (k, o) refl; owned = rw k h }
    | inr o ↦ record { same = rw (k, o) refl; owned = rw k h }
  ]
  | inl k ↦
      let respects : LeavesWays group mask (Access hit way owner rmid its line) = ready.respects in
      elim (cases_Bool (owner.0 == group)) [
        | inl o ↦
            let same_mask : its ≡ mask = rw o at respects in
            let line_same : (line == line) ≡ true = eq-eqb line line refl in
            let mine : uses_line group window line ≡ true = ready.uses line (rw (o, line_same) refl) in
            let ways : some_or (ways_in m.ways its) (way ∷ []) ≡ ways_in m.ways mask = ap (λ l. some_or (ways_in m.ways l) (way ∷ [])) same_mask ∙ some_or-some (ways_in m.ways mask) (way ∷ []) some in
            record {
              same = rw k (rw o (ap (λ l. after_access lru l line d (way_of line d.places)) ways));
              owned = rw k (rw o (AreOwn-access (uses_line group window) (some_or (ways_in m.ways its) (way ∷ [])) line d (way_of line d.places) mine h));
            }
        | inr o ↦ record { same = rw k (rw o refl); owned = rw k (rw o h) }
      ]
]
IsSeen-entry m group mask set window Raise d some ready h = record { same = refl; owned = h }
IsSeen-entry m group mask set window Flush d some ready h = record { same = refl; owned = h }
IsSeen-entry m group mask set window (Lock others first_line) d some ready h = let stays : true ≡ false = ready.respects in absurd (true≢false stays)
IsSeen-entry m group mask set window (Look rmid lines) d some ready h = record { same = refl; owned = h }
IsSeen-entry m group mask set window (Drop line at) d some ready h = elim (cases_Bool (line % m.sets == set)) [
  | inr k ↦ elim (cases_Bool (uses_line group window line)) [
    | inl o ↦ record { same = rw (k, o) refl; owned = rw k h }
    | inr o ↦ record { same = rw (k, o) refl; owned = rw k h }
  ]
  | inl k ↦ elim (cases_Bool (uses_line group window line)) [
    | inl o ↦ record { same = rw k (rw o refl); owned = rw k (AreOwn-drop (uses_line group window) line d (way_of line d.places) h) }
    | inr o ↦
        let none : way_of line d.places ≡ None = way_of-foreign (uses_line group window) line d.places h o in
        record { same = rw k (rw o (rw none refl)); owned = rw k (AreOwn-drop (uses_line group window) line d (way_of line d.places) h) }
  ]
]

-- a map of two lists
map-append : (f : Item → Event) (xs ys : List Item) → map f (xs ++ ys) ≡ map f xs ++ map f ys
map-append f [] ys = refl
map-append f (x ∷ xs) ys = ap (λ l. f x ∷ l) (map-append f xs ys)

-- and so do all
set_after-seen : (m : Shape) (group mask set : ℕ) (window entries : List SliceEntry) (d : CacheSet Stamps) → 0 < length (ways_in m.ways mask) → AreReady group mask window entries → AreOwn (uses_line group window) d.places
    → set_after lru d (private_events (events_in m group set entries)) ≡ set_after lru d (map (event_of (ways_in m.ways mask)) (items m.sets group set (uses_line group window) entries))
set_after-seen m group mask set window [] d some ready h = refl
set_after-seen m group mask set window (e ∷ es) d some ready h =
    let own : ℕ → Bool = uses_line group window in
    let f : Item → Event = event_of (ways_in m.ways mask) in
    let here = IsSeen-entry m group mask set window e.what d some ready.0 h in
    let next : CacheSet Stamps = set_after lru d (private_events (event_in m group set e.what)) in
    let rest = set_after-seen m group mask set window es next some ready.1 here.owned in
    ap (set_after lru d) (private_events-append (event_in m group set e.what) (events_in m group set es))
    ∙ (set_after-append d (private_events (event_in m group set e.what)) (private_events (events_in m group set es))
    ∙ (rest ∙ (ap (λ c. set_after lru c (map f (items m.sets group set own es))) here.same
    ∙ (sym (set_after-append d (map f (item_of m.sets group set own e.what)) (map f (items m.sets group set own es)))
    ∙ ap (set_after lru d) (sym (map-append f (item_of m.sets group set own e.what) (items m.sets group set own es)))))))

-- a clock with no stamps yet
abbrev start : Stamps
start = record { clock = 1; stamp = λ w. 0 }

-- the access itself
HitsAsPrivate-at : (m : Shape) (group mask : ℕ) (window front : List SliceEntry) (opening : SliceEntry) (what : What) → m.ways ≤ 64 → mask < 2 ^ m.ways → OpensFor mask opening.what → AreReady group mask window front → IsReady group mask window what
    → HitsAsAlone m group start (opening ∷ front) what → HitsAsPrivate m.sets group (uses_line group window) (length (ways_of mask)) front what
HitsAsPrivate-at m group mask window front opening (Access hit way owner rmid its line) narrow small opens ready here alone = λ o.
    let own : ℕ → Bool = uses_line group window in
    let set : ℕ = line % m.sets in
    let respects : LeavesWays group mask (Access hit way owner rmid its line) = here.respects in
    let same_mask : its ≡ mask = rw o at respects in
    let h = alone o in
    let some : 0 < length (ways_in m.ways mask) = subst (λ l. 0 < length (ways_in m.ways l)) same_mask h.0 in
    let seen : private_events (events_in m group set (opening ∷ front)) ≡ private_events (events_in m group set front) =
    private_events-append (event_in m group set opening.what) (events_in m group set front) ∙ ap (λ l. l ++ private_events (events_in m group set front)) (private_events-opening m group set mask opening.what opens) in
    let sets : set_after lru (empty_set start) (private_events (events_in m group set (opening ∷ front))) ≡ set_after lru (empty_set start) (map (event_of (ways_in m.ways mask)) (items m.sets group set own front)) =
    ap (set_after lru (empty_set start)) seen ∙ set_after-seen m group mask set window front (empty_set start) some ready refl in
    h.1 ∙ (ap (λ (c : CacheSet Stamps). is_some (way_of line c.places)) sets ∙ sym (private_hit-lru m.ways mask start (items m.sets group set own front) line narrow small some (λ w. omega arith)))
HitsAsPrivate-at m group mask window front opening Raise narrow small opens ready here alone = tt
HitsAsPrivate-at m group mask window front opening Flush narrow small opens ready here alone = tt
HitsAsPrivate-at m group mask window front opening (Lock others first_line) narrow small opens ready here alone = tt
HitsAsPrivate-at m group mask window front opening (Look rmid lines) narrow small opens ready here alone = tt
HitsAsPrivate-at m group mask window front opening (Drop line at) narrow small opens ready here alone = tt

-- the same is asked of the entries
OpensFor-Opens : (mask : ℕ) (what : What) → Opens mask what → OpensFor mask what
OpensFor-Opens mask Flush opens = tt
OpensFor-Opens mask (Lock others first_line) opens = opens
OpensFor-Opens mask (Access hit way owner rmid its line) opens = absurd opens
OpensFor-Opens mask Raise opens = absurd opens
OpensFor-Opens mask (Look rmid lines) opens = absurd opens
OpensFor-Opens mask (Drop line at) opens = absurd opens

LeavesWays-Respects : (group mask : ℕ) (what : What) → Respects group mask what → LeavesWays group mask what
LeavesWays-Respects group mask (Access hit way owner rmid its line) respects = respects
LeavesWays-Respects group mask Raise respects = respects
LeavesWays-Respects group mask Flush respects = respects
LeavesWays-Respects group mask (Lock others first_line) respects = respects
LeavesWays-Respects group mask (Look rmid lines) respects = respects
LeavesWays-Respects group mask (Drop line at) respects = respects

-- the law of one slice
pub IsIsolated-policies : SliceIsolation
IsIsolated-policies m entries from to group mask opening some narrow small legal less most read opens respects = λ at e inside covered.
    let window : List SliceEntry = between entries from to in
    let opens_for : OpensFor mask opening.what = OpensFor-Opens mask opening.what opens in
    let leaves : All (λ (i : SliceEntry). LeavesWays group mask i.what) window = λ k d l. LeavesWays-Respects group mask (get_or window k d).what (respects k d l) in
    let ready : All (λ (i : SliceEntry). IsReady group mask window i.what) window = λ k d l. record {
      respects = leaves k d l;
      uses = λ x h. list_any_at (λ (i : SliceEntry). is_use group x i.what) window k d l h;
    } in
    HitsAsPrivate-at m group mask window (take at window) opening (get_or window at e).what narrow small opens_for
    (AreReady-each group mask window (take at window) (All-take (λ (i : SliceEntry). IsReady group mask window i.what) at window ready inside)) (ready at e inside)
    (HitsAsAlone-between m entries from to group mask opening start some narrow legal less most read opens_for leaves (λ w. omega arith) at e inside covered)
