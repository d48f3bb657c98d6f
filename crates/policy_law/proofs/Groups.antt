-- The window of a group in a slice: from the law of policies its accesses hit as it would alone.
use Rattle.std.proofs.Common.{◌≡◌, ℕ, suc, ◌+◌, ◌-◌, ◌%◌, ◌<◌, ◌≤◌, Bool, true, false, not, ◌==◌, List, [], ◌∷◌, ◌++◌, length, take, get_or, refl, sym, ◌∙◌, subst, arith}
use Rattle.std.specs.List.{All, list_any, list_all}
use Rattle.std.proofs.Math.Nat.{mod-lt}
use Rattle.std.proofs.lemmas.Bool.{and_parts, or_parts, eq-eqb, not-true}
use Rattle.std.proofs.lemmas.List.Folds.{list_any_at}
use Rattle.rc_base.specs.Follows.{GoesOn}
use Rattle.cache_core.specs.declared.entry.What.{What}
use Rattle.cache_core.specs.declared.entry.What.TheVariants.{Access, Raise, Flush, Lock, Look, Drop}
use Rattle.cache_core.specs.declared.entry.SliceEntry.{SliceEntry}
use Rattle.cache_core.specs.Filled.{empties}
use Rattle.cache_core.specs.History.{Shape, EntryMayFollow, MayHappen}
use Rattle.private_lru.specs.Covered.{is_loaded_use, is_other_use, is_use, uses_line}
use Rattle.private_lru.specs.Isolation.{between}
use Rattle.policy_law.specs.Policies.{CacheSet, set_after, empty_set}
use Rattle.policy_law.specs.Isolation.{IsIsolated, keeps_apart}
use Rattle.policy_law.specs.KnownPolicies.{Stamps, lru}
use Rattle.policy_law.proofs.laws.Places.{AreOwned}
use Rattle.policy_law.proofs.laws.Stamped.{IsIsolated-stamps}
use Rattle.policy_law.specs.SliceIsolation.{HitsAsAlone, LeavesWays, SlicesIsolate}
use Rattle.policy_law.specs.SliceSets.{HitsAsLru, event_in, events_in, ways_in}
use Rattle.policy_law.proofs.LastAccess.{is_some-isolated, list_all-append}
use Rattle.policy_law.proofs.Owned.{IsReady, Keeps-entry, length-mask}
use Rattle.policy_law.proofs.Windows.{All-take, GoesOn-at, GoesOn-between, HitsAsLru-between, IsSetOf-opened, IsSetOf-window, NoneEmpties-each, set_after-append}
use Rattle.policy_law.proofs.SetEntries.{IsSetOf, IsSetOf-push}
use Rattle.policy_law.proofs.Openings.{Keeps-opening, empties-OpensFor}

-- an entry that leaves the ways to the group empties nothing
empties-LeavesWays : (group mask : ℕ) (what : What) → LeavesWays group mask what → empties what ≡ false
empties-LeavesWays group mask (Access hit way owner rmid its line) respects = refl
empties-LeavesWays group mask Raise respects = respects
empties-LeavesWays group mask Flush respects = respects
empties-LeavesWays group mask (Lock others first_line) respects = respects
empties-LeavesWays group mask (Look rmid lines) respects = respects
empties-LeavesWays group mask (Drop line at) respects = respects

-- what is known of each entry
abbrev pub AreReady : ℕ → ℕ → List SliceEntry → List SliceEntry → Type 0
AreReady group mask window [] = Unit {0}
AreReady group mask window (e ∷ es) = IsReady group mask window e.what × AreReady group mask window es

-- each by its place
pub AreReady-each : (group mask : ℕ) (window entries : List SliceEntry) → ((k : ℕ) (d : SliceEntry) → k < length entries → IsReady group mask window (get_or entries k d).what) → AreReady group mask window entries
AreReady-each group mask window [] h = tt
AreReady-each group mask window (e ∷ es) h = (h 0 e (omega arith), AreReady-each group mask window es (λ k d l. h (suc k) d (omega arith)))

-- all of them keep apart
Keeps-entries : (m : Shape) (group mask set : ℕ) (window history entries : List SliceEntry) (c : CacheSet Stamps) → m.ways ≤ 64 → GoesOn (EntryMayFollow m) history entries → AreReady group mask window entries
    → list_any (λ (e : SliceEntry). is_other_use group window e.what) entries ≡ false → IsSetOf m history set c → AreOwned (ways_in m.ways mask) (uses_line group window) c.places
    → (list_all (keeps_apart (ways_in m.ways mask) (uses_line group window)) (events_in m group set entries) ≡ true)
    × AreOwned (ways_in m.ways mask) (uses_line group window) (set_after lru c (events_in m group set entries)).places
Keeps-entries m group mask set window history [] c narrow goes ready none is owned = (refl, owned)
Keeps-entries m group mask set window history (e ∷ es) c narrow goes ready none is owned =
    let own : ℕ → Bool = uses_line group window in
    let parts = or_parts (is_other_use group window e.what) (list_any (λ (i : SliceEntry). is_other_use group window i.what) es) none in
    let here = Keeps-entry m group mask set window history e.epoch e.what c narrow goes.0 ready.0 parts.0 is owned in
    let next : IsSetOf m (history ++ e ∷ []) set (set_after lru c (event_in m group set e.what)) = IsSetOf-push m group set history e.thread e.op e.epoch e.what c goes.0 (empties-LeavesWays group mask e.what ready.0.respects) is in
    let rest = Keeps-entries m group mask set window (history ++ e ∷ []) es (set_after lru c (event_in m group set e.what)) narrow goes.1 ready.1 parts.1 next here.owned in (
      list_all-append (keeps_apart (ways_in m.ways mask) own) (event_in m group set e.what) (events_in m group set es) here.apart rest.0,
      subst (λ (d : CacheSet Stamps). AreOwned (ways_in m.ways mask) own d.places) (sym (set_after-append c (event_in m group set e.what) (events_in m group set es))) rest.1,
    )

-- ---- the access itself

-- from the set to the private set
HitsAsAlone-at : (m : Shape) (group mask : ℕ) (s : Stamps) (window history earlier : List SliceEntry) (epoch : ℕ) (what : What) → MayHappen m history epoch what → IsReady group mask window what → ((w : ℕ) → s.stamp w < s.clock)
    → ((set : ℕ) → IsSetOf m history set (set_after lru (empty_set s) (events_in m group set earlier)))
    → ((x : ℕ) → (list_all (keeps_apart (ways_in m.ways mask) (uses_line group window)) (events_in m group (x % m.sets) earlier) ≡ true)
    × AreOwned (ways_in m.ways mask) (uses_line group window) (set_after lru (empty_set s) (events_in m group (x % m.sets) earlier)).places)
    → HitsAsLru m group s earlier what → HitsAsAlone m group s earlier what
HitsAsAlone-at m group mask s window history earlier epoch (Access hit way owner rmid its line) may ready past is keeps hits = λ o.
    let own : ℕ → Bool = uses_line group window in
    let set : ℕ = line % m.sets in
    let respects : LeavesWays group mask (Access hit way owner rmid its line) = ready.respects in
    let same : its ≡ mask = rw o at respects in
    let line_same : (line == line) ≡ true = eq-eqb line line refl in
    let mine : own line ≡ true = ready.uses line (rw (o, line_same) refl) in
    let kept = keeps line in
    let some : 0 < length (ways_in m.ways its) = length-mask m history set its line way hit own (set_after lru (empty_set s) (events_in m group set earlier)) may.1 (is set)
    (subst (λ k. AreOwned (ways_in m.ways k) own (set_after lru (empty_set s) (events_in m group set earlier)).places) (sym same) kept.1) mine in
    let isolated : IsIsolated lru (ways_in m.ways mask) s s = (IsIsolated-stamps (ways_in m.ways mask) s (subst (λ k. 0 < length (ways_in m.ways k)) same some) past).0 in
    (some, hits ∙ is_some-isolated lru (ways_in m.ways mask) own s s (events_in m group set earlier) line isolated kept.0 mine)
HitsAsAlone-at m group mask s window history earlier epoch Raise may ready past is keeps hits = tt
HitsAsAlone-at m group mask s window history earlier epoch Flush may ready past is keeps hits = tt
HitsAsAlone-at m group mask s window history earlier epoch (Lock others first_line) may ready past is keeps hits = tt
HitsAsAlone-at m group mask s window history earlier epoch (Look rmid lines) may ready past is keeps hits = tt
HitsAsAlone-at m group mask s window history earlier epoch (Drop line at) may ready past is keeps hits = tt

-- from the opening up to a later place
pub HitsAsAlone-between : SlicesIsolate
HitsAsAlone-between m entries from to group mask opening s some narrow legal less most read opens respects past at e inside covered =
    let before : List SliceEntry = take from entries in
    let window : List SliceEntry = between entries from to in
    let front : List SliceEntry = take at window in
    let own : ℕ → Bool = uses_line group window in
    let empties_it : empties opening.what ≡ true = empties-OpensFor mask opening.what opens in
    let stays : All (λ (i : SliceEntry). empties i.what ≡ false) window = λ k d l. empties-LeavesWays group mask (get_or window k d).what (respects k d l) in
    let is = GoesOn-at m (before ++ opening ∷ []) window at e (GoesOn-between m entries from to opening legal less most read) inside in
    let ready : All (λ (i : SliceEntry). IsReady group mask window i.what) window = λ k d l. record {
      respects = respects k d l;
      uses = λ x h. list_any_at (λ (i : SliceEntry). is_use group x i.what) window k d l h;
    } in
    let parts = and_parts (not (list_any (λ (i : SliceEntry). is_loaded_use m.sets group opening.what i.what) window)) (not (list_any (λ (i : SliceEntry). is_other_use group window i.what) front)) covered in
    let unloaded = not-true (list_any (λ (i : SliceEntry). is_loaded_use m.sets group opening.what i.what) window) parts.0 in
    let none = not-true (list_any (λ (i : SliceEntry). is_other_use group window i.what) front) parts.1 in
    let keeps : (x : ℕ) → (list_all (keeps_apart (ways_in m.ways mask) own) (events_in m group (x % m.sets) (opening ∷ front)) ≡ true) × AreOwned (ways_in m.ways mask) own (set_after lru (empty_set s) (events_in m group (x % m.sets) (opening ∷ front))).places = λ x.
    let set : ℕ = x % m.sets in
    let first = Keeps-opening m group mask set window opening.what s narrow (mod-lt x some) opens unloaded in
    let rest = Keeps-entries m group mask set window (before ++ opening ∷ []) front (set_after lru (empty_set s) (event_in m group set opening.what)) narrow is.front
    (AreReady-each group mask window front (All-take (λ (i : SliceEntry). IsReady group mask window i.what) at window ready inside)) none
    (IsSetOf-opened m group set before opening s some empties_it past) first.owned in (
      list_all-append (keeps_apart (ways_in m.ways mask) own) (event_in m group set opening.what) (events_in m group set front) first.apart rest.0,
      subst (λ (d : CacheSet Stamps). AreOwned (ways_in m.ways mask) own d.places) (sym (set_after-append (empty_set s) (event_in m group set opening.what) (events_in m group set front))) rest.1,
    ) in
    HitsAsAlone-at m group mask s window ((before ++ opening ∷ []) ++ front) (opening ∷ front) (get_or window at e).epoch (get_or window at e).what is.may (ready at e inside) past
    (IsSetOf-window m group s before front opening some empties_it is.front (NoneEmpties-each front (All-take (λ (i : SliceEntry). empties i.what ≡ false) at window stays inside)) past) keeps
    (HitsAsLru-between m entries from to group opening s some legal less most read empties_it stays past at e inside)
