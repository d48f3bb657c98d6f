-- Along a window a set of a slice is the set under the policy.
use Rattle.std.proofs.Common.{◌≡◌, ℕ, suc, ◌+◌, ◌-◌, ◌%◌, ◌<◌, ◌≤◌, true, false, List, [], ◌∷◌, ◌++◌, length, take, drop, get_or, Option, None, refl, sym, ◌∙◌, ap, subst, arith}
use Rattle.std.specs.Prelude.{option_map}
use Rattle.std.specs.List.{All}
use Rattle.std.proofs.lemmas.Bool.{eq-eqb, true≢false}
use Rattle.std.proofs.lemmas.Option.{none-some}
use Rattle.std.proofs.lemmas.List.{append_assoc, append-nil, take-append-drop, drop_more, get_or-take, length-take, take_more}
use Rattle.rc_base.specs.Follows.{GoesOn}
use Rattle.rc_base.proofs.laws.Histories.{GoesOn-front}
use Rattle.cache_core.specs.declared.entry.What.{What}
use Rattle.cache_core.specs.declared.entry.What.TheVariants.{Access, Raise, Flush, Lock, Look, Drop}
use Rattle.cache_core.specs.declared.entry.SliceEntry.{SliceEntry}
use Rattle.cache_core.specs.Filled.{empties}
use Rattle.cache_core.specs.Fills.{Resident}
use Rattle.cache_core.specs.History.{Shape, IsLegal, held, used, EntryMayFollow, MayHappen}
use Rattle.cache_core.specs.Stands.{entry}
use Rattle.cache_core.proofs.laws.Histories.{held-push, used-push}
use Rattle.private_lru.specs.Isolation.{between}
use Rattle.private_lru.proofs.laws.SliceWindows.{GoesOn-rest}
use Rattle.policy_law.specs.Policies.{CacheSet, Event, after_event, set_after, empty_set}
use Rattle.policy_law.specs.KnownPolicies.{Stamps, lru}
use Rattle.policy_law.specs.SliceSets.{event_in, events_in, HitsAsLru, SetsAreLru}
use Rattle.policy_law.proofs.Loads.{IsSet-loaded}
use Rattle.policy_law.proofs.SetEntries.{IsSetOf, IsSetOf-access, IsSetOf-push}

-- a set after two lists of events
pub set_after-append : (c : CacheSet Stamps) (es fs : List Event) → set_after lru c (es ++ fs) ≡ set_after lru (set_after lru c es) fs
set_after-append c [] fs = refl
set_after-append c (e ∷ es) fs = set_after-append (after_event lru c e) es fs

-- entries none of which empties the slice
abbrev pub NoneEmpties : List SliceEntry → Type 0
NoneEmpties [] = Unit {0}
NoneEmpties (e ∷ es) = (empties e.what ≡ false) × NoneEmpties es

-- each by its place
pub NoneEmpties-each : (entries : List SliceEntry) → ((k : ℕ) (d : SliceEntry) → k < length entries → empties (get_or entries k d).what ≡ false) → NoneEmpties entries
NoneEmpties-each [] h = tt
NoneEmpties-each (e ∷ es) h = (h 0 e (omega arith), NoneEmpties-each es (λ k d l. h (suc k) d (omega arith)))

-- all the entries
IsSetOf-append : (m : Shape) (group set : ℕ) (history entries : List SliceEntry) (c : CacheSet Stamps) → GoesOn (EntryMayFollow m) history entries → NoneEmpties entries → IsSetOf m history set c
    → IsSetOf m (history ++ entries) set (set_after lru c (events_in m group set entries))
IsSetOf-append m group set history [] c goes stays is = subst (λ h. IsSetOf m h set c) (sym (append-nil history)) is
IsSetOf-append m group set history (e ∷ es) c goes stays is =
    let one : IsSetOf m (history ++ e ∷ []) set (set_after lru c (event_in m group set e.what)) = IsSetOf-push m group set history e.thread e.op e.epoch e.what c goes.0 stays.0 is in
    let all = IsSetOf-append m group set (history ++ e ∷ []) es (set_after lru c (event_in m group set e.what)) goes.1 stays.1 one in
    subst (λ d. IsSetOf m (history ++ e ∷ es) set d) (sym (set_after-append c (event_in m group set e.what) (events_in m group set es)))
    (subst (λ h. IsSetOf m h set (set_after lru (set_after lru c (event_in m group set e.what)) (events_in m group set es))) (append_assoc history (e ∷ []) es) all)

-- after a lock
IsSetOf-locked : (m : Shape) (set : ℕ) (history : List SliceEntry) (thread op epoch mask first_line : ℕ) (s : Stamps) → 0 < m.sets → ((w : ℕ) → s.stamp w < s.clock)
    → IsSetOf m (history ++ entry thread op epoch (Lock mask first_line) ∷ []) set (set_after lru (empty_set s) (event_in m 0 set (Lock mask first_line)))
IsSetOf-locked m set history thread op epoch mask first_line s some past =
    let e : SliceEntry = entry thread op epoch (Lock mask first_line) in
    IsSet-loaded m set mask first_line (held m (history ++ e ∷ []) set) (used m (history ++ e ∷ []) set) (length history + 1) s some past (λ w. held-push m history e set w)
    (λ w h. used-push m history e set w ∙ rw h refl)

-- after a flush
pub IsSetOf-flushed : (m : Shape) (set : ℕ) (history : List SliceEntry) (thread op epoch : ℕ) (s : Stamps) → ((w : ℕ) → s.stamp w < s.clock) → IsSetOf m (history ++ entry thread op epoch Flush ∷ []) set (empty_set s)
IsSetOf-flushed m set history thread op epoch s past =
    let gone : (w : ℕ) → held m (history ++ entry thread op epoch Flush ∷ []) set w ≡ None = λ w. held-push m history (entry thread op epoch Flush) set w in
    record {
      sound = λ y w e. absurd (none-some w e);
      whole = λ y w l h. absurd (none-some y (sym (ap (λ (o : Option Resident). option_map (λ (r : Resident). r.line) o) (gone w)) ∙ h));
      once = tt;
      older = λ v w a b l. absurd (true≢false a);
      tied = λ v w a b e l. absurd (true≢false a);
      past = past;
    }

-- after an entry that empties the slice
pub IsSetOf-opened : (m : Shape) (group set : ℕ) (history : List SliceEntry) (opening : SliceEntry) (s : Stamps) → 0 < m.sets → empties opening.what ≡ true → ((w : ℕ) → s.stamp w < s.clock)
    → IsSetOf m (history ++ opening ∷ []) set (set_after lru (empty_set s) (event_in m group set opening.what))
IsSetOf-opened m group set history opening s some opens past = at opening.thread opening.op opening.epoch opening.what opens
  where
    at : (thread op epoch : ℕ) (what : What) → empties what ≡ true → IsSetOf m (history ++ entry thread op epoch what ∷ []) set (set_after lru (empty_set s) (event_in m group set what))
    at thread op epoch (Access hit way owner rmid its line) opens = absurd (true≢false (sym opens))
    at thread op epoch Raise opens = absurd (true≢false (sym opens))
    at thread op epoch Flush opens = IsSetOf-flushed m set history thread op epoch s past
    at thread op epoch (Lock mask first_line) opens = IsSetOf-locked m set history thread op epoch mask first_line s some past
    at thread op epoch (Look rmid lines) opens = absurd (true≢false (sym opens))
    at thread op epoch (Drop line place) opens = absurd (true≢false (sym opens))

-- the access itself
HitsAsLru-at : (m : Shape) (group : ℕ) (s : Stamps) (history earlier : List SliceEntry) (epoch : ℕ) (what : What) → MayHappen m history epoch what
    → ((set : ℕ) → IsSetOf m history set (set_after lru (empty_set s) (events_in m group set earlier))) → HitsAsLru m group s earlier what
HitsAsLru-at m group s history earlier epoch (Access hit way owner rmid its line) may is =
    let set : ℕ = line % m.sets in
    sym (IsSetOf-access m history 0 0 epoch owner rmid its line way set hit (set_after lru (empty_set s) (events_in m group set earlier)) (eq-eqb set set refl) may.1 (is set)).0
HitsAsLru-at m group s history earlier epoch Raise may is = tt
HitsAsLru-at m group s history earlier epoch Flush may is = tt
HitsAsLru-at m group s history earlier epoch (Lock others first_line) may is = tt
HitsAsLru-at m group s history earlier epoch (Look rmid lines) may is = tt
HitsAsLru-at m group s history earlier epoch (Drop line at) may is = tt

-- after the first entries of a window
pub IsSetOf-window : (m : Shape) (group : ℕ) (s : Stamps) (before earlier : List SliceEntry) (opening : SliceEntry) → 0 < m.sets → empties opening.what ≡ true → GoesOn (EntryMayFollow m) (before ++ opening ∷ []) earlier
    → NoneEmpties earlier → ((w : ℕ) → s.stamp w < s.clock) → (set : ℕ) → IsSetOf m ((before ++ opening ∷ []) ++ earlier) set (set_after lru (empty_set s) (events_in m group set (opening ∷ earlier)))
IsSetOf-window m group s before earlier opening some opens goes none past set =
    subst (λ d. IsSetOf m ((before ++ opening ∷ []) ++ earlier) set d) (sym (set_after-append (empty_set s) (event_in m group set opening.what) (events_in m group set earlier)))
    (IsSetOf-append m group set (before ++ opening ∷ []) earlier (set_after lru (empty_set s) (event_in m group set opening.what)) goes none (IsSetOf-opened m group set before opening s some opens past))

-- the entries of a window before one of them, and that entry
pub record IsAt (m : Shape) (history window : List SliceEntry) (at : ℕ) (e : SliceEntry) : Type 0 where
  pub front : GoesOn (EntryMayFollow m) history (take at window)
  pub may : MayHappen m (history ++ take at window) (get_or window at e).epoch (get_or window at e).what

-- of a window that goes on
pub GoesOn-at : (m : Shape) (history window : List SliceEntry) (at : ℕ) (e : SliceEntry) → GoesOn (EntryMayFollow m) history window → at < length window → IsAt m history window at e
GoesOn-at m history window at e goes inside =
    let x : SliceEntry = get_or window at e in
    let split : window ≡ take at window ++ (x ∷ drop (at + 1) window) = sym (take-append-drop at window) ∙ ap (λ l. take at window ++ l) (drop_more window at e inside) in
    let goes' : GoesOn (EntryMayFollow m) history (take at window ++ (x ∷ drop (at + 1) window)) = subst (λ l. GoesOn (EntryMayFollow m) history l) split goes in
    record {
      front = GoesOn-front (EntryMayFollow m) history (take at window) (x ∷ drop (at + 1) window) goes';
      may = (GoesOn-rest m history (take at window) (x ∷ drop (at + 1) window) goes').0;
    }

-- a fact of each entry is one of the first ones
pub All-take : (P : SliceEntry → Type 0) (at : ℕ) (window : List SliceEntry) → All P window → at < length window → (k : ℕ) (d : SliceEntry) → k < length (take at window) → P (get_or (take at window) k d)
All-take P at window all inside k d l =
    let short : length (take at window) ≤ at = omega (arith, length-take at window) in
    let long : length (take at window) ≤ length window = omega (arith, length-take at window) in
    subst P (sym (get_or-take at window k d (omega arith))) (all k d (omega arith))

-- a window of a legal list goes on from its opening
pub GoesOn-between : (m : Shape) (entries : List SliceEntry) (from to : ℕ) (opening : SliceEntry) → IsLegal m entries → from < to → to ≤ length entries → opening ≡ get_or entries from opening
    → GoesOn (EntryMayFollow m) (take from entries ++ opening ∷ []) (between entries from to)
GoesOn-between m entries from to opening legal less most read =
    let rest : List SliceEntry = drop (from + 1) entries in
    let n : ℕ = to - (from + 1) in
    let here : from < length entries = omega arith in
    let first : take (from + 1) entries ≡ take from entries ++ opening ∷ [] = take_more entries from opening here ∙ ap (λ (e : SliceEntry). take from entries ++ e ∷ []) (sym read) in
    let whole : entries ≡ take (from + 1) entries ++ (take n rest ++ drop n rest) = sym (take-append-drop (from + 1) entries) ∙ ap (λ l. take (from + 1) entries ++ l) (sym (take-append-drop n rest)) in
    let goes : GoesOn (EntryMayFollow m) [] (take (from + 1) entries ++ (take n rest ++ drop n rest)) = subst (λ l. GoesOn (EntryMayFollow m) [] l) whole legal in
    let window : GoesOn (EntryMayFollow m) (take (from + 1) entries) (take n rest) = GoesOn-front (EntryMayFollow m) (take (from + 1) entries) (take n rest) (drop n rest) (GoesOn-rest m [] (take (from + 1) entries) (take n rest ++ drop n rest) goes) in
    subst (λ b. GoesOn (EntryMayFollow m) b (take n rest)) first window

-- from the opening up to a later place
pub HitsAsLru-between : SetsAreLru
HitsAsLru-between m entries from to group opening s some legal less most read opens stays past at e inside =
    let before : List SliceEntry = take from entries in
    let window : List SliceEntry = between entries from to in
    let is = GoesOn-at m (before ++ opening ∷ []) window at e (GoesOn-between m entries from to opening legal less most read) inside in
    let none : NoneEmpties (take at window) = NoneEmpties-each (take at window) (All-take (λ (i : SliceEntry). empties i.what ≡ false) at window stays inside) in
    HitsAsLru-at m group s ((before ++ opening ∷ []) ++ take at window) (opening ∷ take at window) (get_or window at e).epoch (get_or window at e).what is.may
    (IsSetOf-window m group s before (take at window) opening some opens is.front none past)
