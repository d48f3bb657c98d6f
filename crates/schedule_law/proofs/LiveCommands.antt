-- The steps of a command may happen to the parts at hand.
use Rattle.std.proofs.Common.{◌≡◌, inl, inr, ℕ, ◌+◌, ◌*◌, ◌≤◌, true, false, Bool, List, [], ◌∷◌, ◌++◌, length, map, Option, None, Some, refl, sym, ◌∙◌, ap, subst, arith}
use Rattle.std.specs.Prelude.{if◌then◌else◌, nat_lt, not}
use Rattle.std.proofs.lemmas.List.{length-append, length-map}
use Rattle.cache_core.specs.declared.entry.SliceEntry.{SliceEntry}
use Rattle.cache_core.specs.declared.entry.What.TheVariants as whats
use Rattle.run_law.proofs.laws.FollowCounts.{length-looks}
use Rattle.run_law.proofs.laws.FoundSums.{At-map}
use Rattle.run_law.proofs.laws.JobKinds.{look_of, looks_are}
use Rattle.run_law.specs.Entries.{entry_value}
use Rattle.run_law.specs.FoundLooks.{pairs_for}
use Rattle.run_law.specs.Jobs.{Job, jobs_of, looks_of}
use Rattle.run_law.specs.Journals.{At}
use Rattle.run_law.specs.Owed.{undecided}
use Rattle.run_law.specs.TreeHistory.{TreeEntryValue}
use Rattle.run_law.specs.declared.journals.TreeEntry.{TreeEntry}
use Rattle.script_ops.specs.Values.{ScriptValue}
use Rattle.step_world.specs.declared.thread_state.ThreadState.TheVariants.{Ready, Looking, Following}
use Rattle.schedule_law.specs.LiveParts.{after, live_slice, live_thread, live_tree, reached, resting_thread, shown}
use Rattle.schedule_law.specs.LiveSteps.{MayDecide, MayFollow, MayLetGo, MayLook, MayTake, values}
use Rattle.schedule_law.specs.Parts as p
use Rattle.schedule_law.specs.Parts.{AreReached, part_after, thread_part, tree_part}
use Rattle.schedule_law.specs.declared.part.GivenTag.{GivenTag}
use Rattle.schedule_law.specs.declared.part.Part.{Part}
use Rattle.schedule_law.specs.declared.part.Happening.TheVariants as happenings
use Rattle.schedule_law.proofs.CommandHappenings.{decide_may_happen, follow_may_happen, look_may_happen, take_may_happen}
use Rattle.schedule_law.proofs.LiveHappenings.{MayHappen-both, MayHappen-live, by_parts}
use Rattle.schedule_law.proofs.LivePlaces.{last_may_follow}
use Rattle.shared_parts.specs.Parts.{AreApart, MayHappen, Shows, first_of, parts_after, rest_of}
use Rattle.schedule_law.proofs.LiveApart.{AreApart-three, AreApart-two}
use Rattle.schedule_law.proofs.PartNumbers.{thread_not_slice, thread_not_tree, tree_not_slice}
use Rattle.step_world.specs.declared.thread_state.ThreadState.{ThreadState}

-- it takes the tree
pub take_happens : (script : ScriptValue) (tree worker : List (ℕ × Part)) (t epoch : ℕ) → MayTake script tree worker t epoch → MayHappen (reached script) after (happenings.Take t) (tree ++ worker)
take_happens script tree worker t epoch may =
    MayHappen-both script (happenings.Take t) tree worker (live_tree may.history None ∷ []) (live_thread t may.n Ready may.found may.given ∷ []) may.tree_is may.worker_is
    (take_may_happen script may.some t may.n may.op (values may.history) may.found may.given may.is may.command)

-- it looks
pub look_happens : (script : ScriptValue) (slice worker : List (ℕ × Part)) (e : SliceEntry) → MayLook script slice worker e → MayHappen (reached script) after (happenings.Look e) (slice ++ worker)
look_happens script slice worker e may =
    let hs : List TreeEntryValue = values may.history in
    let job : Job = look_of (length hs) (may.i, may.rmid) in
    let next : At (looks_of script hs (length hs) may.op) (length may.found) job =
    subst (λ jobs. At jobs (length may.found) job) (looks_are script hs may.op) (At-map (look_of (length hs)) (pairs_for script hs may.op) (length may.found) (may.i, may.rmid) may.next) in
    let epoch : e.epoch ≡ length hs = may.epoch ∙ sym (length-map may.history entry_value) in
    let what : undecided e.what ≡ whats.Look may.rmid 0 = ap undecided may.what in
    MayHappen-both script (happenings.Look e) slice worker (live_slice may.i may.place.list ∷ []) (live_tree may.history (Some e.thread) ∷ live_thread e.thread e.op (Looking (length may.found)) may.found may.given ∷ []) may.place.slice_is may.worker_is
    (look_may_happen script may.some e.thread e.op may.op hs may.found may.given job may.place.list e may.is may.distinct next
    (record { thread = refl; op = refl; owed = λ j. record { epoch = epoch j; what = what j } }) may.place.within (last_may_follow script may.i may.place.list e may.place.legal))

-- it is decided
pub decide_happens : (script : ScriptValue) (worker : List (ℕ × Part)) (h : TreeEntry) (last : Bool) (made epoch : ℕ) → MayDecide script worker h last made epoch → MayHappen (reached script) after (happenings.Decide h last made) worker
decide_happens script worker h last made epoch may =
    let hs : List TreeEntryValue = values may.history in
    let many : length (looks_of script hs (length hs) may.op) ≤ length may.found = omega (arith, length-looks script hs may.op, may.all, may.made_is) in
    let ends : last ≡ not (nat_lt (length may.found) (length (jobs_of script hs (length hs) may.op))) =
    may.ends ∙ (ap (λ n. not (nat_lt made (length (jobs_of script hs n may.op)))) (sym (length-map may.history entry_value)) ∙ ap (λ n. not (nat_lt n (length (jobs_of script hs (length hs) may.op)))) may.made_is) in
    subst (λ l. MayHappen (reached script) after (happenings.Decide h last made) l) (sym may.worker_is)
    (MayHappen-live script (happenings.Decide h last made) (live_tree may.history (Some h.thread) ∷ live_thread h.thread h.op (Looking made) may.found may.given ∷ [])
    (subst (λ n. MayHappen (AreReached script) part_after (p.Decide (entry_value h) last n) (tree_part hs (Some h.thread) ∷ thread_part h.thread (record { next = h.op; state = Looking n }) true may.found may.given ∷ [])) (sym may.made_is)
    (decide_may_happen script may.some h.thread h.op may.op hs may.found may.given (entry_value h) last may.is many refl refl may.may (sym may.made_is ∙ may.all) may.count may.each ends)))

-- what follows it is done
pub follow_happens : (script : ScriptValue) (slice worker : List (ℕ × Part)) (e : SliceEntry) (last : Bool) → MayFollow script slice worker e last → MayHappen (reached script) after (happenings.Follow e last) (slice ++ worker)
follow_happens script slice worker e last may =
    let hs : List TreeEntryValue = values may.history in
    MayHappen-both script (happenings.Follow e last) slice worker (live_slice may.job.slice may.place.list ∷ []) (live_tree may.history (Some e.thread) ∷ live_thread e.thread e.op (Following may.made) may.found may.given ∷ []) may.place.slice_is may.worker_is
    (follow_may_happen script may.some e.thread e.op may.made may.position may.op hs may.job may.place.list e last may.found may.given may.is (length-map may.history entry_value ∙ may.decided) may.next
    (record { thread = refl; op = refl; owed = may.pays }) may.place.within (last_may_follow script may.job.slice may.place.list e may.place.legal) may.ends)

-- ---- what the first word shows

module _ (t n : ℕ) (history : List TreeEntry) (found : List ℕ) (given : Option GivenTag) where
  -- of a tree that a command holds
  shows_held : (place : ThreadState) (epoch : ℕ) → epoch ≡ length history → Shows shown (2 * epoch + 1) (live_tree history (Some t) ∷ live_thread t n place found given ∷ [])
  shows_held place epoch is = inl (refl, ap (λ k. 2 * k + 1) (length-map history entry_value ∙ sym is))

  -- and of one that is free
  shows_free : (place : ThreadState) (epoch : ℕ) → epoch ≡ length history → Shows shown (2 * epoch) (live_tree history None ∷ live_thread t n place found given ∷ [])
  shows_free place epoch is = inl (refl, omega (arith, length-map history entry_value, is))

-- before and after a command takes the tree
pub take_shows : (script : ScriptValue) (tree worker : List (ℕ × Part)) (t epoch : ℕ) → MayTake script tree worker t epoch
    → Shows shown (2 * epoch) (tree ++ worker) × Shows shown (2 * epoch + 1) (parts_after after (happenings.Take t) (tree ++ worker))
take_shows script tree worker t epoch may =
    by_parts (λ us vs. Shows shown (2 * epoch) (us ++ vs) × Shows shown (2 * epoch + 1) (parts_after after (happenings.Take t) (us ++ vs))) tree worker (live_tree may.history None ∷ []) (live_thread t may.n Ready may.found may.given ∷ []) may.tree_is may.worker_is
    (shows_free t may.n may.history may.found may.given Ready epoch may.epoch_is, shows_held t may.n may.history [] may.given (Looking 0) epoch may.epoch_is)

-- before and after it is decided
pub decide_shows : (script : ScriptValue) (worker : List (ℕ × Part)) (h : TreeEntry) (last : Bool) (made epoch : ℕ) → MayDecide script worker h last made epoch
    → Shows shown (2 * epoch + 1) worker × Shows shown (if last then 2 * (epoch + 1) else 2 * (epoch + 1) + 1) (parts_after after (happenings.Decide h last made) worker)
decide_shows script worker h last made epoch may =
    subst (λ l. Shows shown (2 * epoch + 1) l × Shows shown (if last then 2 * (epoch + 1) else 2 * (epoch + 1) + 1) (parts_after after (happenings.Decide h last made) l)) (sym may.worker_is)
    (shows_held h.thread h.op may.history may.found may.given (Looking made) epoch may.epoch_is, of last)
  where
    longer : length (map entry_value (may.history ++ h ∷ [])) ≡ epoch + 1
    longer = length-map (may.history ++ h ∷ []) entry_value ∙ (length-append may.history (h ∷ []) ∙ ap (λ k. k + 1) (sym may.epoch_is))

    of : (b : Bool) → Shows shown (if b then 2 * (epoch + 1) else 2 * (epoch + 1) + 1) (parts_after after (happenings.Decide h b made) (live_tree may.history (Some h.thread) ∷ live_thread h.thread h.op (Looking made) may.found may.given ∷ []))
    of true = inl (refl, omega (arith, longer))
    of false = inl (refl, ap (λ k. 2 * k + 1) longer)

-- before and after the last entry that follows it
pub follow_shows : (script : ScriptValue) (slice worker : List (ℕ × Part)) (e : SliceEntry) → MayFollow script slice worker e true
    → Shows shown (2 * e.epoch + 1) (slice ++ worker) × Shows shown (2 * e.epoch) (parts_after after (happenings.Follow e true) (slice ++ worker))
follow_shows script slice worker e may =
    by_parts (λ us vs. Shows shown (2 * e.epoch + 1) (us ++ vs) × Shows shown (2 * e.epoch) (parts_after after (happenings.Follow e true) (us ++ vs))) slice worker (live_slice may.job.slice may.place.list ∷ []) (live_tree may.history (Some e.thread) ∷ live_thread e.thread e.op (Following may.made) may.found may.given ∷ []) may.place.slice_is may.worker_is
    (inr (shows_held e.thread e.op may.history may.found may.given (Following may.made) e.epoch may.epoch_is), inr (shows_free e.thread (e.op + 1) may.history may.found may.given Ready e.epoch may.epoch_is))

-- ---- the parts at hand are apart

-- those of a slice, and of a thread that holds the tree
slice_apart : (i t n : ℕ) (slice worker : List (ℕ × Part)) (list : List SliceEntry) (history : List TreeEntry) (place : ThreadState) (found : List ℕ) (given : Option GivenTag) → slice ≡ live_slice i list ∷ []
    → worker ≡ live_tree history (Some t) ∷ live_thread t n place found given ∷ [] → AreApart slice worker
slice_apart i t n slice worker list history place found given is are =
    by_parts AreApart slice worker (live_slice i list ∷ []) (live_tree history (Some t) ∷ live_thread t n place found given ∷ []) is are
    (AreApart-three (live_slice i list) (live_tree history (Some t)) (live_thread t n place found given) (tree_not_slice i) (thread_not_slice t i))

pub look_apart : (script : ScriptValue) (slice worker : List (ℕ × Part)) (e : SliceEntry) → MayLook script slice worker e → AreApart slice worker
look_apart script slice worker e may = slice_apart may.i e.thread e.op slice worker may.place.list may.history (Looking (length may.found)) may.found may.given may.place.slice_is may.worker_is

pub follow_apart : (script : ScriptValue) (slice worker : List (ℕ × Part)) (e : SliceEntry) (last : Bool) → MayFollow script slice worker e last → AreApart slice worker
follow_apart script slice worker e last may = slice_apart may.job.slice e.thread e.op slice worker may.place.list may.history (Following may.made) may.found may.given may.place.slice_is may.worker_is

pub release_apart : (tree worker : List (ℕ × Part)) → MayLetGo tree worker → AreApart (first_of worker) (rest_of worker)
release_apart tree worker may =
    subst (λ l. AreApart (first_of l) (rest_of l)) (sym may.worker_is)
    (AreApart-two (live_tree may.history None) (resting_thread may.t may.n may.begun may.found may.given) (thread_not_tree may.t))
