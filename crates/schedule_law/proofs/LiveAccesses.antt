-- The steps of an access may happen to the parts at hand.
use Rattle.std.proofs.Common.{◌≡◌, ℕ, ◌*◌, true, List, [], ◌∷◌, ◌++◌, length, None, Some, refl, sym, ◌∙◌, ap, subst}
use Rattle.std.proofs.lemmas.List.{length-map}
use Rattle.cache_core.specs.declared.entry.SliceEntry.{SliceEntry}
use Rattle.machine.specs.Maps.{line_of}
use Rattle.machine.specs.Slices.{slice_of_line}
use Rattle.run_law.specs.Entries.{entry_value}
use Rattle.run_law.specs.Growth.{tag_of}
use Rattle.run_law.specs.TreeHistory.{tree_after}
use Rattle.script_ops.specs.Values.{ScriptValue}
use Rattle.step_world.specs.declared.thread_state.ThreadState.TheVariants.{Ready, Tagged}
use Rattle.schedule_law.specs.LiveParts.{after, live_slice, live_thread, live_tree, reached, shown}
use Rattle.schedule_law.specs.LiveSteps.{MayRecall, MayTag, MayTagAgain, MayTouch, values}
use Rattle.schedule_law.specs.Parts as p
use Rattle.schedule_law.specs.Parts.{AreReached, part_after, thread_part, tree_part}
use Rattle.schedule_law.specs.declared.part.GivenTag.{GivenTag}
use Rattle.schedule_law.specs.declared.part.Part.{Part}
use Rattle.schedule_law.specs.declared.part.Happening.TheVariants as happenings
use Rattle.schedule_law.proofs.AccessHappenings.{again_may_happen, label_may_happen, recall_may_happen, touch_may_happen}
use Rattle.schedule_law.proofs.LiveHappenings.{MayHappen-both, MayHappenWhere-live, by_parts}
use Rattle.schedule_law.proofs.LivePlaces.{last_may_follow}
use Rattle.shared_parts.specs.Parts.{AreApart, MayHappen, MayHappenWhere}
use Rattle.schedule_law.proofs.LiveApart.{AreApart-two}
use Rattle.schedule_law.proofs.PartNumbers.{thread_not_slice, thread_not_tree}

-- it learns its tag
pub tag_happens : (script : ScriptValue) (tree worker : List (ℕ × Part)) (g : GivenTag) → MayTag script tree worker g → MayHappen (reached script) after (happenings.Label g) (tree ++ worker)
tag_happens script tree worker g may =
    let its : g.tag ≡ tag_of script.machine (tree_after script (values may.history)) (length (values may.history)) g.task g.cpu =
    may.tag_is ∙ ap (λ n. tag_of script.machine (tree_after script (values may.history)) n g.task g.cpu) (sym (length-map may.history entry_value)) in
    MayHappen-both script (happenings.Label g) tree worker (live_tree may.history None ∷ []) (live_thread may.t may.n Ready may.found may.given ∷ []) may.tree_is may.worker_is
    (subst (λ x. MayHappen (AreReached script) part_after (p.Label (record { task = g.task; cpu = g.cpu; tag = x })) (tree_part (values may.history) None ∷ thread_part may.t (record { next = may.n; state = Ready }) true may.found may.given ∷ [])) (sym its)
    (label_may_happen script may.some may.t may.n g.task g.cpu may.addr (values may.history) may.found may.given may.is))

-- it learns the tag that its thread was given last
pub recall_happens : (script : ScriptValue) (worker : List (ℕ × Part)) (g : GivenTag) → MayRecall script worker g → MayHappenWhere (reached script) shown after (happenings.Label g) (2 * g.tag.epoch) worker
recall_happens script worker g may =
    subst (λ l. MayHappenWhere (reached script) shown after (happenings.Label g) (2 * g.tag.epoch) l) (sym may.worker_is)
    (MayHappenWhere-live script (happenings.Label g) (2 * g.tag.epoch) (live_thread may.t may.n Ready may.found (Some g) ∷ [])
    (recall_may_happen script may.some may.t may.n may.addr g may.found may.is))

-- it touches
pub touch_happens : (script : ScriptValue) (slice worker : List (ℕ × Part)) (e : SliceEntry) → MayTouch script slice worker e → MayHappen (reached script) after (happenings.Touch e) (slice ++ worker)
touch_happens script slice worker e may =
    let i : ℕ = slice_of_line script.machine may.tag.domain (line_of may.addr) in
    MayHappen-both script (happenings.Touch e) slice worker (live_slice i may.place.list ∷ []) (live_thread e.thread e.op (Tagged may.tag) may.found may.given ∷ []) may.place.slice_is may.worker_is
    (touch_may_happen script may.some e.thread e.op may.task may.cpu may.addr may.tag may.place.list e may.found may.given may.is may.fresh
    (record { thread = refl; op = refl; owed = may.pays }) may.place.within (last_may_follow script i may.place.list e may.place.legal))

-- it is to tag again
pub tag_again_happens : (script : ScriptValue) (slice worker : List (ℕ × Part)) → MayTagAgain script slice worker → MayHappen (reached script) after happenings.Again (slice ++ worker)
tag_again_happens script slice worker may =
    let i : ℕ = slice_of_line script.machine may.tag.domain (line_of may.addr) in
    MayHappen-both script happenings.Again slice worker (live_slice i may.list ∷ []) (live_thread may.t may.n (Tagged may.tag) may.found may.given ∷ []) may.slice_is may.worker_is
    (again_may_happen script may.some may.t may.n may.task may.cpu may.addr may.tag may.list may.found may.given may.is may.stale)

-- ---- the parts at hand are apart

pub tag_apart : (script : ScriptValue) (tree worker : List (ℕ × Part)) (g : GivenTag) → MayTag script tree worker g → AreApart tree worker
tag_apart script tree worker g may =
    by_parts AreApart tree worker (live_tree may.history None ∷ []) (live_thread may.t may.n Ready may.found may.given ∷ []) may.tree_is may.worker_is
    (AreApart-two (live_tree may.history None) (live_thread may.t may.n Ready may.found may.given) (thread_not_tree may.t))

pub touch_apart : (script : ScriptValue) (slice worker : List (ℕ × Part)) (e : SliceEntry) → MayTouch script slice worker e → AreApart slice worker
touch_apart script slice worker e may =
    let i : ℕ = slice_of_line script.machine may.tag.domain (line_of may.addr) in
    by_parts AreApart slice worker (live_slice i may.place.list ∷ []) (live_thread e.thread e.op (Tagged may.tag) may.found may.given ∷ []) may.place.slice_is may.worker_is
    (AreApart-two (live_slice i may.place.list) (live_thread e.thread e.op (Tagged may.tag) may.found may.given) (thread_not_slice e.thread i))

pub tag_again_apart : (script : ScriptValue) (slice worker : List (ℕ × Part)) → MayTagAgain script slice worker → AreApart slice worker
tag_again_apart script slice worker may =
    let i : ℕ = slice_of_line script.machine may.tag.domain (line_of may.addr) in
    by_parts AreApart slice worker (live_slice i may.list ∷ []) (live_thread may.t may.n (Tagged may.tag) may.found may.given ∷ []) may.slice_is may.worker_is
    (AreApart-two (live_slice i may.list) (live_thread may.t may.n (Tagged may.tag) may.found may.given) (thread_not_slice may.t i))
