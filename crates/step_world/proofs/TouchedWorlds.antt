-- An access of a world goes to its slice with its tag.
use Rattle.std.proofs.Common.{◌≡◌, ℕ, ◌+◌, ◌<◌, ◌≤◌, Bool, true, false, inl, inr, [], ◌∷◌, length, take, get_or, set, Option, Some, None, refl, sym, ap, ◌∙◌, subst, arith}
use Rattle.std.specs.Prelude.{IsSome}
use Rattle.std.proofs.lemmas.List.{set-get_or, take-append-le}
use Rattle.cache_core.specs.History.{floor_of}
use Rattle.cache_core.specs.Stands.{entry}
use Rattle.cache_core.specs.declared.entry.SliceEntry.{SliceEntry}
use Rattle.cache_core.specs.declared.entry.What.TheVariants as whats
use Rattle.cache_core.specs.declared.touched.Touched.{Touched}
use Rattle.cache_core.specs.declared.touched.Touched.TheVariants.{Hit, Filled, Stale}
use Rattle.machine.specs.Maps.{line_of}
use Rattle.machine.specs.Slices.{slice_of_line}
use Rattle.rc_base.specs.declared.names.Tag.{Tag}
use Rattle.run_law.specs.Growth.{IsTagOf, PaysJob, tag_of}
use Rattle.run_law.specs.Journals.{slice_at}
use Rattle.run_law.specs.Owed.{owed_by_access}
use Rattle.run_law.specs.Progress.{Progress}
use Rattle.run_law.specs.TreeHistory.{tree_after}
use Rattle.script_ops.specs.Values.{ScriptValue, op_at}
use Rattle.script_ops.specs.declared.op.Op.TheVariants as ops
use Rattle.step_world.proofs.laws.AccessSteps.{some_can_be, tag_epoch}
use Rattle.step_world.proofs.KeptWorlds.{AreInPlay-set, IsWorldOf-step, Leaves, moves-leaves, notes-grows, slice_at-journals}
use Rattle.step_world.proofs.laws.MachineStates.{can_be_is}
use Rattle.step_world.proofs.laws.StepRows.{step_stale, step_touches}
use Rattle.step_world.proofs.TakenWorlds.{IsQuiet, journals-quiet, leaves-quiet, lists-quiet, rooms-access, tree-quiet, within-next}
use Rattle.step_world.specs.Answers.{HasNext, HasTouched, HasUsed, HasStaleTag}
use Rattle.run_law.specs.LookLists.{AreReady}
use Rattle.step_world.specs.Machine.{Moves, Notes, Steps, TagsAgain, Touches, floor_for, thread_at}
use Rattle.step_world.specs.Moments.{progress_by, progress_in}
use Rattle.step_world.specs.Slices.{Grows, SliceValue, TouchesLine}
use Rattle.step_world.specs.Worlds.{AreInPlay, IsWorldOf, machine_of, rooms_from}
use Rattle.step_world.specs.declared.thread_state.ThreadState.TheVariants.{Ready, Tagged}
use Rattle.step_world.specs.declared.thread_state.Thread.{Thread}
use Rattle.step_world.specs.declared.world.World.{World}

module _ (script : ScriptValue) (t task cpu addr : ℕ) (tag : Tag) (old : World) (world : IsWorldOf script old) (next : HasNext script (machine_of old) t (ops.Access task cpu addr)) (place : (thread_at (machine_of old) t).state ≡ Tagged tag) where
  -- how far the thread has come
  progress : progress_in (machine_of old) t ≡ progress_by (thread_at (machine_of old) t).next (Tagged tag)
  progress = ap (progress_by (thread_at (machine_of old) t).next) place

  -- it does not hold the tree
  pub not_holder : old.holder ≡ Some t → ⊥
  not_holder held = none (progress_in (machine_of old) t).made (ap (λ (x : Progress). x.made) progress) ((world.so_far.held t).1 held)
    where
      none : (o : Option ℕ) → o ≡ None → IsSome o → ⊥
      none None is some = absurd cc
      none (Some x) is some = absurd cc

  -- its tag is one of the tree's history
  pub record IsKnown : Type 0 where
    pub within : tag.epoch ≤ length (machine_of old).journals.tree
    pub is : tag ≡ tag_of script.machine (tree_after script (take tag.epoch (machine_of old).journals.tree)) tag.epoch task cpu

  pub known : IsKnown
  known =
      let (all, can) = some_can_be (machine_of old) old.holder in
      let its : IsTagOf script (record { tree = all; slices = (machine_of old).journals.slices }) (progress_in (machine_of old)) t task cpu tag =
      (world.so_far.kept all can).tags t task cpu addr tag (subst (λ k. op_at script t k ≡ Some (ops.Access task cpu addr)) (sym (ap (λ (x : Progress). x.next) progress)) next.is) (ap (λ (x : Progress). x.tag) progress) in
      let within : tag.epoch ≤ length (machine_of old).journals.tree = tag_epoch script (machine_of old) all tag.epoch can its.free in
      let same : take tag.epoch all ≡ take tag.epoch (machine_of old).journals.tree = elim (can_be_is (machine_of old) old.holder all can) [
        | inl is ↦ ap (take tag.epoch) is
        | inr more ↦ ap (take tag.epoch) more.2 ∙ take-append-le tag.epoch (machine_of old).journals.tree (more.0 ∷ []) within
      ] in
      record { within = within; is = subst (λ hs. tag ≡ tag_of script.machine (tree_after script hs) tag.epoch task cpu) same its.is }

  -- its entry pays what it owes
  pub pays : (n line : ℕ) (hit : Bool) (way : ℕ) → n ≡ (thread_at (machine_of old) t).next → line ≡ line_of addr
      → PaysJob t (thread_at (machine_of old) t).next (record { slice = slice_of_line script.machine tag.domain (line_of addr); owed = owed_by_access script (machine_of old).journals.tree tag.epoch task cpu addr })
      (entry t n tag.epoch (whats.Access hit way tag.owner tag.rmid tag.mask line))
  unfolding owed_by_access
  pays n line hit way number is =
      let its : tag ≡ tag_of script.machine (tree_after script (take tag.epoch (machine_of old).journals.tree)) tag.epoch task cpu = known.is in
      record {
        thread = refl;
        op = number;
        owed = ap (λ o. record { epoch = tag.epoch; what = whats.Access false 0 o tag.rmid tag.mask line }) (ap (λ (x : Tag). x.owner) its)
            ∙ (ap (λ r. record { epoch = tag.epoch; what = whats.Access false 0 (tag_of script.machine (tree_after script (take tag.epoch (machine_of old).journals.tree)) tag.epoch task cpu).owner r tag.mask line }) (ap (λ (x : Tag). x.rmid) its)
            ∙ (ap (λ m. record { epoch = tag.epoch; what = whats.Access false 0 (tag_of script.machine (tree_after script (take tag.epoch (machine_of old).journals.tree)) tag.epoch task cpu).owner (tag_of script.machine (tree_after script (take tag.epoch (machine_of old).journals.tree)) tag.epoch task cpu).rmid m line }) (ap (λ (x : Tag). x.mask) its)
            ∙ ap (λ l. record { epoch = tag.epoch; what = whats.Access false 0 (tag_of script.machine (tree_after script (take tag.epoch (machine_of old).journals.tree)) tag.epoch task cpu).owner (tag_of script.machine (tree_after script (take tag.epoch (machine_of old).journals.tree)) tag.epoch task cpu).rmid (tag_of script.machine (tree_after script (take tag.epoch (machine_of old).journals.tree)) tag.epoch task cpu).mask l }) is));
      }

  -- a hit or a fill
  pub used : (new : World) (n i line : ℕ) (hit : Bool) (way : ℕ) (s : SliceValue) → n ≡ (thread_at (machine_of old) t).next → line ≡ line_of addr → i ≡ slice_of_line script.machine tag.domain (line_of addr)
      → i < length old.slices.items → IsQuiet t (record { next = n + 1; state = Ready }) old new → new.slices.items ≡ set old.slices.items i s → new.holder ≡ old.holder → new.work ≡ old.work
      → Grows (entry t n tag.epoch (whats.Access hit way tag.owner tag.rmid tag.mask line)) (get_or old.slices.items i s) s
      → IsWorldOf script new × HasUsed script t hit way (ops.Access task cpu addr) (machine_of old) (machine_of new)
  used new n i line hit way s number line_is slice there quiet slices holder work grows =
      let now : Thread = record { next = n + 1; state = Ready } in
      let e : SliceEntry = entry t n tag.epoch (whats.Access hit way tag.owner tag.rmid tag.mask line) in
      let within = within-next script old t (ops.Access task cpu addr) world next in
      let leaves : Leaves t now old new = leaves-quiet script t now old new world within quiet (λ u apart held. (sym holder ∙ held, work)) in
      let moves : Moves t now (machine_of old) (machine_of new) = moves-leaves t now old new within leaves in
      let notes : Notes script.machine i e (machine_of old) (machine_of new) = notes-grows script old new i e s there (ap (λ cs. cs.items) quiet.commands) slices grows world in
      let touches : Touches script t tag task cpu addr (machine_of old) (machine_of new) = record {
        entry = e;
        pays = pays n line hit way number line_is;
        notes = subst (λ k. Notes script.machine k e (machine_of old) (machine_of new)) slice notes;
        holder = holder;
        moves = subst (λ k. Moves t (record { next = k + 1; state = Ready }) (machine_of old) (machine_of new)) number moves;
      } in
      let fresh : floor_for script (machine_of old) tag addr ≤ tag.epoch = subst (λ k. floor_of (slice_at (machine_of old).journals k) ≤ tag.epoch) slice notes.may.0 in
      let step : Steps script t (machine_of old) (machine_of new) = step_touches script t task cpu addr tag (machine_of old) (machine_of new) next.present next.is place fresh touches in (
        IsWorldOf-step script old new t now world within step leaves (tree-quiet script t now old new world within quiet)
            (subst (λ ss. AreInPlay script ss) (sym slices) (AreInPlay-set script old.slices.items i e s there grows world.slices))
            (λ d. subst (λ k. AreReady (rooms_from script t (k + 1)) (get_or new.lists.items t d)) (sym number)
            (subst (λ rooms. AreReady rooms (get_or new.lists.items t d)) (rooms-access script t (thread_at (machine_of old) t).next task cpu addr next.is) ((lists-quiet script t now old new world within quiet (Tagged tag) d place).ready)))
            (λ other d held is. absurd (not_holder (sym holder ∙ held))),
        record { tag = tag; task = task; cpu = cpu; addr = addr; access = refl; place = place; fresh = fresh; row = touches; uses = (tag.owner, tag.rmid, tag.mask, line, refl) },
      )

  -- a tag that is older than the floor
  pub stale : (new : World) (n i floor : ℕ) (s : SliceValue) → n ≡ (thread_at (machine_of old) t).next → i ≡ slice_of_line script.machine tag.domain (line_of addr)
      → i < length old.slices.items → IsQuiet t (record { next = n; state = Ready }) old new → new.slices.items ≡ set old.slices.items i s → new.holder ≡ old.holder → new.work ≡ old.work
      → s ≡ get_or old.slices.items i s → floor ≡ (get_or old.slices.items i s).cache.floor → tag.epoch < floor
      → IsWorldOf script new × HasStaleTag script t floor (ops.Access task cpu addr) (machine_of old) (machine_of new)
  stale new n i floor s number slice there quiet slices holder work same floor_is below =
      let now : Thread = record { next = n; state = Ready } in
      let within = within-next script old t (ops.Access task cpu addr) world next in
      let kept : new.slices.items ≡ old.slices.items = slices ∙ (ap (λ x. set old.slices.items i x) same ∙ set-get_or old.slices.items i s) in
      let leaves : Leaves t now old new = leaves-quiet script t now old new world within quiet (λ u apart held. (sym holder ∙ held, work)) in
      let moves : Moves t now (machine_of old) (machine_of new) = moves-leaves t now old new within leaves in
      let again : TagsAgain t (machine_of old) (machine_of new) = record {
        journals = journals-quiet script t now old new world within quiet kept;
        holder = holder;
        moves = subst (λ k. Moves t (record { next = k; state = Ready }) (machine_of old) (machine_of new)) number moves;
      } in
      let list : slice_at (machine_of old).journals i ≡ (get_or old.slices.items i s).entries = slice_at-journals (machine_of old).journals.tree old.slices.items i s there in
      let floors : floor ≡ floor_for script (machine_of old) tag addr = floor_is ∙ ((world.slices.caches i s there).stands.floor ∙ (ap floor_of (sym list) ∙ ap (λ k. floor_of (slice_at (machine_of old).journals k)) slice)) in
      let step : Steps script t (machine_of old) (machine_of new) = step_stale script t task cpu addr tag (machine_of old) (machine_of new) next.present next.is place (omega (arith, below, floors)) again in (
        IsWorldOf-step script old new t now world within step leaves (tree-quiet script t now old new world within quiet)
            (subst (λ ss. AreInPlay script ss) (sym kept) world.slices)
            (λ d. subst (λ k. AreReady (rooms_from script t k) (get_or new.lists.items t d)) (sym number) (lists-quiet script t now old new world within quiet (Tagged tag) d place).ready)
            (λ other d held is. absurd (not_holder (sym holder ∙ held))),
        record { tag = tag; task = task; cpu = cpu; addr = addr; access = refl; place = place; row = again; told = floors; below = below },
      )

  -- a touch that is not stale
  pub touched : (new : World) (n i line : ℕ) (s : SliceValue) (result : Touched) → n ≡ (thread_at (machine_of old) t).next → line ≡ line_of addr → i ≡ slice_of_line script.machine tag.domain (line_of addr)
      → i < length old.slices.items → IsQuiet t (record { next = n + 1; state = Ready }) old new → new.slices.items ≡ set old.slices.items i s → new.holder ≡ old.holder → new.work ≡ old.work
      → ((floor : ℕ) → result ≡ Stale floor → ⊥) → TouchesLine t n tag line (get_or old.slices.items i s) s result
      → IsWorldOf script new × HasTouched script t result (ops.Access task cpu addr) (machine_of old) (machine_of new)
  touched new n i line s (Hit way) number line_is slice there quiet slices holder work fresh touches = used new n i line true way s number line_is slice there quiet slices holder work touches
  touched new n i line s (Filled way) number line_is slice there quiet slices holder work fresh touches = used new n i line false way s number line_is slice there quiet slices holder work touches
  touched new n i line s (Stale floor) number line_is slice there quiet slices holder work fresh touches = absurd (fresh floor refl)

  -- one that is
  pub stale-touch : (new : World) (n i line floor : ℕ) (s : SliceValue) (result : Touched) → n ≡ (thread_at (machine_of old) t).next → i ≡ slice_of_line script.machine tag.domain (line_of addr)
      → i < length old.slices.items → IsQuiet t (record { next = n; state = Ready }) old new → new.slices.items ≡ set old.slices.items i s → new.holder ≡ old.holder → new.work ≡ old.work
      → result ≡ Stale floor → TouchesLine t n tag line (get_or old.slices.items i s) s result → IsWorldOf script new × HasTouched script t result (ops.Access task cpu addr) (machine_of old) (machine_of new)
  stale-touch new n i line floor s result number slice there quiet slices holder work is touches =
      let told : TouchesLine t n tag line (get_or old.slices.items i s) s (Stale floor) = subst (λ x. TouchesLine t n tag line (get_or old.slices.items i s) s x) is touches in
      let its = stale new n i floor s number slice there quiet slices holder work told.0 told.1 told.2 in
      (its.0, subst (λ x. HasTouched script t x (ops.Access task cpu addr) (machine_of old) (machine_of new)) (sym is) its.1)
