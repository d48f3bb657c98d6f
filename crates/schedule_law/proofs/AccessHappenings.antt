-- The steps of an access may happen.
use Rattle.std.proofs.Common.{◌≡◌, inl, inr, ℕ, ◌+◌, ◌*◌, ◌<◌, ◌≤◌, true, false, Bool, Option, List, [], ◌∷◌, length, take, Some, None, refl, sym, ◌∙◌, ap, subst, arith}
use Rattle.std.specs.Prelude.{if◌then◌else◌, ◌==◌}
use Rattle.std.proofs.Math.Path.{fun_ext}
use Rattle.std.proofs.Math.Seq.{take-length}
use Rattle.std.proofs.lemmas.Bool.{cases_Bool, eqb-true}
use Rattle.std.proofs.lemmas.Option.{same_Some}
use Rattle.std.proofs.lemmas.List.{take-append-le}
use Rattle.cache_core.specs.History.{floor_of}
use Rattle.machine.specs.Maps.{line_of}
use Rattle.machine.specs.Slices.{slice_of_line}
use Rattle.rc_base.specs.declared.names.Tag.{Tag}
use Rattle.run_law.specs.Growth.{IsTagOf, tag_of}
use Rattle.run_law.specs.Journals.{slice_at}
use Rattle.run_law.specs.Owed.{owed_by_access}
use Rattle.run_law.specs.Progress.{Progress}
use Rattle.run_law.specs.TreeHistory.{TreeEntryValue, tree_after}
use Rattle.script_ops.specs.Values.{ScriptValue, op_at}
use Rattle.script_ops.specs.declared.op.Op.TheVariants.{Access}
use Rattle.step_world.proofs.laws.AccessSteps.{some_can_be, tag_epoch}
use Rattle.step_world.proofs.laws.MachineStates.{can_be_is}
use Rattle.step_world.proofs.laws.StepRows.{step_stale, step_tags, step_touches}
use Rattle.step_world.specs.Machine.{MachineValue, Tags, TagsAgain, Touches, thread_at}
use Rattle.step_world.specs.Moments.{progress_by, progress_in}
use Rattle.step_world.specs.declared.thread_state.ThreadState.TheVariants.{Ready, Tagged}
use Rattle.step_world.specs.declared.thread_state.Thread.{Thread}
use Rattle.schedule_law.specs.declared.part.GivenTag.{GivenTag}
use Rattle.schedule_law.specs.Law.{AgainMayHappen, LabelMayHappen, RecallMayHappen, TouchMayHappen, owed_by_tag}
use Rattle.schedule_law.specs.Parts.{Again, AreReached, HappeningValue, IsReached, Label, PartValue, Touch, Tree, WasGiven, held, number_of_thread, part_after, shown_of, slice_part, thread_part, tree_part}
use Rattle.shared_parts.specs.Parts.{has, state_after}
use Rattle.shared_parts.proofs.laws.Parts.{has-first, has-later, state_after-else, state_after-there}
use Rattle.schedule_law.proofs.PartNumbers.{thread_not_tree}
use Rattle.schedule_law.proofs.StepStates.{Moves-next_state, next_state, Notes-next_state, AreReached-state_after, so_far}
use Rattle.schedule_law.proofs.PartSets.{HasTurn-op, has-only, thread_at-part, same_journals, slice_at-part, slice_within, tree-part, AreStepParts-slice, AreStepParts-tree}

-- a tag that the tree gives is one that it gave
WasGiven-now : (script : ScriptValue) (hs : List TreeEntryValue) (task cpu : ℕ) → WasGiven script hs (record { task = task; cpu = cpu; tag = tag_of script.machine (tree_after script hs) (length hs) task cpu })
WasGiven-now script hs task cpu = record {
  early = omega arith;
  is = ap (λ l. tag_of script.machine (tree_after script l) (length hs) task cpu) (sym (take-length hs));
}

-- an access learns its tag
pub label_may_happen : (script : ScriptValue) → 0 < script.machine.slices → LabelMayHappen script
label_may_happen script some t n task cpu addr hs found given is at r fit =
    let s = r.state in
    let v : Thread = record { next = n; state = Ready } in
    let own : GivenTag = record { task = task; cpu = cpu; tag = tag_of script.machine (tree_after script hs) (length hs) task cpu } in
    let e : HappeningValue = Label own in
    let turn = HasTurn-op script some at r t v (Access task cpu addr) found given fit.1.0 is in
    let tree = tree-part script at r hs None fit.0 in
    let now : MachineValue = next_state e t 0 s in
    let row : Tags script t task cpu s now = record {
      journals = same_journals e t 0 s refl (λ es. refl);
      holder = refl;
      moves = Moves-next_state e t 0 s (record { next = (thread_at s t).next; state = Tagged (tag_of script.machine (tree_after script s.journals.tree) (length s.journals.tree) task cpu) }) turn.within
          (ap (λ (l : List TreeEntryValue). record { next = (thread_at s t).next; state = Tagged (tag_of script.machine (tree_after script l) (length l) task cpu) }) (sym tree.0));
    } in
    AreReached-state_after script some e t 0 (Access task cpu addr) (tree_part hs None ∷ thread_part t v true found given ∷ []) at r
    (AreStepParts-tree e t 0 hs None v true found given (λ b. refl) (λ es. refl)) turn.is turn.within (inr (λ es. refl)) (λ x last_is. inr (subst (WasGiven script s.journals.tree) (same_Some own x last_is) (subst (λ l. WasGiven script l own) (sym tree.0) (WasGiven-now script hs task cpu))))
    (step_tags script t task cpu addr s now turn.phase turn.is turn.place tree.1 row)
    (λ op made place _. absurd (let there = row.moves.there in cc))

-- of a thread alone, where the tree is free, the state after a tag is that of both
label_alone : (t : ℕ) (g : GivenTag) (hs : List TreeEntryValue) (own : ℕ × PartValue) (at : ℕ → PartValue) → own.0 ≡ number_of_thread t → at 0 ≡ Tree hs None → (k : ℕ)
    → state_after part_after (Label g) (tree_part hs None ∷ own ∷ []) at k ≡ state_after part_after (Label g) (own ∷ []) at k
label_alone t g hs own at own_is tree k = elim (cases_Bool (0 == k)) [
  | inl first ↦
      let is : 0 ≡ k = eqb-true 0 k first in
      let not_own : has 0 (own ∷ []) ≡ false = has-only 0 own ∙ (ap (λ n. n == 0) own_is ∙ thread_not_tree t) in
      subst (λ n. state_after part_after (Label g) (tree_part hs None ∷ own ∷ []) at n ≡ state_after part_after (Label g) (own ∷ []) at n) is
      (state_after-there part_after (Label g) (tree_part hs None ∷ own ∷ []) at 0 (has-first 0 (tree_part hs None) (own ∷ []) refl) ∙ (ap (part_after (Label g) 0) tree ∙ (sym tree ∙ sym (state_after-else part_after (Label g) (own ∷ []) at 0 not_own))))
  | inr later ↦ ap (λ (b : Bool). if b then part_after (Label g) k (at k) else at k) (has-later k (tree_part hs None) (own ∷ []) later)
]

-- twice a number shows a tree that is free
free_of : (length_is shows : ℕ) (holder : Option ℕ) → 2 * length_is + held holder ≡ 2 * shows → (holder ≡ None) × (length_is ≡ shows)
free_of n m None is = (refl, omega (arith, is))
free_of n m (Some t) is = absurd (omega (arith, is))

-- and so an access learns the tag that its thread was given last
pub recall_may_happen : (script : ScriptValue) → 0 < script.machine.slices → RecallMayHappen script
recall_may_happen script some t n addr g found is at r shows fit =
    let hs : List TreeEntryValue = r.state.journals.tree in
    let free = free_of (length hs) g.tag.epoch r.state.holder (sym (ap shown_of r.tree) ∙ shows) in
    let tree : at 0 ≡ Tree hs None = r.tree ∙ ap (Tree hs) free.0 in
    let v : Thread = record { next = n; state = Ready } in
    let own : ℕ × PartValue = thread_part t v true found (Some g) in
    let was = r.gave t g (thread_at-part script at r t v true found (Some g) fit.0).3 in
    let whole : take g.tag.epoch hs ≡ hs = ap (λ k. take k hs) (sym free.1) ∙ take-length hs in
    let now : g.tag ≡ tag_of script.machine (tree_after script hs) (length hs) g.task g.cpu =
    was.is ∙ (ap (λ l. tag_of script.machine (tree_after script l) g.tag.epoch g.task g.cpu) whole ∙ ap (λ k. tag_of script.machine (tree_after script hs) k g.task g.cpu) (sym free.1)) in
    let same : record { task = g.task; cpu = g.cpu; tag = tag_of script.machine (tree_after script hs) (length hs) g.task g.cpu } ≡ g = λ j. record { task = g.task; cpu = g.cpu; tag = sym now j } in
    subst (AreReached script) (fun_ext (label_alone t g hs own at refl tree))
    (subst (λ (x : GivenTag). AreReached script (state_after part_after (Label x) (tree_part hs None ∷ own ∷ []) at)) same
    (label_may_happen script some t n g.task g.cpu addr hs found (Some g) is at r (tree, fit)))

-- a tag is what the tree of its epoch gives: so the entry pays what is owed by the tag
owed_by_tag-owed_by_access : (script : ScriptValue) → 0 < script.machine.slices → (s : MachineValue) (t task cpu addr : ℕ) (tag : Tag) → IsReached script s → op_at script t (thread_at s t).next ≡ Some (Access task cpu addr) → (thread_at s t).state ≡ Tagged tag
    → owed_by_tag tag addr ≡ owed_by_access script s.journals.tree tag.epoch task cpu addr
unfolding owed_by_access
owed_by_tag-owed_by_access script some s t task cpu addr tag reached is place =
    let far = so_far script s some reached in
    let (all, can) = some_can_be s s.holder in
    let progress : progress_in s t ≡ progress_by (thread_at s t).next (Tagged tag) = ap (progress_by (thread_at s t).next) place in
    let its : IsTagOf script (record { tree = all; slices = s.journals.slices }) (progress_in s) t task cpu tag =
    (far.kept all can).tags t task cpu addr tag (subst (λ k. op_at script t k ≡ Some (Access task cpu addr)) (sym (ap (λ (x : Progress). x.next) progress)) is) (ap (λ (x : Progress). x.tag) progress) in
    let within : tag.epoch ≤ length s.journals.tree = tag_epoch script s all tag.epoch can its.free in
    let same : take tag.epoch all ≡ take tag.epoch s.journals.tree = elim (can_be_is s s.holder all can) [
      | inl same ↦ ap (take tag.epoch) same
      | inr more ↦ ap (take tag.epoch) more.2 ∙ take-append-le tag.epoch s.journals.tree (more.0 ∷ []) within
    ] in
    let known : tag ≡ tag_of script.machine (tree_after script (take tag.epoch s.journals.tree)) tag.epoch task cpu = subst (λ hs. tag ≡ tag_of script.machine (tree_after script hs) tag.epoch task cpu) same its.is in
    ap (λ (x : Tag). owed_by_tag x addr) known

-- its tag is fresh
pub touch_may_happen : (script : ScriptValue) → 0 < script.machine.slices → TouchMayHappen script
touch_may_happen script some t n task cpu addr tag list x found given is fresh pays low may at r fit =
    let s = r.state in
    let i : ℕ = slice_of_line script.machine tag.domain (line_of addr) in
    let v : Thread = record { next = n; state = Tagged tag } in
    let e : HappeningValue = Touch x in
    let turn = HasTurn-op script some at r t v (Access task cpu addr) found given fit.1.0 is in
    let there : slice_at s.journals i ≡ list = slice_at-part script at r i list fit.0 in
    let within : i < length s.journals.slices = slice_within script some at r i low in
    let now : MachineValue = next_state e t i s in
    let row : Touches script t tag task cpu addr s now = record {
      entry = x;
      pays = record { thread = pays.thread; op = pays.op ∙ sym turn.next; owed = pays.owed ∙ owed_by_tag-owed_by_access script some s t task cpu addr tag r.reached turn.is turn.place };
      notes = Notes-next_state script.machine e x t i s list refl (λ es. refl) there within may;
      holder = refl;
      moves = Moves-next_state e t i s (record { next = (thread_at s t).next + 1; state = Ready }) turn.within refl;
    } in
    AreReached-state_after script some e t i (Access task cpu addr) (slice_part i list ∷ thread_part t v true found given ∷ []) at r
    (AreStepParts-slice e t i list v true found given (λ b. refl) (λ hs holder. (refl, refl))) turn.is turn.within (inl within) (λ x last_is. inl last_is)
    (step_touches script t task cpu addr tag s now turn.phase turn.is turn.place (subst (λ l. floor_of l ≤ tag.epoch) (sym there) fresh) row)
    (λ op made place _. absurd (let there = row.moves.there in cc))

-- its tag is stale
pub again_may_happen : (script : ScriptValue) → 0 < script.machine.slices → AgainMayHappen script
again_may_happen script some t n task cpu addr tag list found given is stale at r fit =
    let s = r.state in
    let i : ℕ = slice_of_line script.machine tag.domain (line_of addr) in
    let v : Thread = record { next = n; state = Tagged tag } in
    let e : HappeningValue = Again in
    let turn = HasTurn-op script some at r t v (Access task cpu addr) found given fit.1.0 is in
    let there : slice_at s.journals i ≡ list = slice_at-part script at r i list fit.0 in
    let now : MachineValue = next_state e t i s in
    let row : TagsAgain t s now = record {
      journals = same_journals e t i s refl (λ es. refl);
      holder = refl;
      moves = Moves-next_state e t i s (record { next = (thread_at s t).next; state = Ready }) turn.within refl;
    } in
    AreReached-state_after script some e t i (Access task cpu addr) (slice_part i list ∷ thread_part t v true found given ∷ []) at r
    (AreStepParts-slice e t i list v true found given (λ b. refl) (λ hs holder. (refl, refl))) turn.is turn.within (inr (λ es. refl)) (λ x last_is. inl last_is)
    (step_stale script t task cpu addr tag s now turn.phase turn.is turn.place (subst (λ l. tag.epoch < floor_of l) (sym there) stale) row)
    (λ op made place _. absurd (let there = row.moves.there in cc))
