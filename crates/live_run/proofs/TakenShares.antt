-- The shares of all slices are taken in at the end, and what they say of the journals.
use Rattle.std.proofs.Common.{◌≡◌, ℕ, suc, ◌+◌, ◌<◌, ◌≤◌, ◌==◌, inl, inr, All, None, List, [], ◌∷◌, ◌++◌, Vec, length, set, refl, sym, ap, ap₂, ◌∙◌, subst, arith}
use Rattle.std.specs.Prelude.{Contains, slice_index_or}
use Rattle.std.specs.declared.alloc.Global.{Global}
use Rattle.std.proofs.lemmas.Bool.{cases_Bool, cases_lt, eqb-false, eqb-true}
use Rattle.std.proofs.lemmas.List.{get_or-map, get_or-set_other, get_or-set_same, length-map, length-set}
use Rattle.std.proofs.lemmas.List.Elements.{Contains-append_left, Contains-append_right}
use Rattle.atomic_table.specs.Seated.{TableId}
use Rattle.cache_core.specs.declared.entry.SliceEntry.{SliceEntry}
use Rattle.live_run.proofs.Closed.{lists_in}
use Rattle.live_run.proofs.RunEnds.{some_part}
use Rattle.live_run.specs.Cells.{SliceCellValue, TreeCellValue, TreeIsKept}
use Rattle.live_run.specs.Closings.{HaveAll, HaveTakenIn, MayClose, MayCloseEach}
use Rattle.live_run.specs.Names.{history_of}
use Rattle.live_run.specs.Openings.{AreSettled, part_at}
use Rattle.live_run.specs.Sharing.{IsAtPhase}
use Rattle.machine.specs.Slices.{slice_count}
use Rattle.run_law.specs.Journals.{JournalsValue}
use Rattle.schedule_law.specs.LiveParts.{LeavesScheduled, live_phase, live_slice, live_tree}
use Rattle.schedule_law.specs.Schedules.{IsScheduled}
use Rattle.schedule_law.specs.declared.part.Part.{Part}
use Rattle.script_ops.specs.Values.{ScriptValue, first_thread}
use Rattle.seen_journal.specs.Entries.{list_of}
use Rattle.seen_journal.specs.Journals.{JournalName, JournalValue}
use Rattle.seen_journal.specs.Passes.{HasAll, PassValue}
use Rattle.shared_parts.specs.Shares.{ShareValue}

-- ---- one share more

-- What is left of a part that has given its share.
pub record HasGiven (old new : SliceCellValue) : Type 0 where
  pub cache : new.cache ≡ old.cache
  pub journal : new.journal ≡ old.journal
  pub tree : new.tree ≡ old.tree
  pub table : new.share.table ≡ old.share.table

module _ (all mid now : ShareValue Part) (parts parts_mid : List SliceCellValue) (i : ℕ) (there : i < length parts) (so_far : HaveTakenIn i all mid parts parts_mid) (rest : (k : ℕ) (d : SliceCellValue) → i ≤ k → part_at parts_mid k d ≡ part_at parts k d)
    (old new : SliceCellValue) (old_is : (d : SliceCellValue) → part_at parts_mid i d ≡ old) (given : HasGiven old new) (table : now.table ≡ mid.table) (joined : now.parts ≡ old.share.parts ++ mid.parts) where
  abbrev pub parts_now : List SliceCellValue
  parts_now = set parts_mid i new

  by_field : {A : Type 0} (f : SliceCellValue → A) → f new ≡ f old → ((k : ℕ) (d : SliceCellValue) → k < length parts → f (part_at parts_mid k d) ≡ f (part_at parts k d)) → (k : ℕ) (d : SliceCellValue) → k < length parts → f (part_at parts_now k d) ≡ f (part_at parts k d)
  by_field f same before k d within = elim (cases_Bool (k == i)) [
    | inl here ↦
        let is : i ≡ k = sym (eqb-true k i here) in
        let last : f (part_at parts_now i d) ≡ f (part_at parts i d) = ap f (get_or-set_same parts_mid i new d (omega (arith, there, so_far.count))) ∙ (same ∙ (ap f (sym (old_is d)) ∙ before i d there)) in
        subst (λ n. f (part_at parts_now n d) ≡ f (part_at parts n d)) is last
    | inr other ↦ ap f (get_or-set_other parts_mid i k new d (eqb-false k i other)) ∙ before k d within
  ]

  pub HaveTakenIn-next : HaveTakenIn (i + 1) all now parts parts_now
  HaveTakenIn-next = record {
    table = table ∙ so_far.table;
    had = λ x has. subst (λ ps. Contains ps x) (sym joined) (Contains-append_right old.share.parts mid.parts x (so_far.had x has));
    taken = λ k d x low within has.
        subst (λ ps. Contains ps x) (sym joined) (elim (cases_lt k i) [
          | inl before ↦ Contains-append_right old.share.parts mid.parts x (so_far.taken k d x before within has)
          | inr from ↦
              let here : i ≡ k = omega (arith, low, from) in
              let is : part_at parts k d ≡ old = sym (rest k d from) ∙ subst (λ n. part_at parts_mid n d ≡ old) here (old_is d) in
              Contains-append_left old.share.parts mid.parts x (subst (λ (p : SliceCellValue). Contains p.share.parts x) is has)
        ]);
    count = length-set parts_mid i new ∙ so_far.count;
    caches = by_field (λ p. p.cache) given.cache so_far.caches;
    journals = by_field (λ p. p.journal) given.journal so_far.journals;
    passes = by_field (λ p. p.tree) given.tree so_far.passes;
    tables = by_field (λ p. p.share.table) given.table so_far.tables;
  }

  pub rest-next : (k : ℕ) (d : SliceCellValue) → i + 1 ≤ k → part_at parts_now k d ≡ part_at parts k d
  rest-next k d from = get_or-set_other parts_mid i k new d (λ same. absurd (omega (arith, from, same))) ∙ rest k d (omega (arith, from))

-- ---- the journals are what they were

same_lists : (ps qs : List SliceCellValue) → length qs ≡ length ps → ((i : ℕ) (d : SliceCellValue) → i < length ps → (part_at qs i d).journal ≡ (part_at ps i d).journal) → lists_in qs ≡ lists_in ps
same_lists [] [] count same = refl
same_lists [] (q ∷ qs) count same = absurd (omega (arith, count))
same_lists (p ∷ ps) [] count same = absurd (omega (arith, count))
same_lists (p ∷ ps) (q ∷ qs) count same =
    ap₂ (λ (x : List SliceEntry) (xs : List (List SliceEntry)). x ∷ xs) (ap (λ (j : JournalValue SliceEntry). list_of j.entries) (same 0 p (omega arith)))
    (same_lists ps qs (omega (arith, count)) (λ i d within. same (suc i) d (omega (arith, within))))

module _ (all all_now : ShareValue Part) (parts parts_now : List SliceCellValue) (taken : HaveTakenIn (length parts) all all_now parts parts_now) where
  pub lists_taken : lists_in parts_now ≡ lists_in parts
  lists_taken = same_lists parts parts_now taken.count taken.journals

  pub MayCloseEach-taken : (lists : List (Vec (PassValue SliceEntry) Global)) → MayCloseEach parts lists → MayCloseEach parts_now lists
  MayCloseEach-taken lists may = record {
    count = may.count ∙ sym taken.count;
    each = λ k i d e at.
        subst (λ (j : JournalValue SliceEntry). MayClose j (slice_index_or lists k e).items) (sym (taken.journals i d (omega (arith, at, taken.count)))) (may.each k i d e (at ∙ taken.count));
  }

  pub HaveAll-taken : (lists : List (Vec (PassValue SliceEntry) Global)) → HaveAll (length parts_now) parts_now lists → HaveAll (length parts) parts lists
  HaveAll-taken lists own k i d e within at =
      subst (λ (j : JournalValue SliceEntry). All (HasAll j.entries) (slice_index_or lists k e).items) (taken.journals i d within) (own k i d e (omega (arith, within, taken.count)) (at ∙ sym taken.count))

-- ---- they are scheduled

Contains-only : (x : ℕ × Part) → Contains (x ∷ []) x
Contains-only x = (0, omega arith, refl)

module _ (script : ScriptValue) (table : TableId) (tree : JournalName) (slices : List JournalName) (cell : TreeCellValue) (kept : TreeIsKept script table tree slices cell) (parts : List SliceCellValue)
    (settled : AreSettled script table tree slices cell.journal.entries (slice_count script.machine) parts) (turn joined all : ShareValue Part) (parts_now : List SliceCellValue) (at : IsAtPhase script table (length script.phases) turn)
    (both : joined.parts ≡ turn.parts ++ cell.share.parts) (taken : HaveTakenIn (length parts) joined all parts parts_now) (leaves : LeavesScheduled script all.parts) where
  lists_count : length (lists_in parts) ≡ slice_count script.machine
  lists_count = omega (arith, length-map parts (λ (c : SliceCellValue). list_of c.journal.entries), settled.count)

  tree_there : Contains all.parts (live_tree (list_of cell.journal.entries) None)
  tree_there =
      let x = live_tree (list_of cell.journal.entries) None in
      let own : Contains cell.share.parts x = subst (λ ps. Contains ps x) (sym kept.share_is.parts_are) (Contains-only x) in
      taken.had x (subst (λ ps. Contains ps x) (sym both) (Contains-append_right turn.parts cell.share.parts x own))

  phase_there : Contains all.parts (live_phase (length script.phases) (first_thread script (length script.phases)))
  phase_there =
      let x = live_phase (length script.phases) (first_thread script (length script.phases)) in
      let own : Contains turn.parts x = subst (λ ps. Contains ps x) (sym at.parts_are) (Contains-only x) in
      taken.had x (subst (λ ps. Contains ps x) (sym both) (Contains-append_left turn.parts cell.share.parts x own))

  slice_there : (i : ℕ) → i < length (lists_in parts) → Contains all.parts (live_slice i (slice_index_or (lists_in parts) i []))
  slice_there i low =
      let within : i < length parts = omega (arith, low, length-map parts (λ (c : SliceCellValue). list_of c.journal.entries)) in
      let d : SliceCellValue = some_part parts i within in
      let list : slice_index_or (lists_in parts) i [] ≡ list_of (part_at parts i d).journal.entries = get_or-map (λ (c : SliceCellValue). list_of c.journal.entries) parts i d [] within in
      let x = live_slice i (list_of (part_at parts i d).journal.entries) in
      let own : Contains (part_at parts i d).share.parts x = subst (λ ps. Contains ps x) (sym (settled.kept i d within).share_is.parts_are) (Contains-only x) in
      subst (λ es. Contains all.parts (live_slice i es)) (sym list) (taken.taken i d x within within own)

  pub is_scheduled : (j : JournalsValue) → j.tree ≡ history_of cell.journal.entries → j.slices ≡ lists_in parts → IsScheduled script j
  is_scheduled j tree_is slices_are =
      let is : j ≡ (record { tree = history_of cell.journal.entries; slices = lists_in parts }) = (λ k. record { tree = tree_is k; slices = slices_are k }) in
      subst (IsScheduled script) (sym is)
      (leaves (list_of cell.journal.entries) (lists_in parts) None (length script.phases) (first_thread script (length script.phases)) kept.lawful.in_range.some_slice (omega arith) lists_count tree_there phase_there slice_there)
