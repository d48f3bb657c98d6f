-- What a thread has done, and where its entries stand, when it has one entry more.
use Rattle.std.proofs.Common.{◌≡◌, ◌≢◌, ℕ, ◌+◌, ◌<◌, ◌≤◌, false, inl, inr, List, [], ◌∷◌, ◌++◌, length, get_or, set, Some, refl, sym, ap, ◌∙◌, subst, arith}
use Rattle.std.specs.Prelude.{◌==◌}
use Rattle.std.proofs.lemmas.Bool.{cases_Bool, eqb-false, eqb-true}
use Rattle.std.proofs.lemmas.List.{append-nil, get_or-set_other, get_or-set_same}
use Rattle.std.proofs.lemmas.Option.{slice_get_within}
use Rattle.cache_core.specs.declared.entry.SliceEntry.{SliceEntry}
use Rattle.run_law.specs.Journals.{At, JournalsValue, slice_at}
use Rattle.run_law.specs.Order.{Makes}
use Rattle.run_law.specs.Truth.{is_made_by}
use Rattle.run_law.proofs.laws.GrownLists.{Adds, made_as_before, only, stood, with_slices}
use Rattle.run_law.proofs.laws.NotedTruth.{other_op}
use Rattle.script_ops.specs.Values.{ScriptValue, op_at}
use Rattle.script_ops.specs.declared.op.Op.{Op}
use Rattle.live_law.specs.DoneOps.{HasDone, IsTrueIfAccess}
use Rattle.live_law.specs.Passes.{AreBelow, AreInTurn, StandAfter}
use Rattle.live_law.specs.SeenJournals.{AddsEntry, HasGrown, NoMore, SeesMore, is_by}
use Rattle.seen_journal.proofs.laws.Prefixes.{IsPrefix-self, length-prefix}

-- ---- just before it adds

module _ (t i : ℕ) (e : SliceEntry) (v w : JournalsValue) (adds : AddsEntry t i e v w) where
  -- the slices that it has seen then
  abbrev slices_before : List (List SliceEntry)
  slices_before = set w.slices i adds.list

  -- all that it has seen then
  abbrev pub before_adding : JournalsValue
  before_adding = record { tree = w.tree; slices = slices_before }

  -- it has come to see that
  pub SeesMore-before : SeesMore t v before_adding
  SeesMore-before = record {
    tree = adds.tree;
    slices = λ k. elim (cases_Bool (k == i)) [
      | inl here ↦
          let is : k ≡ i = eqb-true k i here in
          subst (λ x. NoMore (is_by t) (slice_at v x) (get_or slices_before x [])) (sym is)
          (subst (λ es. NoMore (is_by t) (slice_at v i) es) (sym (get_or-set_same w.slices i adds.list [] adds.within)) adds.sees)
      | inr away ↦
          let apart : k ≢ i = eqb-false k i away in
          subst (λ es. NoMore (is_by t) (slice_at v k) es) (sym (get_or-set_other w.slices i k adds.list [] apart)) (adds.others k apart)
    ];
  }

  -- then it adds the entry, and nothing else
  pub Adds-before : Adds before_adding w.slices i e
  Adds-before k = elim (cases_Bool (k == i)) [
    | inl here ↦
        let is : k ≡ i = eqb-true k i here in
        let last : only i e k ≡ e ∷ [] = rw here refl in
        let front : get_or slices_before k [] ≡ adds.list =
        ap (λ x. get_or slices_before x []) is ∙ get_or-set_same w.slices i adds.list [] adds.within in
        ap (slice_at w) is
        ∙ (adds.adds ∙ (ap (λ es. es ++ e ∷ []) (sym front) ∙ ap (λ es. get_or slices_before k [] ++ es) (sym last)))
    | inr away ↦
        let none : only i e k ≡ [] = rw away refl in
        let front : get_or slices_before k [] ≡ slice_at w k = get_or-set_other w.slices i k adds.list [] (eqb-false k i away) in
        sym front
        ∙ (sym (append-nil (get_or slices_before k [])) ∙ ap (λ es. get_or slices_before k [] ++ es) (sym none))
  ]

-- ---- one entry more

module _ (v : JournalsValue) (slices : List (List SliceEntry)) (i : ℕ) (e : SliceEntry) (adds : Adds v slices i e) where
  -- what was seen has grown
  pub HasGrown-adds : HasGrown v (with_slices v slices)
  HasGrown-adds = record { tree = IsPrefix-self v.tree; slices = λ k. (only i e k, sym (adds k)) }

  -- the thread's entries stand after its start
  pub StandAfter-adds : (t : ℕ) (start : JournalsValue)
      → HasGrown start v → length start.tree ≤ e.epoch → StandAfter t start v
      → StandAfter t start (with_slices v slices)
  StandAfter-adds t start began late after = record {
    commands = after.commands;
    entries = λ k p x at mine. elim (stood v slices i e adds k p x at) [
      | inl old ↦ after.entries k p x old mine
      | inr new ↦ let fits = length-prefix (slice_at start k) (slice_at v k) (began.slices k) in omega (arith, fits, new.1)
    ];
    epochs = λ k p x at mine. elim (stood v slices i e adds k p x at) [
      | inl old ↦ after.epochs k p x old mine
      | inr new ↦ omega (arith, late, ap (λ (y : SliceEntry). y.epoch) new.2)
    ];
  }

  -- they are of ops below a bound on its op
  pub AreBelow-adds : (t taken made bound : ℕ)
      → made ≤ bound → e.op < bound → AreBelow t taken made v
      → AreBelow t taken bound (with_slices v slices)
  AreBelow-adds t taken made bound fits less below = record {
    commands = below.commands;
    entries = λ k p x at mine. elim (stood v slices i e adds k p x at) [
      | inl old ↦ let under = below.entries k p x old mine in omega (arith, under, fits)
      | inr new ↦ omega (arith, less, ap (λ (y : SliceEntry). y.op) new.2)
    ];
  }

  -- they stand in their turn
  pub in_turn-adds : (script : ScriptValue) (t taken made : ℕ)
      → made ≤ e.op + 1 → AreBelow t taken made v → AreInTurn script t v
      → (k p q : ℕ) (x later : SliceEntry) → At (slice_at (with_slices v slices) k) p x → At (slice_at (with_slices v slices) k) q later
      → x.thread ≡ t → later.thread ≡ t → x.op < later.op
      → p < q
  in_turn-adds script t taken made last below turn k p q x later at there mine also less = elim (stood v slices i e adds k p x at) [
    | inl old ↦ elim (stood v slices i e adds k q later there) [
      | inl front ↦ turn.entries k p q x later old front mine also less
      | inr end ↦ let within = slice_get_within (slice_at v k) p x old in omega (arith, within, end.1)
    ]
    | inr new ↦ elim (stood v slices i e adds k q later there) [
      | inl front ↦
          absurd
          (let under = below.entries k q later front also in
          omega (arith, under, last, less, ap (λ (y : SliceEntry). y.op) new.2))
      | inr end ↦ absurd (omega (arith, less, ap (λ (y : SliceEntry). y.op) new.2, ap (λ (y : SliceEntry). y.op) end.2))
    ]
  ]

  -- the ops before its own have done what they did
  pub HasDone-adds : (script : ScriptValue) (t n : ℕ)
      → n ≤ e.op → ((c : Op) → e.thread ≡ t → op_at script t e.op ≡ Some c → IsTrueIfAccess script v.tree e c) → HasDone script v t n
      → HasDone script (with_slices v slices) t n
  HasDone-adds script t n later is_true done = record {
    commands_once = done.commands_once;
    entries_once = λ k op c within less is.
        subst (λ made. Makes script v k t op c made) (made_as_before v slices i e adds k t op (other op less))
        (done.entries_once k op c within less is);
    few = λ k op c within less is.
        omega (arith, done.few k op c within less is, ap length (made_as_before v slices i e adds k t op (other op less)));
    accesses = λ k p x c at mine is. elim (stood v slices i e adds k p x at) [
      | inl old ↦ done.accesses k p x c old mine is
      | inr new ↦
          subst (λ (y : SliceEntry). IsTrueIfAccess script v.tree y c) (sym new.2)
          (is_true c (ap (λ (y : SliceEntry). y.thread) (sym new.2) ∙ mine)
          (subst (λ (y : SliceEntry). op_at script t y.op ≡ Some c) new.2 is))
    ];
  }
    where
      -- the entry is of none of them
      other : (op : ℕ) → op < n → is_made_by t op e ≡ false
      other op less = other_op t e.thread op e.op e refl refl (λ same. omega (arith, less, later, same.1))
