-- What a thread's passes keep when its access has made its entry.
use Rattle.std.proofs.Common.{◌≡◌, ℕ, ◌+◌, ◌<◌, ◌≤◌, true, inl, inr, List, [], ◌++◌, length, Some, refl, sym, ap, ◌∙◌, subst, arith}
use Rattle.std.specs.Prelude.{◌==◌}
use Rattle.std.proofs.lemmas.Bool.{cases_Bool, cases_lt}
use Rattle.cache_core.specs.declared.entry.SliceEntry.{SliceEntry}
use Rattle.lists.specs.Sums.{one_if}
use Rattle.run_law.specs.Journals.{JournalsValue, slice_at}
use Rattle.run_law.specs.Ops.{is_command}
use Rattle.run_law.specs.Order.{HasMarks, Makes}
use Rattle.run_law.specs.Owed.{owed_by_access, paid_by}
use Rattle.run_law.specs.Quotas.{quota}
use Rattle.run_law.specs.Truth.{is_made_by, is_taken_from}
use Rattle.run_law.proofs.laws.GrownLists.{Adds, made_one_more, only, with_slices}
use Rattle.run_law.proofs.laws.NotedTruth.{one_op}
use Rattle.run_law.proofs.laws.OpMarks.{HadMarks}
use Rattle.run_law.proofs.laws.NewMarks.{marks_of_access}
use Rattle.run_law.proofs.laws.Pairs.{both_eqb-same, both_eqb-true}
use Rattle.run_law.proofs.laws.Positions.{filter-none_at}
use Rattle.run_law.proofs.laws.TakenCommands.{fails}
use Rattle.script_ops.specs.Values.{ScriptValue, op_at}
use Rattle.script_ops.specs.declared.op.Op.{Op}
use Rattle.script_ops.specs.declared.op.Op.TheVariants.{Access}
use Rattle.live_law.specs.DoneOps.{HasDone, IsTrueIfAccess}
use Rattle.live_law.specs.Passes.{AreBelow, AreInTurn, PassesKeepFrom}
use Rattle.live_law.specs.SeenJournals.{SeesMore, made_in, taken_in}
use Rattle.live_law.specs.Stages.{slice_reached}
use Rattle.live_law.proofs.laws.AddedEntries.{AreBelow-adds, HasDone-adds, HasGrown-adds, StandAfter-adds, in_turn-adds}
use Rattle.live_law.proofs.laws.LaterViews.{PassesKeepFrom-more}
use Rattle.live_law.proofs.laws.OwnMarks.{HasMarks-below, HasMarks-within}
use Rattle.live_law.proofs.laws.SeenJournals.{HasGrown-through, HasMarks-more}
use Rattle.seen_journal.proofs.laws.Prefixes.{length-prefix}

-- What is known when an access makes its entry: it pays what the tree of its epoch gives, which is none that the thread had seen
-- before the access began.
pub record IsTouch (script : ScriptValue) (t n task cpu addr : ℕ) (least : ℕ) (tree : ℕ) (v : JournalsValue) (e : SliceEntry) : Type 0 where
  pub is_op : op_at script t n ≡ Some (Access task cpu addr)
  pub thread : e.thread ≡ t
  pub number : e.op ≡ n
  pub late : least ≤ e.epoch
  pub within : e.epoch ≤ tree
  pub pays : paid_by e ≡ owed_by_access script v.tree e.epoch task cpu addr

-- ---- its marks

-- they come after those of the thread's earlier ops
marks-touch : (script : ScriptValue) (t n op later_op from to later_from later_to epoch : ℕ) (d later : Op) (v : JournalsValue)
    → ((op from to : ℕ) (d : Op) → op_at script t op ≡ Some d → HasMarks v t op d from to → (op < n) × (to ≤ epoch))
    → AreInTurn script t v → op_at script t op ≡ Some d → op_at script t later_op ≡ Some later → op < later_op
    → HadMarks v t n epoch epoch t op d from to → HadMarks v t n epoch epoch t later_op later later_from later_to
    → to ≤ later_from
marks-touch script t n op later_op from to later_from later_to epoch d later v early turn is_d is_later less (inl first) (inl second) =
    turn.marks op later_op from to later_from later_to d later is_d is_later less first second
marks-touch script t n op later_op from to later_from later_to epoch d later v early turn is_d is_later less (inl first) (inr second) =
    let its = early op from to d is_d first in omega (arith, its.1, second.2)
marks-touch script t n op later_op from to later_from later_to epoch d later v early turn is_d is_later less (inr first) (inl second) =
    absurd (let its = early later_op later_from later_to later is_later second in omega (arith, its.0, first.1, less))
marks-touch script t n op later_op from to later_from later_to epoch d later v early turn is_d is_later less (inr first) (inr second) =
    absurd (omega (arith, less, first.1, second.1))

module _ (script : ScriptValue) (start : JournalsValue) (t n task cpu addr least : ℕ) (v : JournalsValue)
    (slices : List (List SliceEntry)) (e : SliceEntry) (adds : Adds v slices (slice_reached script.machine cpu addr) e)
    (touch : IsTouch script t n task cpu addr least (length v.tree) v e) (keeps : PassesKeepFrom script start t n n n v) where
  -- the slice that it goes to
  abbrev here : ℕ
  here = slice_reached script.machine cpu addr

  -- the op is this access
  is_access : (c : Op) → op_at script t n ≡ Some c → Access task cpu addr ≡ c
  is_access c is = one_op script t n (Access task cpu addr) c touch.is_op is

  -- the thread had no entry of it
  made_in-none : (k : ℕ) → made_in v k t n ≡ []
  made_in-none k = filter-none_at (is_made_by t n) (slice_at v k)
      (λ q x there. fails (is_made_by t n x)
      (λ its. let is = both_eqb-true x.thread t x.op n its in let less = keeps.below.entries k q x there is.0 in omega (arith, less, is.1)))

  -- nor a command
  taken_in-none : taken_in v t n ≡ []
  taken_in-none = filter-none_at (is_taken_from t n) v.tree
      (λ q h there. fails (is_taken_from t n h)
      (λ its. let is = both_eqb-true h.thread t h.op n its in let less = keeps.below.commands q h there is.0 in omega (arith, less, is.1)))

  -- now it has one, in the slice of its line
  length-made_in : (k : ℕ) → length (made_in (with_slices v slices) k t n) ≡ one_if (k == here)
  length-made_in k =
      let mine : is_made_by t n e ≡ true = both_eqb-same e.thread t e.op n touch.thread touch.number in
      let one : length (only here e k) ≡ one_if (k == here) =
      elim (cases_Bool (k == here)) [ inl same ↦ rw same refl | inr away ↦ rw away refl ] in
      let more : made_in (with_slices v slices) k t n ≡ made_in v k t n ++ only here e k = made_one_more v slices here e adds k t n mine in
      ap length more ∙ (ap (λ es. length (es ++ only here e k)) (made_in-none k) ∙ one)

  -- the ops before it have done what they did
  HasDone-before : HasDone script (with_slices v slices) t n
  HasDone-before = HasDone-adds v slices here e adds script t n (omega (arith, touch.number))
      (λ c mine is.
      let same : Access task cpu addr ≡ c = is_access c (subst (λ o. op_at script t o ≡ Some c) touch.number is) in
      subst (λ x. IsTrueIfAccess script v.tree e x) same (touch.within, touch.pays))
      keeps.done

  -- the access is done
  HasDone-touch : HasDone script (with_slices v slices) t (n + 1)
  HasDone-touch = record {
    commands_once = λ op c less is. elim (cases_lt op n) [
      | inl early ↦ HasDone-before.commands_once op c early is
      | inr late ↦
          let same : n ≡ op = omega (arith, less, late) in
          let none : length (taken_in v t n) ≡ one_if (is_command c) =
          ap length taken_in-none ∙ ap (λ x. one_if (is_command x)) (is_access c (subst (λ o. op_at script t o ≡ Some c) (sym same) is)) in
          subst (λ o. length (taken_in v t o) ≡ one_if (is_command c)) same none
    ];
    entries_once = λ k op c within less is. elim (cases_lt op n) [
      | inl early ↦ HasDone-before.entries_once k op c within early is
      | inr late ↦
          let same : n ≡ op = omega (arith, less, late) in
          subst (λ o. Makes script (with_slices v slices) k t o c (made_in (with_slices v slices) k t o)) same
          (subst (λ x. Makes script (with_slices v slices) k t n x (made_in (with_slices v slices) k t n))
          (is_access c (subst (λ o. op_at script t o ≡ Some c) (sym same) is)) (length-made_in k))
    ];
    few = λ k op c within less is. elim (cases_lt op n) [
      | inl early ↦ HasDone-before.few k op c within early is
      | inr late ↦
          let same : n ≡ op = omega (arith, less, late) in
          let one : length (made_in (with_slices v slices) k t n) ≡ quota script.machine k c =
          length-made_in k ∙ ap (quota script.machine k) (is_access c (subst (λ o. op_at script t o ≡ Some c) (sym same) is)) in
          subst (λ o. length (made_in (with_slices v slices) k t o) ≤ quota script.machine k c) same (omega (arith, one))
    ];
    accesses = HasDone-before.accesses;
  }

-- ---- what the passes keep

pub PassesKeepFrom-entry : (script : ScriptValue) (start : JournalsValue) (t n task cpu addr : ℕ) (old v : JournalsValue)
    (slices : List (List SliceEntry)) (e : SliceEntry)
    → PassesKeepFrom script start t n n n old → SeesMore t old v → Adds v slices (slice_reached script.machine cpu addr) e
    → IsTouch script t n task cpu addr (length old.tree) (length v.tree) v e
    → PassesKeepFrom script start t (n + 1) (n + 1) (n + 1) (with_slices v slices)
PassesKeepFrom-entry script start t n task cpu addr old v slices e kept more adds touch =
    let slice : ℕ = slice_reached script.machine cpu addr in
    let keeps : PassesKeepFrom script start t n n n v = PassesKeepFrom-more script start t n n n old v more kept in
    let began : length start.tree ≤ length old.tree = length-prefix start.tree old.tree kept.begins.tree in
    let early : (op from to : ℕ) (d : Op) → op_at script t op ≡ Some d → HasMarks v t op d from to → (op < n) × (to ≤ e.epoch) =
    λ op from to d is marks.
    (let had : HasMarks old t op d from to = HasMarks-more t op from to d old v more marks in
    let within = HasMarks-within script t n op from to d old kept.done is had in
    (HasMarks-below t n op from to d old kept.below had, omega (arith, within, touch.late))) in
    let had : (op from to : ℕ) (d : Op) → op_at script t op ≡ Some d → HasMarks (with_slices v slices) t op d from to
    → HadMarks v t n e.epoch e.epoch t op d from to = λ op from to d is marks.
    subst (λ u. HadMarks v u n e.epoch e.epoch t op d from to) touch.thread
    (subst (λ o. HadMarks v e.thread o e.epoch e.epoch t op d from to) touch.number
    (marks_of_access script v slices slice e adds t op from to d is marks)) in
    let below : AreBelow t n (n + 1) (with_slices v slices) =
    AreBelow-adds v slices slice e adds t n n (n + 1) (omega arith) (omega (arith, touch.number)) keeps.below in
    record {
      begins = HasGrown-through start v (with_slices v slices) keeps.begins (HasGrown-adds v slices slice e adds);
      after = StandAfter-adds v slices slice e adds t start keeps.begins (omega (arith, began, touch.late)) keeps.after;
      below = record { commands = λ k h at mine. omega (arith, below.commands k h at mine); entries = below.entries };
      done = HasDone-touch script start t n task cpu addr (length old.tree) v slices e adds touch keeps;
      in_turn = record {
        marks = λ op later_op from to later_from later_to d later is_d is_later less first second.
            marks-touch script t n op later_op from to later_from later_to e.epoch d later v early keeps.in_turn is_d is_later less
            (had op from to d is_d first) (had later_op later_from later_to later is_later second);
        entries = in_turn-adds v slices slice e adds script t n n (omega (arith, touch.number)) keeps.below keeps.in_turn;
      };
    }
