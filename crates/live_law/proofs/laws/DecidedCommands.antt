-- What a thread's passes keep when its command is decided.
use Rattle.std.proofs.Common.{◌≡◌, ℕ, ◌+◌, ◌<◌, ◌≤◌, false, inl, inr, [], ◌∷◌, ◌++◌, length, take, Some, sym, ap, ◌∙◌, subst, arith}
use Rattle.run_law.specs.Growth.{HasMade}
use Rattle.run_law.specs.Jobs.{in_slice}
use Rattle.run_law.specs.Journals.{JournalsValue, slice_at}
use Rattle.run_law.specs.Order.{HasMarks}
use Rattle.run_law.specs.TreeHistory.{TreeEntryValue}
use Rattle.run_law.specs.Truth.{is_taken_from}
use Rattle.run_law.proofs.laws.GrownLists.{at_push, filter_push_false, with_tree}
use Rattle.run_law.proofs.laws.LongerHistories.{jobs_front, makes_command}
use Rattle.run_law.proofs.laws.OpMarks.{HadMarks}
use Rattle.run_law.proofs.laws.NewMarks.{marks_of_taken}
use Rattle.run_law.proofs.laws.Pairs.{both_eqb-true}
use Rattle.run_law.proofs.laws.TakenCommands.{fails}
use Rattle.script_ops.specs.Values.{ScriptValue, op_at}
use Rattle.script_ops.specs.declared.op.Op.{Op}
use Rattle.live_law.specs.DoneOps.{HasDone}
use Rattle.live_law.specs.Passes.{AreBelow, AreInTurn, PassesKeepFrom}
use Rattle.live_law.specs.SeenJournals.{HasGrown, made_in}
use Rattle.live_law.proofs.laws.LaterViews.{IsTrueIfAccess-prefix}
use Rattle.live_law.proofs.laws.OwnMarks.{HasMarks-below, HasMarks-within}
use Rattle.live_law.proofs.laws.Prefixes.{IsPrefix-push}
use Rattle.live_law.proofs.laws.SeenJournals.{HasGrown-through}
use Rattle.seen_journal.proofs.laws.Prefixes.{IsPrefix-self, length-prefix}

-- the journals with a command more
abbrev pub with_command : JournalsValue → TreeEntryValue → JournalsValue
with_command v h = with_tree v (v.tree ++ h ∷ [])

-- they have grown
pub HasGrown-command : (v : JournalsValue) (h : TreeEntryValue) → HasGrown v (with_command v h)
HasGrown-command v h = record { tree = IsPrefix-push v.tree h; slices = λ i. IsPrefix-self (slice_at v i) }

-- what a command has made is the same by a longer history
pub HasMade-command : (script : ScriptValue) (v : JournalsValue) (h : TreeEntryValue) (i t n k : ℕ) (c : Op) (made : ℕ)
    → k ≤ length v.tree → HasMade script v i t n k c made
    → HasMade script (with_command v h) i t n k c made
HasMade-command script v h i t n k c made fits has =
    has ∙ ap (λ jobs. in_slice i (take made jobs)) (sym (jobs_front script v.tree (h ∷ []) k c fits))

-- ---- its marks

-- they come after those of the thread's earlier ops
marks-command : (script : ScriptValue) (t n op later_op from to later_from later_to k : ℕ) (d later : Op) (v : JournalsValue)
    → ((op from to : ℕ) (d : Op) → op_at script t op ≡ Some d → HasMarks v t op d from to → (op < n + 1) × (to ≤ k))
    → AreInTurn script t v → op_at script t op ≡ Some d → op_at script t later_op ≡ Some later → op < later_op
    → HadMarks v t n k (k + 1) t op d from to → HadMarks v t n k (k + 1) t later_op later later_from later_to
    → to ≤ later_from
marks-command script t n op later_op from to later_from later_to k d later v early turn is_d is_later less (inl first) (inl second) =
    turn.marks op later_op from to later_from later_to d later is_d is_later less first second
marks-command script t n op later_op from to later_from later_to k d later v early turn is_d is_later less (inl first) (inr second) =
    let its = early op from to d is_d first in omega (arith, its.1, second.2)
marks-command script t n op later_op from to later_from later_to k d later v early turn is_d is_later less (inr first) (inl second) =
    absurd (let its = early later_op later_from later_to later is_later second in omega (arith, its.0, first.1, less))
marks-command script t n op later_op from to later_from later_to k d later v early turn is_d is_later less (inr first) (inr second) =
    absurd (omega (arith, less, first.1, second.1))

-- ---- what the passes keep

-- a bound on both kinds of ops
AreBelow-under : (t taken made bound : ℕ) (v : JournalsValue)
    → taken ≤ bound → made ≤ bound → AreBelow t taken made v
    → AreBelow t bound bound v
AreBelow-under t taken made bound v first second below = record {
  commands = λ k h at mine. let less = below.commands k h at mine in omega (arith, less, first);
  entries = λ i p e at mine. let less = below.entries i p e at mine in omega (arith, less, second);
}

-- the ops before it have done what they did
HasDone-command : (script : ScriptValue) (t n : ℕ) (v : JournalsValue) (h : TreeEntryValue)
    → h.thread ≡ t → h.op ≡ n → HasDone script v t n
    → HasDone script (with_command v h) t n
HasDone-command script t n v h thread number done = record {
  commands_once = λ op c less is.
      let other : is_taken_from t op h ≡ false = fails (is_taken_from t op h)
      (λ its. let same = both_eqb-true h.thread t h.op op its in omega (arith, same.1, number, less)) in
      ap length (filter_push_false (is_taken_from t op) v.tree h other) ∙ done.commands_once op c less is;
  entries_once = λ i op c within less is.
      makes_command script v h i t op c (made_in v i t op)
      (λ its. let same = both_eqb-true h.thread t h.op op its in omega (arith, same.1, number, less))
      (done.entries_once i op c within less is);
  few = done.few;
  accesses = λ i p e c at mine is.
      IsTrueIfAccess-prefix script v.tree (v.tree ++ h ∷ []) e c (IsPrefix-push v.tree h) (done.accesses i p e c at mine is);
}

-- with its command, op n, at the end of the tree's history
pub PassesKeepFrom-command : (script : ScriptValue) (start : JournalsValue) (t n : ℕ) (v : JournalsValue) (h : TreeEntryValue)
    → h.thread ≡ t → h.op ≡ n → PassesKeepFrom script start t n n (n + 1) v
    → PassesKeepFrom script start t n (n + 1) (n + 1) (with_command v h)
PassesKeepFrom-command script start t n v h thread number keeps =
    let k : ℕ = length v.tree in
    let under : AreBelow t (n + 1) (n + 1) v = AreBelow-under t n (n + 1) (n + 1) v (omega arith) (omega arith) keeps.below in
    let early : (op from to : ℕ) (d : Op) → op_at script t op ≡ Some d → HasMarks v t op d from to → (op < n + 1) × (to ≤ k) =
    λ op from to d is marks. (
      HasMarks-below t (n + 1) op from to d v under marks,
      HasMarks-within script t n op from to d v keeps.done is marks,
    ) in
    let had : (op from to : ℕ) (d : Op) → op_at script t op ≡ Some d → HasMarks (with_command v h) t op d from to
    → HadMarks v t n k (k + 1) t op d from to = λ op from to d is marks.
    subst (λ u. HadMarks v u n k (k + 1) t op d from to) thread
    (subst (λ o. HadMarks v h.thread o k (k + 1) t op d from to) number (marks_of_taken script v h t op from to d is marks)) in
    record {
      begins = HasGrown-through start v (with_command v h) keeps.begins (HasGrown-command v h);
      after = record {
        commands = λ q x at mine. elim (at_push v.tree h q x at) [
          | inl old ↦ keeps.after.commands q x old mine
          | inr new ↦ let fits = length-prefix start.tree v.tree keeps.begins.tree in omega (arith, fits, new.0)
        ];
        entries = keeps.after.entries;
        epochs = keeps.after.epochs;
      };
      below = record {
        commands = λ q x at mine. elim (at_push v.tree h q x at) [
          | inl old ↦ let less = keeps.below.commands q x old mine in omega (arith, less)
          | inr new ↦ omega (arith, number, ap (λ (y : TreeEntryValue). y.op) new.1)
        ];
        entries = keeps.below.entries;
      };
      done = HasDone-command script t n v h thread number keeps.done;
      in_turn = record {
        marks = λ op later_op from to later_from later_to d later is_d is_later less first second.
            marks-command script t n op later_op from to later_from later_to k d later v early keeps.in_turn is_d is_later less
            (had op from to d is_d first) (had later_op later_from later_to later is_later second);
        entries = keeps.in_turn.entries;
      };
    }
