-- What a thread's passes keep when its command has made one entry more.
use Rattle.std.proofs.Common.{◌≡◌, ℕ, ◌+◌, ◌≤◌, List, length, Some, subst, arith}
use Rattle.std.specs.Prelude.{IsTrue}
use Rattle.cache_core.specs.declared.entry.SliceEntry.{SliceEntry}
use Rattle.run_law.specs.Journals.{JournalsValue}
use Rattle.run_law.specs.Ops.{is_command}
use Rattle.run_law.specs.Order.{HasMarks}
use Rattle.run_law.specs.Owed.{owed_by_access, paid_by}
use Rattle.run_law.proofs.laws.GrownLists.{Adds, with_slices}
use Rattle.run_law.proofs.laws.NotedTruth.{one_op}
use Rattle.run_law.proofs.laws.OpKinds.{of_command}
use Rattle.run_law.proofs.laws.NewMarks.{marks_of_command}
use Rattle.script_ops.specs.Values.{ScriptValue, op_at}
use Rattle.script_ops.specs.declared.op.Op.{Op}
use Rattle.live_law.specs.DoneOps.{IsTrueIfAccess}
use Rattle.live_law.specs.Passes.{PassesKeepFrom}
use Rattle.live_law.proofs.laws.AddedEntries.{AreBelow-adds, HasDone-adds, HasGrown-adds, StandAfter-adds, in_turn-adds}
use Rattle.live_law.proofs.laws.SeenJournals.{HasGrown-through}

-- of an entry of a command nothing is to be shown
IsTrueIfAccess-command : (script : ScriptValue) (v : JournalsValue) (e : SliceEntry) (c : Op)
    → IsTrue (is_command c)
    → IsTrueIfAccess script v.tree e c
IsTrueIfAccess-command script v e c command =
    of_command (λ task cpu addr. (e.epoch ≤ length v.tree) × (paid_by e ≡ owed_by_access script v.tree e.epoch task cpu addr))
    (Unit {0}) c command tt

-- with an entry of op n, a command, whose epoch is not before the start
pub PassesKeepFrom-note : (script : ScriptValue) (start : JournalsValue) (t n taken : ℕ) (c : Op) (v : JournalsValue)
    (slices : List (List SliceEntry)) (i : ℕ) (e : SliceEntry)
    → Adds v slices i e → e.thread ≡ t → e.op ≡ n → op_at script t n ≡ Some c → IsTrue (is_command c) → length start.tree ≤ e.epoch
    → PassesKeepFrom script start t n taken (n + 1) v
    → PassesKeepFrom script start t n taken (n + 1) (with_slices v slices)
PassesKeepFrom-note script start t n taken c v slices i e adds thread number is_op command late keeps =
    let there : op_at script e.thread e.op ≡ Some c = rw (thread, number) is_op in
    let old : (op from to : ℕ) (d : Op) → op_at script t op ≡ Some d → HasMarks (with_slices v slices) t op d from to
    → HasMarks v t op d from to =
    λ op from to d is marks. marks_of_command script v slices i e c adds there command t op from to d is marks in
    record {
      begins = HasGrown-through start v (with_slices v slices) keeps.begins (HasGrown-adds v slices i e adds);
      after = StandAfter-adds v slices i e adds t start keeps.begins late keeps.after;
      below = AreBelow-adds v slices i e adds t taken (n + 1) (n + 1) (omega arith) (omega (arith, number)) keeps.below;
      done = HasDone-adds v slices i e adds script t n (omega (arith, number))
          (λ d mine is.
          let same : c ≡ d = one_op script t n c d is_op (subst (λ o. op_at script t o ≡ Some d) number is) in
          IsTrueIfAccess-command script v e d (subst (λ x. IsTrue (is_command x)) same command))
          keeps.done;
      in_turn = record {
        marks = λ op later_op from to later_from later_to d later is_d is_later less first second.
            keeps.in_turn.marks op later_op from to later_from later_to d later is_d is_later less (old op from to d is_d first)
            (old later_op later_from later_to later is_later second);
        entries = in_turn-adds v slices i e adds script t taken (n + 1) (omega (arith, number)) keeps.below keeps.in_turn;
      };
    }
