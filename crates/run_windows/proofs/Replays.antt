-- A tree that takes the commands of a run once more.
use Rattle.std.proofs.Common.{◌≡◌, ℕ, ◌+◌, ◌≤◌, List, length, Option, None, Some, refl, sym, subst, ap, ◌∙◌, arith}
use Rattle.std.proofs.lemmas.Option.{slice_get_within}
use Rattle.machine.specs.declared.parameters.Parameters.{Parameters}
use Rattle.run_law.specs.Journals.{At, JournalsValue}
use Rattle.run_law.specs.TreeHistory.{TreeEntryValue, state_after, tree_after}
use Rattle.run_replay.proofs.laws.Steps.{state_before-suc}
use Rattle.run_replay.specs.Playbacks.{HasTaken, state_before}
use Rattle.run_windows.proofs.OtherGroups.{AreKeptBut-next}
use Rattle.run_windows.specs.Changes.{AreKeptBut, IsReplayed, changed_by}
use Rattle.script_ops.specs.Values.{ScriptValue, op_at}
use Rattle.script_ops.specs.declared.op.Op.{Op}
use Rattle.tree_core.specs.Values.{TreeValue}
use Rattle.tree_law.specs.State.{State}

-- a command, where there is one, leaves all exclusive groups but one
AreKeptBut-after : (m : Parameters) (s : State) (looks : List ℕ) (op : Option Op) → AreKeptBut (changed_by s op) s (state_after m s looks op)
AreKeptBut-after m s looks None = refl
AreKeptBut-after m s looks (Some op) = AreKeptBut-next m s op looks

module _ (script : ScriptValue) (j : JournalsValue) where
  -- the tree is that of its epoch
  pub IsReplayed-taken : (t : TreeValue) → HasTaken script j.tree t → t.epoch ≤ length j.tree → IsReplayed script j t
  unfolding tree_after
  IsReplayed-taken t taken known = record { machine = taken.replay.machine; state = taken.state; known = known }

  -- so it is before a command
  pub IsReplayed-at : (t : TreeValue) (k : ℕ) (h : TreeEntryValue) → HasTaken script j.tree t → t.epoch ≡ k → At j.tree k h → IsReplayed script j t
  IsReplayed-at t k h taken at there = IsReplayed-taken t taken (let within = slice_get_within j.tree k h there in omega (arith, at, within))

  -- and after it
  pub IsReplayed-past : (t : TreeValue) (k : ℕ) (h : TreeEntryValue) → HasTaken script j.tree t → t.epoch ≡ k + 1 → At j.tree k h → IsReplayed script j t
  IsReplayed-past t k h taken at there = IsReplayed-taken t taken (let within = slice_get_within j.tree k h there in omega (arith, at, within))

  -- the command at a position leaves all exclusive groups but the one that it may change
  pub AreKeptBut-taken : (t u : TreeValue) (k : ℕ) (h : TreeEntryValue) → HasTaken script j.tree t → t.epoch ≡ k → HasTaken script j.tree u → u.epoch ≡ k + 1 → At j.tree k h
      → AreKeptBut (changed_by t.state (op_at script h.thread h.op)) t.state u.state
  AreKeptBut-taken t u k h before at after past there =
      let was : t.state ≡ state_before script j.tree k = before.state ∙ ap (state_before script j.tree) at in
      let is : u.state ≡ state_after script.machine t.state h.looks (op_at script h.thread h.op) =
      after.state
      ∙ (ap (state_before script j.tree) past
      ∙ (state_before-suc script j.tree k h there ∙ ap (λ (s : State). state_after script.machine s h.looks (op_at script h.thread h.op)) (sym was))) in
      subst (AreKeptBut (changed_by t.state (op_at script h.thread h.op)) t.state) (sym is) (AreKeptBut-after script.machine t.state h.looks (op_at script h.thread h.op))
