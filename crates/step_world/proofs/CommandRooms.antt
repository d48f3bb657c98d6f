-- The tree has not yet had all commands of the script while one is looking.
use Rattle.std.proofs.Common.{◌≡◌, ℕ, ◌-◌, ◌<◌, ◌≤◌, inl, inr, List, [], ◌∷◌, ◌++◌, length, filter, take, get_or, Option, Some, refl, sym, ap, ◌∙◌, subst, arith}
use Rattle.std.specs.Prelude.{IsSome, IsTrue}
use Rattle.std.proofs.lemmas.Bool.{cases_lt}
use Rattle.std.proofs.lemmas.List.{length_push}
use Rattle.std.proofs.lemmas.Option.{get_or_from_slice_get, slice_get_within, same_Some}
use Rattle.lists.specs.Sums.{one_if}
use Rattle.rc_base.proofs.laws.Histories.{EachFollows-at}
use Rattle.rc_base.specs.declared.replies.Reply.TheVariants as replies
use Rattle.run_law.proofs.laws.CountedOps.{length-quotas}
use Rattle.run_law.proofs.laws.Pairs.{both_eqb-true}
use Rattle.run_law.proofs.laws.Positions.{At-append, At-one}
use Rattle.run_law.proofs.laws.SoundHistories.{IsTaken-follows}
use Rattle.run_law.specs.Growth.{IsKept}
use Rattle.run_law.specs.Journals.{At}
use Rattle.run_law.specs.Ops.{is_command}
use Rattle.run_law.specs.Progress.{HasBegun, Progress}
use Rattle.run_law.specs.Quotas.{command_count}
use Rattle.run_law.specs.TreeHistory.{CommandMayFollow, TreeEntryValue}
use Rattle.run_law.specs.Truth.{is_taken_from}
use Rattle.script_ops.specs.Values.{ScriptValue, op_at}
use Rattle.script_ops.specs.declared.op.Op.{Op}
use Rattle.step_world.proofs.laws.EntryRooms.{found}
use Rattle.step_world.proofs.laws.MachineStates.{at_can_be}
use Rattle.step_world.specs.Machine.{MachineValue, thread_at}
use Rattle.step_world.specs.Moments.{IsRunSoFar, progress_by, progress_in}
use Rattle.step_world.specs.declared.thread_state.ThreadState.TheVariants.{Looking}

module _ (script : ScriptValue) (s : MachineValue) (t made : ℕ) (op : Op) (so_far : IsRunSoFar script s) (place : (thread_at s t).state ≡ Looking made) (is : op_at script t (thread_at s t).next ≡ Some op) where
  -- the command as it will be in the tree's history, whatever its reply
  abbrev claim : TreeEntryValue
  claim = record { thread = t; op = (thread_at s t).next; reply = replies.Ok; looks = [] }

  abbrev all : List TreeEntryValue
  all = s.journals.tree ++ claim ∷ []

  progress : progress_in s t ≡ progress_by (thread_at s t).next (Looking made)
  progress = ap (progress_by (thread_at s t).next) place

  holds : IsSome (progress_in s t).made
  holds = subst (λ (p : Progress). IsSome p.made) (sym progress) refl

  kept : IsKept script (record { tree = all; slices = s.journals.slices }) (progress_in s) s.phase
  kept = so_far.kept all (at_can_be s s.holder t (Looking made) all ((so_far.held t).0 holds) place (claim, refl, refl, refl))

  -- each entry is of a command of the script
  record IsOfCommand (e : TreeEntryValue) : Type 0 where
    pub c : Op
    pub is_op : op_at script e.thread e.op ≡ Some c
    pub command : IsTrue (is_command c)

  of_command : (k : ℕ) (e : TreeEntryValue) → At all k e → IsOfCommand e
  of_command k e at = elim (At-append s.journals.tree (claim ∷ []) k e at) [
    | inl front ↦
        let same : get_or s.journals.tree k claim ≡ e = get_or_from_slice_get s.journals.tree k e claim front in
        let may : CommandMayFollow script (take k s.journals.tree) e =
        subst (CommandMayFollow script (take k s.journals.tree)) same (EachFollows-at (CommandMayFollow script) s.journals.tree k claim so_far.legal.tree_legal (slice_get_within s.journals.tree k e front)) in
        let its = IsTaken-follows script (take k s.journals.tree) e may in
        record { c = its.op; is_op = its.is; command = its.command }
    | inr back ↦
        let same : e ≡ claim = (At-one claim (k - length s.journals.tree) e back.1).1 in
        let next_is : op_at script t (progress_in s t).next ≡ Some op = subst (λ (p : Progress). op_at script t p.next ≡ Some op) (sym progress) is in
        record { c = op; is_op = subst (λ (x : TreeEntryValue). op_at script x.thread x.op ≡ Some op) (sym same) is; command = kept.in_order.commands_hold t op next_is holds }
  ]

  each : (k : ℕ) (e : TreeEntryValue) → At all k e → IsSome (op_at script e.thread e.op)
  each k e at = let its = of_command k e at in subst (λ (o : Option Op). IsSome o) (sym its.is_op) refl

  -- each op has at most one
  few : (u o : ℕ) (c : Op) → op_at script u o ≡ Some c → length (filter (is_taken_from u o) all) ≤ one_if (is_command c)
  few u o c at = elim (cases_lt 0 (length (filter (is_taken_from u o) all))) [
    | inl some ↦
        let (k, e, there, mine) = found (is_taken_from u o) all some in
        let both = both_eqb-true e.thread u e.op o mine in
        let its = of_command k e there in
        let same : its.c ≡ c = same_Some its.c c (sym its.is_op ∙ (ap (λ v. op_at script v e.op) both.0 ∙ (ap (λ x. op_at script u x) both.1 ∙ at))) in
        let command : IsTrue (is_command c) = subst (λ x. IsTrue (is_command x)) same its.command in
        let begun : HasBegun (progress_in s u) o = subst (λ x. HasBegun (progress_in s u) x) both.1 (subst (λ v. HasBegun (progress_in s v) e.op) both.0 (kept.of_begun.commands k e there)) in
        let one : one_if (is_command c) ≡ 1 = rw command refl in
        omega (arith, kept.in_order.commands_once u o c at command begun, one)
    | inr none ↦ omega (arith, none)
  ]

  -- so that there is one to come
  pub commands-less : length s.journals.tree < command_count script
  unfolding command_count
  commands-less =
      let most = length-quotas (λ (e : TreeEntryValue). e.thread) (λ (e : TreeEntryValue). e.op) script (λ c. one_if (is_command c)) all each few in
      omega (arith, most, length_push s.journals.tree claim)
