-- A run of which no command asks that a group be exclusive has no window.
use Rattle.std.proofs.Common.{◌≡◌, ℕ, zero, suc, ◌+◌, ◌≤◌, true, false, [], length, get_or, Option, refl, sym, subst, ap, ◌∙◌, arith}
use Rattle.std.specs.List.{list_any}
use Rattle.std.specs.Option.{option_map_or}
use Rattle.std.proofs.lemmas.Bool.{true≢false}
use Rattle.std.proofs.lemmas.Option.{slice_get-get_or}
use Rattle.group_tree.specs.Records.{has_gid, has_mode, mask_in}
use Rattle.group_tree.specs.declared.group.Group.{Group}
use Rattle.lists.proofs.Tests.{All-from_none, All-one, IsFound-all, find-found}
use Rattle.machine.specs.Slices.{domain_in, slice_number}
use Rattle.rc_base.specs.declared.names.Gid.{Gid}
use Rattle.rc_base.specs.declared.names.Mode.TheVariants.{Exclusive}
use Rattle.rc_base.specs.declared.replies.Reply.TheVariants as replies
use Rattle.run_law.proofs.laws.SoundHistories.{IsTaken-at}
use Rattle.run_law.specs.Journals.{At, JournalsValue}
use Rattle.run_law.specs.Runs.{IsRun}
use Rattle.run_law.specs.TreeHistory.{TreeEntryValue, tree_after}
use Rattle.run_windows.proofs.Epochs.{state_at-suc}
use Rattle.run_windows.proofs.Owners.{IsSomeAnd-parts}
use Rattle.run_windows.specs.AllWindows.{AreWindowsOf, gid_of}
use Rattle.run_windows.specs.Epochs.{state_at}
use Rattle.run_windows.specs.Quiet.{asks_exclusive, asks_in}
use Rattle.run_windows.specs.Windows.{IsExclusive}
use Rattle.run_windows.proofs.SharedCommands.{IsShared, AreShared}
use Rattle.run_windows.proofs.SharedStates.{AreShared-next}
use Rattle.script_ops.specs.Values.{ScriptValue}
use Rattle.script_ops.specs.declared.op.Op.{Op}
use Rattle.tree_law.specs.Existing.{group_of}

module _ (script : ScriptValue) (j : JournalsValue) (run : IsRun script j) (none : list_any (asks_in script) j.tree ≡ false) where
  AreShared-state_at : (k : ℕ) → k ≤ length j.tree → AreShared (state_at script j k)
  unfolding tree_after
  AreShared-state_at zero known = All-one IsShared _ refl
  AreShared-state_at (suc k) known =
      let there : At j.tree k (get_or j.tree k blank) = slice_get-get_or j.tree k blank (omega arith) in
      let h : TreeEntryValue = get_or j.tree k blank in
      let taken = IsTaken-at script j.tree k h run.tree_legal there in
      let one : suc k ≡ k + 1 = omega arith in
      let quiet : asks_exclusive taken.op ≡ false = sym (ap (λ (o : Option Op). option_map_or asks_exclusive o false) taken.is) ∙ All-from_none (asks_in script) j.tree none k blank (omega arith) in
      subst AreShared (sym (ap (state_at script j) one ∙ state_at-suc script j k h taken.op there taken.is))
      (AreShared-next script.machine (state_at script j k) taken.op h.looks (AreShared-state_at k (omega arith)) quiet)
    where
      blank : TreeEntryValue
      blank = record { thread = 0; op = 0; reply = replies.Ok; looks = [] }

  -- no group is exclusive
  IsExclusive-none : (domain : ℕ) (group : Gid) (mask k : ℕ) → k ≤ length j.tree → IsExclusive domain group mask (state_at script j k) → ⊥
  IsExclusive-none domain group mask k known is =
      let s = state_at script j k in
      let x = IsSomeAnd-parts (λ (g : Group). (has_mode Exclusive g ≡ true) × (mask_in domain g ≡ mask)) (group_of s group) is in
      true≢false (sym x.2.0 ∙ IsFound-all IsShared (has_gid group) s.groups x.0 (find-found (has_gid group) s.groups x.0 x.1) (AreShared-state_at k known))

  -- so there is no window
  pub AreWindowsOf-none : AreWindowsOf script j []
  AreWindowsOf-none = record {
    each = λ k d within. absurd (omega arith);
    all = λ s used.
        let stays = used.is.exclusive in
        let first = stays.from_first in
        let last = stays.to_last in
        absurd (IsExclusive-none (domain_in script.machine (slice_number script.machine s.domain s.slice)) (gid_of s.gid) used.mask used.opening.epoch (omega (arith, first, last)) (stays.always used.opening.epoch (omega arith) first));
    ordered = λ a b d below within. absurd (omega arith);
  }
