-- What a command does to the exclusive groups of a tree that is played once more.
use Rattle.std.proofs.Common.{◌≡◌, ◌+◌, List, Some, sym, subst, ap, ◌∙◌}
use Rattle.rc_base.specs.declared.names.Gid.{Gid}
use Rattle.run_law.specs.Journals.{JournalsValue}
use Rattle.run_law.specs.Runs.{IsRun}
use Rattle.run_windows.proofs.ChangeLists.{latest-exclusive}
use Rattle.run_windows.proofs.KeptStays.{AreRisen-state_at}
use Rattle.run_windows.proofs.ExclusiveLists.{AreInOrder-exclusive, others-kept}
use Rattle.run_windows.specs.Changes.{AreChanges, AreKeptBut, IsReplayed, logged}
use Rattle.run_windows.specs.OneGroup.{AreInOrder, others}
use Rattle.run_windows.specs.Stays.{exclusive_in}
use Rattle.run_windows.specs.declared.changes.Log.{Log}
use Rattle.run_windows.specs.declared.exclusive_group.ExclusiveGroup.{ExclusiveGroup}
use Rattle.script_ops.specs.Values.{IsLawful, ScriptValue}
use Rattle.tree_core.specs.Values.{TreeValue}
use Rattle.tree_law.proofs.laws.RisingGroups.{AreRisen}
use Rattle.tree_law.specs.State.{State}

module _ (script : ScriptValue) (j : JournalsValue) (lawful : IsLawful script) (run : IsRun script j) where
  -- its groups rise
  pub AreRisen-replayed : (t : TreeValue) → IsReplayed script j t → AreRisen t.state.groups
  AreRisen-replayed t replayed = subst (λ (s : State). AreRisen s.groups) (sym replayed.state) (AreRisen-state_at script j t.epoch lawful run replayed.known)

  -- the latest exclusive ones are in order
  pub AreInOrder-latest : (t : TreeValue) (log : Log) → IsReplayed script j t → AreChanges script j (t.epoch + 1) (logged log) → AreInOrder log.latest.items
  AreInOrder-latest t log replayed are =
      subst (λ (l : List ExclusiveGroup). AreInOrder l) (sym (latest-exclusive script j t log replayed are)) (AreInOrder-exclusive t.state.groups (AreRisen-replayed t replayed))

  -- and all but one of them are those after a command
  pub others-latest : (t u : TreeValue) (log : Log) (gid : Gid) → IsReplayed script j t → AreChanges script j (t.epoch + 1) (logged log) → AreKeptBut (Some gid) t.state u.state
      → others gid log.latest.items ≡ others gid (exclusive_in u.state.groups)
  others-latest t u log gid replayed are kept = ap (others gid) (latest-exclusive script j t log replayed are) ∙ others-kept gid t.state.groups u.state.groups kept
