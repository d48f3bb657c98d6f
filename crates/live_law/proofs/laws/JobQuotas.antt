-- What a command makes in a slice is within its quota.
use Rattle.std.proofs.Common.{◌≡◌, ℕ, ◌≤◌, List, length, Some, ap, arith}
use Rattle.run_law.specs.Jobs.{in_slice, jobs_of}
use Rattle.run_law.specs.Quotas.{quota}
use Rattle.run_law.specs.TreeHistory.{IsLegalTree, TreeEntryValue}
use Rattle.run_law.proofs.laws.JobLists.{owed_are}
use Rattle.run_law.proofs.laws.OpQuotas.{owed_by_command-few}
use Rattle.run_law.proofs.laws.SoundHistories.{Fits-op_at, IsSound-take}
use Rattle.script_ops.specs.Values.{IsLawful, ScriptValue, op_at}
use Rattle.script_ops.specs.declared.op.Op.{Op}
use Rattle.tree_law.proofs.laws.Counts.{NamesDomain-fits}

-- at a position of a legal history, where the tree is sound
pub in_slice-few : (script : ScriptValue) (tree : List TreeEntryValue) (t n i k : ℕ) (c : Op)
    → IsLawful script → IsLegalTree script tree → op_at script t n ≡ Some c → k ≤ length tree
    → length (in_slice i (jobs_of script tree k c)) ≤ quota script.machine i c
in_slice-few script tree t n i k c lawful legal is within =
    let names = NamesDomain-fits script.machine script.tasks c (Fits-op_at script t n c lawful is) in
    omega (
      arith,
      owed_by_command-few script tree i k c lawful.in_range (IsSound-take script tree lawful legal k within) names,
      ap length (owed_are script tree i k c lawful.in_range.some_slice),
    )
