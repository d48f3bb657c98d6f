-- The end of a script on two levels.
use Rattle.std.proofs.Common.{◌≡◌, List, [], length, IsSome, Option, None, Some, refl, sym, subst}
use Rattle.std.specs.List.{All}
use Rattle.cache_core.specs.History.{IsLegal, shape_of}
use Rattle.cache_core.specs.declared.entry.SliceEntry.{SliceEntry}
use Rattle.l2_level.specs.SoFar.{IsLevelsSoFar, journals_of}
use Rattle.l2_level.specs.Windows.{WindowsAreIsolated}
use Rattle.machine.specs.declared.parameters.Parameters.{Parameters}
use Rattle.pair_law.specs.Epochs.{replies_to}
use Rattle.pair_law.specs.State.{opening}
use Rattle.pair_text.specs.Values.{IsLawful, PairScriptValue, commands_of, side_machine}
use Rattle.pair_text.specs.declared.side.Side.{Side}
use Rattle.pair_text.specs.declared.side.Side.TheVariants.{First, Second}
use Rattle.pair_play.proofs.laws.Runs.{IsPairRun-IsLevelSoFar}
use Rattle.pair_play.specs.Histories.{LevelValue}
use Rattle.pair_law.proofs.laws.LevelWindows.{HitsAsPrivate-joint_window}
use Rattle.pair_law.specs.RunLaws.{HitsAsPrivate}
use Rattle.pair_law.specs.LevelRuns.{IsLevelRun, LevelJournalsValue, asked, asked_at, level}
use Rattle.pair_law.specs.PairRuns.{IsPairRun}

-- journals with these histories of the L2 caches
abbrev with_l2 : List (List SliceEntry) → LevelJournalsValue
with_l2 histories = record { replies = []; l2 = histories; l3 = [] }

-- the journals after all ops are a run; what the L3 is asked depends on the histories of the L2 alone
pub IsLevelRun-IsLevelsSoFar : (script : PairScriptValue) (first second : LevelValue) (j : LevelJournalsValue) → j.replies ≡ replies_to script.machines (opening script.machines script.tasks) (commands_of script)
    → IsLevelsSoFar script (length script.ops) first second → All (IsLegal (shape_of first.parameters 0)) first.histories → All (IsLegal (shape_of second.parameters 0)) second.histories
    → j.l2 ≡ first.histories → j.l3 ≡ second.histories → IsLevelRun script j
IsLevelRun-IsLevelsSoFar script first second j replies so_far legal_l2 legal_l3 l2 l3 = at
  where
    at : (side : Side) → IsPairRun script j.replies (side_machine script.machines side) (asked script j side) (level j side)
    at First = IsPairRun-IsLevelSoFar script j.replies (asked_at script j First) (side_machine script.machines First) _ first j.l2 replies so_far.l2 legal_l2 l2
    at Second =
        subst (λ (hs : List (List SliceEntry)). IsPairRun script j.replies (side_machine script.machines Second) (asked script (with_l2 hs) Second) j.l3) (sym l2)
        (IsPairRun-IsLevelSoFar script j.replies (asked_at script (journals_of first second) Second) (side_machine script.machines Second) _ second j.l3 replies so_far.l3 legal_l3 l3)

-- in the windows of a run the covered uses do what they would do alone
pub WindowsAreIsolated-run : (script : PairScriptValue) (j : LevelJournalsValue) → IsLawful script → IsSome script.machines.l2 → IsLevelRun script j → WindowsAreIsolated script j
WindowsAreIsolated-run script j lawful levels run domain from to group mask masks last i task cpu line code window after before is at by covered = by_l2 script.machines.l2 refl levels
  where
    by_l2 : (o : Option Parameters) → script.machines.l2 ≡ o → IsSome o → HitsAsPrivate script j domain from group mask masks i cpu line
    by_l2 None none some = absurd cc
    by_l2 (Some l2) same some = HitsAsPrivate-joint_window script j l2 domain from to group mask masks last i task cpu line code lawful same run window after before is at by covered
