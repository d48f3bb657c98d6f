-- Before the first op of a script on two levels.
use Rattle.std.proofs.Common.{◌≡◌, List, [], length, Option, Some, unwrap_or, sym, ap, ◌∙◌}
use Rattle.std.specs.List.{All}
use Rattle.cache_core.specs.declared.entry.SliceEntry.{SliceEntry}
use Rattle.l2_level.specs.SoFar.{IsLevelsSoFar, journals_of}
use Rattle.machine.specs.declared.parameters.Parameters.{Parameters}
use Rattle.pair_text.specs.Values.{PairScriptValue, epoch_at, side_machine}
use Rattle.pair_text.specs.declared.side.Side.TheVariants.{First, Second}
use Rattle.pair_play.proofs.laws.LevelsSoFar.{IsLevelSoFar-none}
use Rattle.pair_play.specs.Histories.{LevelValue}
use Rattle.pair_law.specs.LevelRuns.{asked_at}

pub IsLevelsSoFar-none : (script : PairScriptValue) (p : Parameters) (first second : LevelValue) → script.machines.l2 ≡ Some p
    → first.parameters ≡ p → length first.histories ≡ p.domains → All (λ (h : List SliceEntry). h ≡ []) first.histories
    → second.parameters ≡ script.machines.machine → length second.histories ≡ script.machines.machine.domains → All (λ (h : List SliceEntry). h ≡ []) second.histories
    → IsLevelsSoFar script 0 first second
IsLevelsSoFar-none script p first second is l2 l2_count l2_empty l3 l3_count l3_empty =
    let same : p ≡ side_machine script.machines First = sym (ap (λ (o : Option Parameters). unwrap_or o script.machines.machine) is) in
    record {
      l2 = IsLevelSoFar-none (asked_at script (journals_of first second) First) (side_machine script.machines First) (epoch_at script 0) first (l2 ∙ same) (l2_count ∙ ap (λ (q : Parameters). q.domains) same) l2_empty;
      l3 = IsLevelSoFar-none (asked_at script (journals_of first second) Second) script.machines.machine (epoch_at script 0) second l3 l3_count l3_empty;
    }
