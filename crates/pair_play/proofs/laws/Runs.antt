-- The end of a script: what was played is a run.
use Rattle.std.proofs.Common.{◌≡◌, ℕ, List, length, map, sym, ap, ◌∙◌, subst, arith}
use Rattle.std.specs.List.{All, flat_map, range_with_len}
use Rattle.cache_core.specs.History.{IsLegal, shape_of}
use Rattle.cache_core.specs.declared.entry.SliceEntry.{SliceEntry}
use Rattle.machine.specs.declared.parameters.Parameters.{Parameters}
use Rattle.pair_law.specs.Epochs.{replies_to}
use Rattle.pair_law.specs.State.{opening}
use Rattle.pair_text.specs.Values.{PairScriptValue, commands_of}
use Rattle.pair_play.specs.Histories.{LevelValue}
use Rattle.pair_play.specs.SoFar.{IsLevelSoFar}
use Rattle.pair_law.specs.Entries.{asked_by, slice_in}
use Rattle.pair_law.specs.PairRuns.{IsPairRun}
use Rattle.rc_base.specs.declared.replies.Reply.{Reply}

-- in the caches of a level, after all ops
pub IsPairRun-IsLevelSoFar : (script : PairScriptValue) (answers : List Reply) (asked : ℕ → ℕ → List SliceEntry) (p : Parameters) (epoch : ℕ) (l : LevelValue) (histories : List (List SliceEntry))
    → answers ≡ replies_to script.machines (opening script.machines script.tasks) (commands_of script) → IsLevelSoFar asked p (length script.ops) epoch l → All (IsLegal (shape_of l.parameters 0)) l.histories → histories ≡ l.histories
    → IsPairRun script answers p (λ domain. flat_map (asked domain) (range_with_len 0 (length script.ops))) histories
IsPairRun-IsLevelSoFar script answers asked p epoch l histories replies so_far legal same = record {
  replies = replies;
  one_each = ap length same ∙ so_far.one_each;
  entries = λ domain lt. ap (λ (hs : List (List SliceEntry)). map asked_by (slice_in hs domain)) same ∙ (so_far.each domain lt).entries;
  legal = λ domain lt.
      subst (λ (q : Parameters). IsLegal (shape_of q 0) (slice_in histories domain)) so_far.parameters
      (subst (λ (hs : List (List SliceEntry)). IsLegal (shape_of l.parameters 0) (slice_in hs domain)) (sym same) (legal domain _ (omega (arith, so_far.one_each))));
}
