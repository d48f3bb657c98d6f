-- When journals are a run of a script: a legal history of the tree and of each slice, every entry true to its op, and every
-- op there once and in its thread's order.
use Rattle.std.specs.Prelude.{◌≡◌, ℕ, ◌<◌, length}
use Rattle.cache_core.specs.History.{IsLegal}
use Rattle.run_law.specs.Journals.{JournalsValue, slice_at}
use Rattle.run_law.specs.Looks.{AreMatched}
use Rattle.run_law.specs.Order.{AreInOrder}
use Rattle.run_law.specs.Slices.{shape_in}
use Rattle.machine.specs.Slices.{slice_count}
use Rattle.run_law.specs.TreeHistory.{IsLegalTree}
use Rattle.run_law.specs.Truth.{AreTrue}
use Rattle.script_ops.specs.Values.{ScriptValue}

-- The journals are a run of the script.
pub record IsRun (script : ScriptValue) (j : JournalsValue) : Type 0 where
  pub all_slices : length j.slices ≡ slice_count script.machine
  pub tree_legal : IsLegalTree script j.tree
  pub slices_legal : (i : ℕ) → i < slice_count script.machine → IsLegal (shape_in script.machine i) (slice_at j i)
  pub entries_true : AreTrue script j
  pub looks_matched : AreMatched script j
  pub in_order : AreInOrder script j
