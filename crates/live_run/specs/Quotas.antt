-- How many entries each pass may add.
-- (For functions and proofs: no promise of the program stands on it.)
use Rattle.std.specs.Prelude.{◌≡◌, ℕ, ◌<◌, List, [], ◌∷◌, ◌++◌, length, map, replicate}
use Rattle.live_run.specs.Names.{name_at}
use Rattle.machine.specs.Slices.{slice_count}
use Rattle.run_law.specs.Quotas.{commands_of, quotas_of}
use Rattle.script_ops.specs.Values.{ScriptValue, threads_of}
use Rattle.seen_journal.specs.Journals.{JournalName}

-- in the tree's journal the pass of a thread as many as it has commands, and the passes of the slices' cells none
abbrev pub tree_quotas : ScriptValue → List ℕ
tree_quotas script = map commands_of (threads_of script) ++ replicate (slice_count script.machine) 0

-- in a slice's journal the pass of a thread as many as its ops can make there, and the pass of the tree's cell none
abbrev pub slice_quotas : ScriptValue → ℕ → List ℕ
slice_quotas script i = map (quotas_of script.machine i) (threads_of script) ++ 0 ∷ []

-- The named journals have these quotas.
pub record HaveQuotas (script : ScriptValue) (tree : JournalName) (slices : List JournalName) : Type 0 where
  pub tree_are : tree.quotas ≡ tree_quotas script
  pub count : length slices ≡ slice_count script.machine
  pub slices_are : (i : ℕ) → i < slice_count script.machine → (name_at slices i).quotas ≡ slice_quotas script i
