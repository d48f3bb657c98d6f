-- What holds when all threads are at their ends, and what it gives.
-- (For functions and proofs: no promise of the program stands on it.)
use Rattle.std.specs.Prelude.{◌≡◌, ℕ, ◌<◌, length}
use Rattle.machine.specs.Slices.{slice_count}
use Rattle.run_law.specs.Journals.{JournalsValue, slice_at}
use Rattle.run_law.specs.Runs.{IsRun}
use Rattle.script_ops.specs.Values.{ScriptValue, ops_of, threads_of}
use Rattle.tree_law.specs.State.{State}
use Rattle.live_law.specs.Cells.{SliceKeeps, TreeKeeps}
use Rattle.live_law.specs.Passes.{PassesKeep}
use Rattle.live_law.specs.SeenJournals.{SeesMore}

-- a thread is at its end: its passes keep what they keep with all its ops done, and the journals have nothing more of it
abbrev pub IsAtEnd : ScriptValue → JournalsValue → ℕ → Type 0
IsAtEnd script j t = (v : JournalsValue) × PassesKeep script t (length (ops_of script t)) v × SeesMore t v j

-- the cells keep what they keep of the whole journals, and each thread is at its end
pub record AllAtEnd (script : ScriptValue) (j : JournalsValue) : Type 0 where
  pub count : length j.slices ≡ slice_count script.machine
  pub state : State
  pub tree : TreeKeeps script state j
  pub slices : (i : ℕ) → i < slice_count script.machine → SliceKeeps script i j.tree (slice_at j i)
  pub passes : (t : ℕ) → t < length (threads_of script) → IsAtEnd script j t

-- then the journals are a run
abbrev pub EachEndIsARun : Type 0
EachEndIsARun = (script : ScriptValue) (j : JournalsValue) → AllAtEnd script j → IsRun script j
