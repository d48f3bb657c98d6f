-- What is counted of a window of a run.
use Rattle.std.specs.Prelude.{◌≡◌, ℕ, List, length}
use Rattle.cache_core.specs.declared.entry.SliceEntry.{SliceEntry}
use Rattle.cbm.specs.Masks.{ways_of}
use Rattle.machine.specs.Slices.{slice_number}
use Rattle.private_lru.specs.GroupCounts.{accesses_of, covered_private_hits, hits_of_group}
use Rattle.private_lru.specs.Covered.{covered}
use Rattle.private_lru.specs.Isolation.{between}
use Rattle.run_law.specs.Journals.{JournalsValue, slice_at}
use Rattle.run_counts.specs.declared.window.Window.{Window}
use Rattle.run_windows.specs.Windows.{IsWindow}
use Rattle.script_ops.specs.Values.{ScriptValue}

-- The counts of a window of a group with so many ways: of its accesses, of those that are covered, and of the covered that hit
-- in a private cache of as many ways.
pub record AreCounts (sets group ways : ℕ) (opening : SliceEntry) (entries : List SliceEntry) (w : Window) : Type 0 where
  pub ways_is : w.ways ≡ ways
  pub accesses_is : w.accesses ≡ accesses_of group entries
  pub hits_is : w.hits ≡ hits_of_group group entries
  pub covered_is : w.covered ≡ length (covered sets group opening.what entries)
  pub covered_hits_is : w.covered_hits ≡ hits_of_group group (covered sets group opening.what entries)
  pub private_is : w.private ≡ covered_private_hits sets group ways opening.what entries
  pub same : w.covered_hits ≡ w.private

-- A window of a run, with its place and its counts.
pub record IsCountedWindow (script : ScriptValue) (j : JournalsValue) (opening : SliceEntry) (mask last : ℕ) (w : Window) : Type 0 where
  pub to : ℕ
  pub is : IsWindow script j (slice_number script.machine w.domain w.slice) w.from to opening w.gid mask last
  pub counts : AreCounts script.machine.sets w.gid.0 (length (ways_of mask)) opening (between (slice_at j (slice_number script.machine w.domain w.slice)) w.from to) w
