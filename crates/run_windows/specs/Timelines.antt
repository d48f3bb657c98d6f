-- The changes of the exclusive groups of a run, asked for those of a domain.
-- (For functions and proofs: no promise of the program stands on it.)
use Rattle.std.specs.Prelude.{ℕ, ◌+◌, ◌<◌, [], length}
use Rattle.run_law.specs.Runs.{IsRun}
use Rattle.run_windows.specs.Changes.{AreChanges}
use Rattle.run_windows.specs.Edits.{changes_of}
use Rattle.run_windows.specs.Sweeps.{AreMarks}
use Rattle.run_windows.specs.declared.timeline.TheConstants.{STEP}
use Rattle.run_windows.specs.declared.timeline.Timeline.{Timeline}
use Rattle.script_ops.specs.Values.{IsLawful}

-- the changes of a run, with marks in a domain of its machine
pub record IsTimeline (domain : ℕ) (t : Timeline) : Type 0 where
  pub lawful : IsLawful t.run.script.now
  pub run : IsRun t.run.script.now t.run.journals.now
  pub domain_exists : domain < t.run.script.now.machine.domains
  pub changes : AreChanges t.run.script.now t.run.journals.now (length t.run.journals.now.tree + 1) (changes_of [] t.pasts.now)
  pub marks : AreMarks domain (length t.run.journals.now.tree) STEP t.pasts.now t.marks.items
