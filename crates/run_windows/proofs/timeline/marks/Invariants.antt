use Rattle.std.proofs.Common.{ℕ, ◌+◌, ◌*◌, ◌≤◌, length}
use Rattle.run_law.specs.Journals.{At}
use Rattle.run_windows.specs.Sweeps.{IsSwept, swept}
use Rattle.run_windows.specs.declared.sweep.Sweep.{Sweep}
use Rattle.run_windows.proofs.timeline.marks.Given as goal

abbrev pub invariant-loop-back : goal.invariant-loop-back
invariant-loop-back l = record {
  is : IsSwept (swept l.domain (length l.run.journals.now.tree) l.pasts l.back) l.sweep;
  each : (i : ℕ) (m : Sweep) → At l.marks.items i m → IsSwept (swept l.domain (length l.run.journals.now.tree) l.pasts (32 * i + 1)) m;
  all : l.back ≤ 32 * length l.marks.items;
}
