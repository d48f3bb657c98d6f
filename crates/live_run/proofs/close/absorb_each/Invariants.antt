use Rattle.std.proofs.Common.{◌≡◌, ℕ, ◌≤◌}
use Rattle.live_run.proofs.close.absorb_each.Given as goal
use Rattle.live_run.specs.Cells.{SliceCellValue}
use Rattle.live_run.specs.Closings.{HaveTakenIn}
use Rattle.live_run.specs.Openings.{part_at}

abbrev pub invariant-loop-i : goal.invariant-loop-i
invariant-loop-i g l = record {
  taken : HaveTakenIn l.i l.fn.all l.all l.fn.parts.items l.parts.items;
  rest : (k : ℕ) (d : SliceCellValue) → l.i ≤ k → part_at l.parts.items k d ≡ part_at l.fn.parts.items k d;
}
