use Rattle.std.proofs.Common.{take}
use Rattle.cache_core.specs.History.{IsLegal, shape_of}
use Rattle.machine.specs.Maps.{parameters_of}
use Rattle.journal_check.specs.Replays.{StandsFor}
use Rattle.journal_check.proofs.legality.is_legal.Given as goal

abbrev pub invariant-loop-k : goal.invariant-loop-k
invariant-loop-k l = record {
  legal : IsLegal (shape_of (parameters_of l.m) l.slice) (take l.k l.entries);
  stands : StandsFor (shape_of (parameters_of l.m) l.slice) (take l.k l.entries) l.replay;
}
