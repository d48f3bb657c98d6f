use Rattle.std.proofs.Common.{◌≡◌, ◌≤◌, ◌*◌, ◌+◌, ◌-◌, ◌++◌, eqb, length}
use Rattle.cpu_lists.specs.Sets.{numbers_from}
use Rattle.cpu_lists.specs.Printed.{list_text, runs_of}
use Rattle.cpu_lists.proofs.RunsOfSets.{text_of}
use Rattle.cpu_lists.proofs.printing.print_list.Given as goal

abbrev pub invariant-runs : goal.invariant-runs
invariant-runs l = record {
  within : l.from ≤ 64;
  bytes : l.initial.out.bytes ++ list_text l.set ≡ l.out.bytes ++ text_of (eqb l.from 0) (runs_of (numbers_from l.set l.from));
  spare : l.out.spare + length l.out.bytes ≡ l.initial.out.spare + length l.initial.out.bytes;
  short : length l.out.bytes ≤ length l.initial.out.bytes + 3 * l.from;
}

abbrev pub decreases-runs : goal.decreases-runs
decreases-runs l = 64 - l.from
