use Rattle.std.proofs.Common.{◌≡◌, ℕ, ◌*◌, ◌/◌, ◌<◌, length, get_or}
use Rattle.machine.proofs.cpu_table.cpu_table.Given as goal

abbrev pub invariant-loop-cpu : goal.invariant-loop-cpu
invariant-loop-cpu l = record {
  room : length l.table ≡ 64;
  each : (k : ℕ) → k < l.cpu → get_or l.table k 0 ≡ k * l.domains / l.cpus;
}
