use Rattle.std.proofs.Common.{◌≡◌, ◌<◌, ℕ, true, false, get_or}
use Rattle.cpu_binding.specs.Groups.{has_control, opening_cpu}
use Rattle.cpu_binding.specs.Sets.{has_cpu}
use Rattle.cpu_binding.proofs.tables.has_others.Given as goal

abbrev pub invariant-loop-cpu : goal.invariant-loop-cpu
invariant-loop-cpu l = (k : ℕ) → k < l.cpu → has_control l.parent (get_or l.groups k opening_cpu) ≡ false → has_cpu l.set k ≡ true → ⊥
