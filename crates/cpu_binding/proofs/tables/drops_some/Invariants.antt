use Rattle.std.proofs.Common.{◌≡◌, ◌<◌, ℕ, true, false, get_or}
use Rattle.cpu_binding.specs.Groups.{has_control, opening_cpu}
use Rattle.rc_base.specs.Gids.{default_gid}
use Rattle.cpu_binding.specs.Sets.{has_cpu}
use Rattle.cpu_binding.proofs.tables.drops_some.Given as goal

abbrev pub invariant-loop-cpu : goal.invariant-loop-cpu
invariant-loop-cpu l = (k : ℕ) → k < l.cpu → has_control default_gid (get_or l.groups k opening_cpu) ≡ true → has_cpu l.set k ≡ false → ⊥
