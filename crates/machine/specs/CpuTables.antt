-- Tables of the domains of CPUs.
use Rattle.std.specs.Prelude.{◌≡◌, ℕ, ◌*◌, ◌/◌, ◌<◌, List, length, slice_index}

-- a table of the domains of all CPUs of a machine, with room for the most CPUs that one has: CPUs go to the domains in order,
-- as evenly as they can
pub record IsCpuTable (domains cpus : ℕ) (table : List ℕ) : Type 0 where
  pub room : length table ≡ 64
  pub each : (cpu : ℕ) → cpu < cpus → slice_index table cpu ≡ cpu * domains / cpus
