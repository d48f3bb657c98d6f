-- The ranges of a machine's parameters.
use Rattle.std.specs.Prelude.{ℕ, ◌*◌, ◌^◌, ◌<◌, ◌≤◌, IsTrue, Bool, false, ◌&&◌, nat_lt, nat_le}
use Rattle.std.specs.Int.{is_power_of_two}
use Rattle.machine.specs.declared.parameters.Parameters.{Parameters}

-- each parameter is in its range
pub record InRange (p : Parameters) : Type 0 where
  pub some_domain : 0 < p.domains
  pub domain_limit : p.domains ≤ 8
  pub some_set : 0 < p.sets
  pub set_limit : p.sets ≤ 65536
  pub set_power : IsTrue (is_power_of_two p.sets)
  pub some_way : 0 < p.ways
  pub way_limit : p.ways ≤ 32
  pub line_limit : p.domains * p.sets * p.ways ≤ 1048576
  pub some_class : 0 < p.classes
  pub class_limit : p.classes ≤ 64
  pub some_rmid : 0 < p.rmids
  pub rmid_limit : p.rmids ≤ 256
  pub cpu_each : p.domains ≤ p.cpus
  pub cpu_limit : p.cpus ≤ 64
  pub some_min : 0 < p.min
  pub min_limit : p.min ≤ p.ways
  pub shareable_limit : p.shareable < 2 ^ p.ways
  pub threshold_limit : p.threshold ≤ p.sets * 64 * p.ways
  pub some_slice : 0 < p.slices
  pub slice_limit : p.slices ≤ 16
  pub slice_power : IsTrue (is_power_of_two p.slices)
  pub slice_sets : p.slices ≤ p.sets
  pub slice_total : p.domains * p.slices ≤ 32

-- ---- the same as a test

-- whether a number is in a range, its ends included
abbrev pub is_within : ℕ → ℕ → ℕ → Bool
is_within low high n = nat_le low n && nat_le n high

-- caches of sets of ways, with at most 1,048,576 lines together
abbrev pub has_caches : Parameters → Bool
has_caches p =
    is_within 1 8 p.domains && is_power_of_two p.sets && nat_le p.sets 65536 && is_within 1 32 p.ways
    && nat_le (p.domains * p.sets * p.ways) 1048576

-- slices of these caches, each of whole sets, and at most 32 together
abbrev pub has_slices : Parameters → Bool
has_slices p =
    is_power_of_two p.slices && nat_le p.slices 16 && nat_le p.slices p.sets && nat_le (p.domains * p.slices) 32

-- classes, RMIDs and CPUs
abbrev pub has_ids : Parameters → Bool
has_ids p = is_within 1 64 p.classes && is_within 1 256 p.rmids && is_within p.domains 64 p.cpus

-- masks of these ways, and a threshold of at most the bytes of one cache
abbrev pub has_masks : Parameters → Bool
has_masks p = is_within 1 p.ways p.min && nat_lt p.shareable (2 ^ p.ways) && nat_le p.threshold (p.sets * 64 * p.ways)

-- whether each parameter is in its range
unfoldable pub is_machine : Parameters → Bool
is_machine p = has_caches p && has_slices p && has_ids p && has_masks p

-- the parameters of a machine of which nothing is said
abbrev pub usual : Parameters
usual = record { domains = 1; sets = 64; ways = 8; classes = 8; rmids = 16; cpus = 1; min = 1; shareable = 0; threshold = 0; sparse = false; slices = 1 }
