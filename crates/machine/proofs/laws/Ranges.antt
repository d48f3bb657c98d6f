-- The ranges of a machine, and what their test tells.
use Rattle.std.proofs.Common.{◌≡◌, ℕ, zero, suc, ◌*◌, ◌^◌, ◌<◌, ◌≤◌, Bool, true, ◌&&◌, leb, ltb, arith}
use Rattle.std.specs.Int.{is_power_of_two}
use Rattle.std.proofs.lemmas.Bool.{and_parts, leb-true, ltb-true}
use lib.Count.{ones}
use Rattle.machine.specs.Ranges.{InRange, has_caches, has_ids, has_masks, has_slices, is_machine, is_within}
use Rattle.machine.specs.declared.parameters.Parameters.{Parameters}

-- three tests that pass together
and-three : (a b c : Bool) → (a && b && c) ≡ true → (a ≡ true) × (b ≡ true) × (c ≡ true)
and-three a b c h =
    let t = and_parts (a && b) c h in
    let u = and_parts a b t.0 in
    (u.0, u.1, t.1)

-- four
and-four : (a b c d : Bool) → (a && b && c && d) ≡ true → (a ≡ true) × (b ≡ true) × (c ≡ true) × (d ≡ true)
and-four a b c d h =
    let t = and_parts (a && b && c) d h in
    let u = and-three a b c t.0 in
    (u.0, u.1, u.2, t.1)

-- five
and-five : (a b c d e : Bool) → (a && b && c && d && e) ≡ true → (a ≡ true) × (b ≡ true) × (c ≡ true) × (d ≡ true) × (e ≡ true)
and-five a b c d e h =
    let t = and_parts (a && b && c && d) e h in
    let u = and-four a b c d t.0 in
    (u.0, u.1, u.2, u.3, t.1)

-- a number that is within limits is between them
is_within-true : (low high n : ℕ) → is_within low high n ≡ true → (low ≤ n) × (n ≤ high)
is_within-true low high n h = let b = and_parts (leb low n) (leb n high) h in (leb-true low n b.0, leb-true n high b.1)

-- a power of two is not 0
is_power_of_two-true : (n : ℕ) → is_power_of_two n ≡ true → 0 < n
unfolding ones
is_power_of_two-true zero h = absurd cc
is_power_of_two-true (suc n) h = omega arith

-- where the test passes, each parameter is in its range
pub is_machine-true : (p : Parameters) → is_machine p ≡ true → InRange p
unfolding is_machine
is_machine-true p h =
    let all = and-four (has_caches p) (has_slices p) (has_ids p) (has_masks p) h in
    let caches = and-five (is_within 1 8 p.domains) (is_power_of_two p.sets) (leb p.sets 65536) (is_within 1 32 p.ways) (leb (p.domains * p.sets * p.ways) 1048576) all.0 in
    let slices = and-four (is_power_of_two p.slices) (leb p.slices 16) (leb p.slices p.sets) (leb (p.domains * p.slices) 32) all.1 in
    let ids = and-three (is_within 1 64 p.classes) (is_within 1 256 p.rmids) (is_within p.domains 64 p.cpus) all.2 in
    let masks = and-three (is_within 1 p.ways p.min) (ltb p.shareable (2 ^ p.ways)) (leb p.threshold (p.sets * 64 * p.ways)) all.3 in
    record {
      some_domain = (is_within-true 1 8 p.domains caches.0).0;
      domain_limit = (is_within-true 1 8 p.domains caches.0).1;
      some_set = is_power_of_two-true p.sets caches.1;
      set_limit = leb-true p.sets 65536 caches.2;
      set_power = caches.1;
      some_way = (is_within-true 1 32 p.ways caches.3).0;
      way_limit = (is_within-true 1 32 p.ways caches.3).1;
      line_limit = leb-true (p.domains * p.sets * p.ways) 1048576 caches.4;
      some_class = (is_within-true 1 64 p.classes ids.0).0;
      class_limit = (is_within-true 1 64 p.classes ids.0).1;
      some_rmid = (is_within-true 1 256 p.rmids ids.1).0;
      rmid_limit = (is_within-true 1 256 p.rmids ids.1).1;
      cpu_each = (is_within-true p.domains 64 p.cpus ids.2).0;
      cpu_limit = (is_within-true p.domains 64 p.cpus ids.2).1;
      some_min = (is_within-true 1 p.ways p.min masks.0).0;
      min_limit = (is_within-true 1 p.ways p.min masks.0).1;
      shareable_limit = ltb-true p.shareable (2 ^ p.ways) masks.1;
      threshold_limit = leb-true p.threshold (p.sets * 64 * p.ways) masks.2;
      some_slice = is_power_of_two-true p.slices slices.0;
      slice_limit = leb-true p.slices 16 slices.1;
      slice_power = slices.0;
      slice_sets = leb-true p.slices p.sets slices.2;
      slice_total = leb-true (p.domains * p.slices) 32 slices.3;
    }
