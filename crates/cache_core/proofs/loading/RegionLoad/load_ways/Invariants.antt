use Rattle.std.proofs.Common.{◌≡◌, ℕ, ◌+◌, ◌*◌, cond, None, length, slice_set}
use Rattle.std.specs.Prelude.{nat_lt}
use Rattle.cache_core.specs.History.{ways_below}
use Rattle.cache_core.specs.Lazy.{region_place}
use Rattle.cache_core.specs.Places.{place_in, set_in}
use Rattle.cache_core.proofs.loading.RegionLoad.load_ways.Given as goal

abbrev pub invariant-loop-way : goal.invariant-loop-way
invariant-loop-way l = record {
  line : l.line ≡ l.self.first_line + l.set * l.self.set_step + ways_below l.self.mask l.way * l.self.way_step;
  others : l.sets ≡ slice_set l.fn.sets l.set (set_in l.sets l.set);
  width : length (set_in l.sets l.set) ≡ length (set_in l.fn.sets l.set);
  loaded : (w : ℕ) → place_in (set_in l.sets l.set) w ≡ cond (nat_lt w l.way) (region_place l.self l.set w) None;
}
