use Rattle.std.proofs.Common.{◌≡◌, ◌++◌, length, map, take, drop}
use Rattle.pseudo_lock.specs.Regions.{without}
use Rattle.pseudo_lock.proofs.regions.clear.Given as goal

abbrev pub invariant-loop-domain : goal.invariant-loop-domain
invariant-loop-domain l = record {
  whole : length l.places ≡ 8;
  walk : l.places ≡ map (without l.gid) (take l.domain l.initial.places) ++ drop l.domain l.initial.places;
}
