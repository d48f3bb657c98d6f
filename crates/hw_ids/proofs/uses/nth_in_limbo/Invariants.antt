use Rattle.std.proofs.Common.{◌≡◌, ◌<◌, length, drop, get_or}
use Rattle.hw_ids.specs.Ids.{places}
use Rattle.hw_ids.specs.Uses.{is_limbo}
use Rattle.hw_ids.proofs.uses.nth_in_limbo.Given as goal

-- the place that is left to find, among those in limbo from here on
abbrev pub invariant-loop-rmid : goal.invariant-loop-rmid
invariant-loop-rmid l = record {
  some : l.left < length (places is_limbo l.rmid (drop l.rmid l.uses));
  same : get_or (places is_limbo 0 l.uses) l.i 0 ≡ get_or (places is_limbo l.rmid (drop l.rmid l.uses)) l.left 0;
}
