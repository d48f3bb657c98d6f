use Rattle.std.proofs.Common.{◌≡◌, length, take}
use Rattle.hw_ids.proofs.Releases.{Released}
use Rattle.hw_ids.proofs.uses.release.Given as goal

abbrev pub invariant-loop-rmid : goal.invariant-loop-rmid
invariant-loop-rmid l = record {
  whole : length l.uses ≡ 256;
  walk : Released l.threshold (take l.count l.initial.uses) l.bytes (take l.count l.uses) l.rmid l.next;
}
