use Rattle.std.proofs.Common.{◌≡◌, take, reverse}
use Rattle.private_lru.specs.Private.{hits_of}
use Rattle.private_lru.proofs.Recency.{kept}
use Rattle.private_lru.proofs.private.private_hits.Given as goal

abbrev pub invariant-loop-item : goal.invariant-loop-item
invariant-loop-item l = record {
  recent : l.recent.items ≡ kept l.ways (reverse (take l.item-index l.items));
  hits : l.hits.items ≡ hits_of l.ways (take l.item-index l.items);
}
