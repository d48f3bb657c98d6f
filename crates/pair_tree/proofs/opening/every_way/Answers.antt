use Rattle.std.proofs.Common.{◌≡◌, ap, ◌∙◌, arith}
use Rattle.group_tree.specs.Opening.{full_mask, in_each_domain}
use Rattle.machine.proofs.laws.EveryWay.{ways_of-range}
use Rattle.machine.specs.Maps.{parameters_of}
use Rattle.machine.specs.declared.parameters.Parameters.{Parameters}
use Rattle.pair_tree.proofs.opening.every_way.Goals as goal

pub returns : goal.returns
returns c =
    let caches = c.side-caches.result.now in
    let full : c.full.result ≡ full_mask (parameters_of caches) = ways_of-range c.full.result caches.ways (omega arith) (omega arith) c.full.ensures in
    c.in_first_domains.ensures ∙ ap (in_each_domain (parameters_of caches)) full ∙ ap (λ (p : Parameters). in_each_domain p (full_mask p)) c.side-caches.ensures
