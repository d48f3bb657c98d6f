use Rattle.std.proofs.Common.{◌≡◌, ℕ, List, ap, ◌∙◌, arith}
use Rattle.machine.specs.Maps.{parameters_of}
use Rattle.group_tree.specs.Opening.{default_group, full_mask, in_each_domain}
use Rattle.machine.proofs.laws.EveryWay.{ways_of-range}
use Rattle.group_tree.proofs.opening.default_group.Goals as goal

pub returns : goal.returns
returns c =
    let full : c.full.result ≡ full_mask (parameters_of c.args.m.now) = ways_of-range c.full.result c.args.m.now.ways (omega arith) (omega arith) c.full.ensures in
    let masks : c.in_first_domains.result ≡ in_each_domain (parameters_of c.args.m.now) (full_mask (parameters_of c.args.m.now)) = c.in_first_domains.ensures ∙ ap (in_each_domain (parameters_of c.args.m.now)) full in
    ap (λ (all : List ℕ). record (default_group (parameters_of c.args.m.now)) { masks = all }) masks
