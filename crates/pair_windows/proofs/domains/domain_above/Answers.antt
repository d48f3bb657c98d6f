use Rattle.std.proofs.Common.{◌/◌, ap, ap₂, arith}
use Rattle.pair_windows.proofs.SharedDomains.{share-some}
use Rattle.pair_windows.proofs.domains.domain_above.Goals as goal

pub nonzero_div-result : goal.nonzero_div-result
nonzero_div-result c =
    let some = share-some c.args.script.now.machines c.requires in
    let d = ap (λ p. p.domains) c.machine.ensures in
    let same = ap₂ (λ a b. a / b) c.l2_domains.ensures d in
    omega (arith, some, same)
