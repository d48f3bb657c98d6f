use Rattle.std.proofs.Common.{◌<◌, arith, subst, sym}
use Rattle.pair_tree.specs.Values.{PairTreeValue}
use Rattle.pair_tree.proofs.tree.PairTree.register.Goals as goal

pub register-requires : goal.register-requires
register-requires c =
    let lt = subst (λ (v : PairTreeValue). c.args.domain < v.machines.machine.domains) (sym c.self.view_is) c.requires.domain in
    omega (arith, lt, c.self.invariant.machines.in_range.domain_limit)
