use Rattle.std.proofs.Common.{ℕ, List, length, ap, arith, length-take}
use Rattle.tree_core.proofs.KeptTables.{Keeps-from_IsKept}
use Rattle.tree_core.proofs.Room.{length-limbo_le}
use Rattle.tree_core.proofs.tree.Tree.push_limbo.Goals as goal

pub push-requires : goal.push-requires
push-requires c =
    let limbo = c.args.self.now.state.limbo in
    let few = length-limbo_le (Keeps-from_IsKept c.self.invariant) in
    let most = c.self.inside.machine.in_range.rmid_limit in
    let now = ap (λ (xs : List ℕ). length xs) c.loop-i.invariant in
    (omega arith, omega (arith, now, length-take c.loop-i.i limbo, c.loop-i-test.true, c.limbo_len-i-end.ensures.number, few, most))
