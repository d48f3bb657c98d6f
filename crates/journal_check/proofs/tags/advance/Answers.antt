use Rattle.std.proofs.Common.{◌≡◌, take, subst, arith}
use Rattle.journal_check.specs.CheckReplays.{IsReplayed}
use Rattle.journal_check.proofs.tags.advance.Goals as goal

pub returns : goal.returns
returns c =
    let end = c.loop-k.auto.k-end c.requires.order in
    let all : c.loop-k.k ≡ c.args.to = omega (arith, end, c.loop-k-test.false) in
    subst (λ n. IsReplayed c.args.script.now (take n c.args.j.now.tree) c.loop-k.tree) all c.loop-k.invariant
