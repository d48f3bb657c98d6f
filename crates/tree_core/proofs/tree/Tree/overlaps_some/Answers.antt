use Rattle.std.proofs.Common.{◌∙◌, sym, ap, arith}
use Rattle.lists.proofs.RangeTests.{list_any-at, list_any-none}
use Rattle.tree_core.specs.Values.{TreeValue}
use Rattle.tree_law.specs.commands.Mode.{overlaps_some}
use Rattle.tree_core.proofs.tree.Tree.overlaps_some.Goals as goal

pub returns-then-overlaps_in : goal.returns-then-overlaps_in
returns-then-overlaps_in c =
    let v = c.args.self.now in
    let domains = ap (λ (v : TreeValue). v.machine.domains) c.self.view_is in
    sym (list_any-at (overlaps_some v.machine v.state c.args.group.now) v.machine.domains c.loop-domain.domain (omega (arith, domains)) (sym c.overlaps_in.ensures ∙ c.if-overlaps_in.true))

pub returns : goal.returns
returns c =
    let v = c.args.self.now in
    let domains = ap (λ (v : TreeValue). v.machine.domains) c.self.view_is in
    sym (list_any-none (overlaps_some v.machine v.state c.args.group.now) v.machine.domains (λ k lt. c.loop-domain.invariant k (omega (arith, domains))))
