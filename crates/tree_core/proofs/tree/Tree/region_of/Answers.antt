use Rattle.std.proofs.Common.{sym, ap, ◌∙◌, arith}
use Rattle.tree_core.proofs.KeptTables.{Keeps-of}
use Rattle.tree_core.proofs.Touched.{held-at, held-none}
use Rattle.tree_core.specs.Tables.{tables}
use Rattle.tree_core.specs.Values.{TreeValue}
use Rattle.tree_core.proofs.tree.Tree.region_of.Goals as goal

pub returns-then-is_some-clause-region : goal.returns-then-is_some-clause-region
returns-then-is_some-clause-region c =
    let t = c.self.inside in let s = c.args.self.now.state in
    let keeps = Keeps-of (tables t.groups t.tasks t.cpus t.classes t.rmids t.regions) c.self.view_is c.self.invariant in
    let domains = ap (λ (v : TreeValue). v.machine.domains) c.self.view_is in
    held-at c.args.gid c.loop-domain.domain s.regions c.region_if_of-region.result (omega (arith, domains, keeps.sound.regions.each)) c.loop-domain.invariant c.region_if_of-region.ensures.region c.region_if_of-region.ensures.own (sym c.is_some.ensures ∙ c.if-is_some.true)

pub returns-clause-region : goal.returns-clause-region
returns-clause-region c =
    let t = c.self.inside in let s = c.args.self.now.state in
    let keeps = Keeps-of (tables t.groups t.tasks t.cpus t.classes t.rmids t.regions) c.self.view_is c.self.invariant in
    let domains = ap (λ (v : TreeValue). v.machine.domains) c.self.view_is in
    sym (held-none c.args.gid 0 s.regions (λ k lt. c.loop-domain.invariant k (omega (arith, lt, domains, keeps.sound.regions.each))))
