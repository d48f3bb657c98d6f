use Rattle.std.proofs.Common.{◌≡◌, ◌<◌, None, ◌∙◌, sym, subst}
use Rattle.std.proofs.lemmas.List.{get_or-take}
use Rattle.tree_core.specs.Values.{TreeValue}
use Rattle.tree_law.specs.Space.{region_in}
use Rattle.tree_core.proofs.tree.Tree.region.Goals as goal

pub returns-clause-region : goal.returns-clause-region
returns-clause-region c =
    let t = c.self.inside in
    let below : c.args.domain < t.machine.domains = subst (λ (v : TreeValue). c.args.domain < v.machine.domains) (sym c.self.view_is) c.requires in
    subst (λ (v : TreeValue). c.of.result ≡ region_in v.state.regions c.args.domain) c.self.view_is
    (c.of.ensures.region ∙ sym (get_or-take t.machine.domains t.regions.places c.args.domain None below))
