use Rattle.std.proofs.Common.{◌≡◌, None, subst, sym, rules}
use Rattle.machine.specs.Maps.{parameters_of}
use Rattle.tree_core.proofs.InitialMasks.{initial_mask-found}
use Rattle.tree_core.specs.Uses.{SameUse}
use Rattle.tree_core.specs.Tables.{state_of, tables}
use Rattle.tree_core.specs.Values.{TreeValue}
use Rattle.tree_law.specs.Space.{initial_mask, used_in}
use Rattle.tree_core.proofs.tree.Tree.initial_mask.Goals as goal

pub returns : goal.returns
returns c =
    let t = c.self.inside in
    let m = parameters_of t.machine in
    let same : SameUse c.used-used.result (used_in m (state_of m (tables t.groups t.tasks t.cpus t.classes t.rmids t.regions) t.status t.next_gid) None c.args.domain) = subst (λ (v : TreeValue). SameUse c.used-used.result (used_in v.machine v.state None c.args.domain)) (sym c.self.view_is) c.used-used.ensures.same in
    subst (λ (v : TreeValue). c.initial_mask.result ≡ initial_mask v.machine v.state c.args.domain) c.self.view_is
    (initial_mask-found m (state_of m (tables t.groups t.tasks t.cpus t.classes t.rmids t.regions) t.status t.next_gid) c.args.domain c.geometry.result c.used-used.result c.initial_mask.result c.geometry.ensures.len c.geometry.ensures.min c.geometry.ensures.sparse same (search rules) c.initial_mask.ensures.ways)
