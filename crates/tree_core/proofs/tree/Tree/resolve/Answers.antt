use Rattle.std.proofs.Common.{◌≡◌, ◌<◌, sym, subst, ap, ap₂, ◌∙◌}
use Rattle.machine.specs.Maps.{domain_of}
use Rattle.tree_core.proofs.Assignments.{mask-valid}
use Rattle.tree_core.proofs.KeptTables.{Keeps-of}
use Rattle.tree_core.proofs.tree.Tree.resolve.Goals.{After-domain_of-domain}
use Rattle.tree_core.specs.Tables.{tables}
use Rattle.tree_core.specs.Values.{TreeValue}
use Rattle.tree_law.proofs.laws.Access.{resolve-good}
use Rattle.tree_law.specs.LawsAccess.{IsGood}
use Rattle.tree_law.specs.Masks.{IsValid}
use Rattle.tree_law.specs.Resolving.{mask_of_group, resolve, rmid_of}
use Rattle.tree_core.proofs.tree.Tree.resolve.Goals as goal

-- the law of accesses, at this task and CPU
good : (c : After-domain_of-domain) → IsGood c.args.self.now.machine (resolve c.args.self.now.machine c.args.self.now.state c.args.task c.args.cpu)
good c =
    let t = c.self.inside in let m = c.args.self.now.machine in
    let keeps = Keeps-of (tables t.groups t.tasks t.cpus t.classes t.rmids t.regions) c.self.view_is c.self.invariant in
    let is : c.domain_of-domain.result ≡ domain_of m c.args.cpu = c.domain_of-domain.ensures.domain ∙ ap (λ (v : TreeValue). domain_of v.machine c.args.cpu) c.self.view_is in
    let exists : c.domain_of-domain.result < m.domains = subst (λ (v : TreeValue). c.domain_of-domain.result < v.machine.domains) c.self.view_is c.domain_of-domain.ensures.below in
    resolve-good m c.args.self.now.state c.args.task c.args.cpu keeps.sound c.requires.cpu (subst (λ d. d < m.domains) is exists)

pub returns-clause-known : goal.returns-clause-known
unfolding resolve
returns-clause-known c =
    let m = c.args.self.now.machine in let s = c.args.self.now.state in
    let rmid = c.rmid_of.ensures ∙ ap (rmid_of s) c.owner_and_counted.ensures.counted in
    subst (λ n. n < m.rmids) (sym rmid) (good (goal.at.returns-clause-known c).After-domain_of-domain).rmid

pub returns-clause-valid : goal.returns-clause-valid
unfolding resolve
returns-clause-valid c =
    let m = c.args.self.now.machine in let s = c.args.self.now.state in
    let domain : c.domain_of-domain.result ≡ domain_of m c.args.cpu = c.domain_of-domain.ensures.domain ∙ ap (λ (v : TreeValue). domain_of v.machine c.args.cpu) c.self.view_is in
    let mask = c.class_and_mask-class.ensures.mask ∙ ap₂ (mask_of_group s) domain c.owner_and_counted.ensures.owner in
    mask-valid m c.class_and_mask-class.result.1 (subst (IsValid m) (sym mask) (good (goal.at.returns-clause-valid c).After-domain_of-domain).mask)
