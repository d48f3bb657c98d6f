use Rattle.std.proofs.Common.{Bool, not, ◌&&◌, ℕ, Option, sym, subst, ap, ◌∙◌}
use Rattle.hw_ids.proofs.laws.Membership.{contains-without}
use Rattle.hw_ids.specs.Classes.{Classes}
use Rattle.hw_ids.specs.Ids.{contains}
use Rattle.tree_core.proofs.TakenIds.{eqb-turned}
use Rattle.tree_core.specs.Given.{IsGiven}
use Rattle.tree_core.proofs.classes.give.Goals as goal

pub returns-in-Some : goal.returns-in-Some
returns-in-Some c =
    let old = c.args.classes.now in
    subst (λ (o : Option ℕ). IsGiven old c.give.new.self o) (sym c.in-Some.is) (record {
      count = ap (λ (r : Classes). r.count) c.give.ensures;
      taken = λ id. ap (λ (r : Classes). contains id r.taken) c.give.ensures ∙ contains-without c.in-Some.class id old.taken ∙ ap (λ (b : Bool). not b && contains id old.taken) (eqb-turned id c.in-Some.class);
    })
