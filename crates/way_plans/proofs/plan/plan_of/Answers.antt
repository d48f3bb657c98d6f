use Rattle.std.proofs.Common.{◌≡◌, ap, sym, subst, ◌∙◌, arith}
use Rattle.std.proofs.lemmas.List.Elements.{All-filter}
use Rattle.tree_core.specs.Named.{AreNamed, IsNamed}
use Rattle.tree_law.specs.Counted.{is_counted}
use Rattle.way_plans.specs.Plans.{planned}
use Rattle.way_plans.proofs.plan.plan_of.Goals as goal

pub returns-clause-printable : goal.returns-clause-printable
returns-clause-printable c =
    let names = c.args.script.now.names in
    let state = c.in_ok-replay.replay.state in
    let groups : c.in_ok-groups.groups.items ≡ planned state = c.in_ok-groups.ensures ∙ ap (λ t. planned t.state) c.tree.ensures in
    record {
      named = subst (AreNamed names) (sym groups) (All-filter is_counted (IsNamed names) state.groups c.in_ok-replay.ensures.named);
      few = omega (arith, c.in_ok-domains.ensures.all, c.requires.lawful.in_range.domain_limit);
      small = c.in_ok-domains.ensures.small;
    }
