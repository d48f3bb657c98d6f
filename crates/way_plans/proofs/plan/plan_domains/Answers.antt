use Rattle.std.proofs.Common.{◌≡◌, ℕ, ◌+◌, List, [], ◌∷◌, ◌++◌, length, ap, sym, subst, ◌∙◌, arith}
use Rattle.std.specs.Prelude.{All}
use Rattle.std.proofs.lemmas.List.{length-append, length-map, map-append}
use Rattle.std.proofs.lemmas.List.Elements.{All-push}
use Rattle.way_plans.specs.Planned.{ArePartsFrom, IsPart}
use Rattle.way_plans.specs.Values.{IsSmall, part_of, parts_of}
use Rattle.way_plans.proofs.PartLists.{ArePartsFrom-push, within-plan}
use Rattle.way_plans.specs.Plans.{misses_in, planned}
use Rattle.way_plans.specs.declared.domain_plan.DomainPlan.{DomainPlan}
use Rattle.way_plans.proofs.plan.plan_domains.Goals as goal

pub loop-domain-preserved : goal.loop-domain-preserved
loop-domain-preserved c =
    let script = c.args.script.now in
    let j = c.args.journals.now in
    let domain = c.loop-domain.domain in
    let old : List DomainPlan = c.loop-domain.plans.items in
    let plan : DomainPlan = c.in_ok-plan.plan in
    let pushed : c.push.new.self.items ≡ old ++ plan ∷ [] = c.in_ok-push.ensures.items in
    let part : IsPart script j domain (part_of plan) = record {
      misses = c.in_ok-plan.ensures.misses ∙ ap (misses_in script j domain) (c.requires.groups ∙ ap planned c.requires.state);
      division = c.in_ok-plan.ensures.best;
      order = c.in_ok-plan.ensures.order;
    } in
    let place : domain ≡ 0 + length (parts_of old) = let all = length-map old part_of in omega (arith, all, c.loop-domain.invariant.all) in
    let small : IsSmall plan = record {
      few_groups = c.in_ok-plan.ensures.few_groups;
      few_misses = c.in_ok-plan.ensures.few_misses;
      within = within-plan script j domain plan.spans (omega (arith, c.requires.lawful.in_range.some_min)) c.in_ok-plan.ensures.best;
    } in
    let parts : parts_of c.push.new.self.items ≡ parts_of old ++ part_of plan ∷ [] = ap parts_of pushed ∙ map-append part_of old (plan ∷ []) in
    record {
      all = ap length pushed ∙ (length-append old (plan ∷ []) ∙ ap (λ (n : ℕ). n + 1) c.loop-domain.invariant.all);
      each = subst (ArePartsFrom script j 0) (sym parts) (ArePartsFrom-push script j 0 (parts_of old) (part_of plan) c.loop-domain.invariant.each (subst (λ d. IsPart script j d (part_of plan)) place part));
      small = subst (All IsSmall) (sym pushed) (All-push IsSmall old plan c.loop-domain.invariant.small small);
    }
