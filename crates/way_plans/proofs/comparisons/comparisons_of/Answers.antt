use Rattle.std.proofs.Common.{◌∷◌, [], ◌++◌, map, List, ap, sym, ◌∙◌, arith}
use Rattle.std.specs.List.{range_with_len}
use Rattle.std.proofs.lemmas.List.FromFn.{map-range_with_len_more}
use Rattle.way_plans.specs.Comparisons.{comparison_in}
use Rattle.way_plans.specs.declared.comparison.Comparison.{Comparison}
use Rattle.way_plans.proofs.comparisons.comparisons_of.Goals as goal

pub loop-domain-preserved : goal.loop-domain-preserved
loop-domain-preserved c =
    let compare = comparison_in c.args.script.now c.args.journals.now c.args.groups.now in
    let domain = c.loop-domain.domain in
    c.in_ok-push.ensures.items
    ∙ (ap (λ (all : List Comparison). all ++ c.in_ok-one.one ∷ []) c.loop-domain.invariant
    ∙ (ap (λ (one : Comparison). map compare (range_with_len 0 domain) ++ one ∷ []) c.in_ok-one.ensures
    ∙ sym (map-range_with_len_more compare 0 domain domain (omega arith))))
