use Rattle.std.proofs.Common.{[], ◌∷◌, sym, ap, ◌∙◌, ◌++◌, List, arith, length-append, zero-add}
use Rattle.std.proofs.lemmas.List.FromFn.{map-range_with_len_more}
use Rattle.tree_law.specs.declared.follow.Follow.{Follow}
use Rattle.tree_law.specs.declared.follow.Follow.TheVariants.{Drop}
use Rattle.tree_core.proofs.follow.drop_all.Goals as goal

pub loop-domain-preserved : goal.loop-domain-preserved
loop-domain-preserved c =
    let domain = c.loop-domain.domain in
    let more = map-range_with_len_more (λ d. Drop d c.args.line) 0 domain domain (zero-add domain) in
    rw c.push.ensures.items (record {
      drops = ap (λ (fs : List Follow). fs ++ Drop domain c.args.line ∷ []) c.loop-domain.invariant.drops ∙ sym more;
      few = omega (arith, c.loop-domain.invariant.few, length-append c.loop-domain.follows.items (Drop domain c.args.line ∷ []));
    })
