use Rattle.std.proofs.Common.{[], ◌∷◌, sym, ap, ◌∙◌, ◌++◌, List, arith, length-append, zero-add}
use Rattle.std.proofs.lemmas.List.FromFn.{map-range_with_len_more}
use Rattle.tree_law.specs.declared.follow.Follow.{Follow}
use Rattle.tree_law.specs.declared.follow.Follow.TheVariants.{Raise}
use Rattle.tree_core.proofs.follow.raise_all.Goals as goal

pub loop-domain-preserved : goal.loop-domain-preserved
loop-domain-preserved c =
    let domain = c.loop-domain.domain in
    let more = map-range_with_len_more (λ d. Raise d) 0 domain domain (zero-add domain) in
    rw c.push.ensures.items (record {
      raises = ap (λ (fs : List Follow). fs ++ Raise domain ∷ []) c.loop-domain.invariant.raises ∙ sym more;
      few = omega (arith, c.loop-domain.invariant.few, length-append c.loop-domain.follows.items (Raise domain ∷ []));
    })
