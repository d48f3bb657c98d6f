use Rattle.std.proofs.Common.{[], ◌∷◌, sym, ap, ◌∙◌, ◌++◌, List, arith, length-append, zero-add}
use Rattle.std.proofs.lemmas.List.FromFn.{map-range_with_len_more}
use Rattle.tree_law.specs.declared.follow.Follow.{Follow}
use Rattle.tree_law.specs.declared.follow.Follow.TheVariants.{Flush}
use Rattle.tree_core.proofs.follow.flush_all.Goals as goal

pub loop-domain-preserved : goal.loop-domain-preserved
loop-domain-preserved c =
    let domain = c.loop-domain.domain in
    let more = map-range_with_len_more (λ d. Flush d) 0 domain domain (zero-add domain) in
    rw c.push.ensures.items (record {
      flushes = ap (λ (fs : List Follow). fs ++ Flush domain ∷ []) c.loop-domain.invariant.flushes ∙ sym more;
      few = omega (arith, c.loop-domain.invariant.few, length-append c.loop-domain.follows.items (Flush domain ∷ []));
    })
