use Rattle.std.proofs.Common.{◌≡◌, true, false, List, [], ◌∷◌, ◌++◌, filter, map, sym, ap, ◌∙◌, arith, length-append}
use Rattle.std.specs.List.{range_with_len}
use Rattle.std.proofs.lemmas.List.{append-nil}
use Rattle.tree_law.specs.commands.Schemata.{names_domain}
use Rattle.tree_law.specs.declared.follow.Follow.{Follow}
use Rattle.tree_law.specs.declared.follow.Follow.TheVariants.{Raise}
use Rattle.tree_core.proofs.Raises.{map-filter_suc}
use Rattle.tree_core.proofs.follow.raise_named.Goals as goal
use Rattle.tree_core.proofs.follow.raise_named.Goals.{then-is_named, else-is_named}

pub loop-domain-preserved : goal.loop-domain-preserved
loop-domain-preserved c =
    let domain = c.loop-domain.domain in
    let more = map-filter_suc (λ d. Raise d) (names_domain c.args.all.now) domain in
    elim c.if-is_named.branch [
      | then-is_named w ↦
          let named : names_domain c.args.all.now domain ≡ true = sym c.is_named.ensures ∙ w.if-is_named.true in
          let pushed : c.if-is_named.follows.items ≡ c.loop-domain.follows.items ++ Raise domain ∷ [] = ap (λ v. v.items) w.follows-is ∙ w.push.ensures.items in
          rw pushed (record {
            raises = sym (rw named at more ∙ ap (λ (fs : List Follow). fs ++ Raise domain ∷ []) (sym c.loop-domain.invariant.raises));
            few = omega (arith, c.loop-domain.invariant.few, length-append c.loop-domain.follows.items (Raise domain ∷ []));
          })
      | else-is_named w ↦
          let unnamed : names_domain c.args.all.now domain ≡ false = sym c.is_named.ensures ∙ w.if-is_named.false in
          let kept : c.if-is_named.follows.items ≡ c.loop-domain.follows.items = ap (λ v. v.items) w.follows-is in
          rw kept (record {
            raises = sym (rw unnamed at more ∙ append-nil (map (λ d. Raise d) (filter (names_domain c.args.all.now) (range_with_len 0 domain))) ∙ sym c.loop-domain.invariant.raises);
            few = omega (arith, c.loop-domain.invariant.few);
          })
    ]
