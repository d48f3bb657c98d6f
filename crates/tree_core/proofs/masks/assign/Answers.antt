use Rattle.std.proofs.Common.{◌≡◌, ◌+◌, ◌<◌, ◌^◌, ℕ, suc, set, arith, ap, ◌∙◌, sym, subst, drop, get_or}
use Rattle.std.proofs.Math.Seq.{drop-cons}
use Rattle.std.proofs.lemmas.List.{get_or_default}
use Rattle.std.proofs.lemmas.List.Elements.{AllWithin-more}
use Rattle.schemata_text.specs.declared.assignment.Assignment.{Assignment}
use Rattle.tree_law.specs.commands.Schemata.{assigned}
use Rattle.tree_core.proofs.masks.assign.Goals as goal

pub loop-a-preserved : goal.loop-a-preserved
loop-a-preserved c =
    let masks = c.loop-a.masks in
    let all = c.args.all.now in
    let i = c.loop-a.a-index in
    let default : Assignment = record { domain = 0; mask = 0 } in
    let a = get_or all i default in
    let parts = drop-cons all i default c.loop-a-test.true in
    let next : i + 1 ≡ suc i = omega arith in
    rw c.set.ensures.masks (record {
      masks = ap (λ (k : ℕ). assigned (set masks a.domain a.mask) (drop k all)) next ∙ sym (ap (assigned masks) parts) ∙ c.loop-a.invariant.masks;
      small = AllWithin-more (λ (b : Assignment). b.mask < 2 ^ 32) all 0 i c.loop-a.invariant.small (λ d. subst (λ (b : Assignment). b.mask < 2 ^ 32) (get_or_default all i default d c.loop-a-test.true) c.set.ensures.small);
    })
