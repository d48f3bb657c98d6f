use Rattle.std.proofs.Common.{◌++◌, sym, ap, ◌∙◌, arith, length-append}
use Rattle.std.proofs.lemmas.List.Elements.{All-append}
use Rattle.file_view.specs.GroupFiles.{shown_mask}
use Rattle.file_view.proofs.Masks.{IsSmall}
use Rattle.file_view.proofs.Ranges.{flat_map-range_with_len}
use Rattle.file_view.proofs.shown.masks_of.Goals as goal

pub loop-domain-preserved : goal.loop-domain-preserved
loop-domain-preserved c =
    let shown = shown_mask c.args.tree.now.state c.args.group.now in
    let domain = c.loop-domain.domain in
    let before = c.loop-domain.invariant in
    rw c.push_mask.ensures.added (record {
      masks = ap (λ t. t ++ shown domain) before.masks ∙ sym (flat_map-range_with_len shown domain);
      small = All-append IsSmall c.loop-domain.all.items (shown domain) before.small c.push_mask.ensures.small;
      count = omega (arith, before.count, c.push_mask.ensures.one, length-append c.loop-domain.all.items (shown domain));
    })
