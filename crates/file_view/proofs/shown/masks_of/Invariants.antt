use Rattle.std.proofs.Common.{◌≡◌, ◌<◌, ◌≤◌, ◌^◌, length}
use Rattle.std.specs.List.{All, flat_map, range_with_len}
use Rattle.file_view.specs.GroupFiles.{shown_mask}
use Rattle.schemata_text.specs.declared.assignment.Assignment.{Assignment}
use Rattle.file_view.proofs.shown.masks_of.Given as goal

abbrev pub invariant-loop-domain : goal.invariant-loop-domain
invariant-loop-domain l = record {
  masks : l.all.items ≡ flat_map (shown_mask l.tree.state l.group) (range_with_len 0 l.domain);
  small : All (λ (a : Assignment). (a.domain < 2 ^ 8) × (a.mask < 2 ^ 32)) l.all.items;
  count : length l.all.items ≤ l.domain;
}
