use Rattle.std.proofs.Common.{◌≡◌, ◌<◌, ◌^◌, drop}
use Rattle.std.specs.List.{AllWithin}
use Rattle.schemata_text.specs.declared.assignment.Assignment.{Assignment}
use Rattle.tree_law.specs.commands.Schemata.{assigned}
use Rattle.tree_core.proofs.masks.assign.Given as goal

abbrev pub invariant-loop-a : goal.invariant-loop-a
invariant-loop-a l = record {
  masks : assigned l.masks (drop l.a-index l.all) ≡ assigned l.initial.masks l.all;
  small : AllWithin (λ (a : Assignment). a.mask < 2 ^ 32) l.all 0 l.a-index;
}
