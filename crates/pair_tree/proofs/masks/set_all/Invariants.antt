use Rattle.std.proofs.Common.{◌≡◌, ◌<◌, drop}
use Rattle.std.specs.List.{All}
use Rattle.pair_law.specs.commands.Schemata.{with_masks}
use Rattle.pair_text.specs.declared.side_mask.SideMask.{SideMask}
use Rattle.pair_tree.proofs.masks.set_all.Given as goal

abbrev pub invariant-loop-a : goal.invariant-loop-a
invariant-loop-a l = record {
  so_far : with_masks l.g (drop l.a-index l.all) ≡ with_masks l.initial.g l.all;
  exist : All (λ (a : SideMask). a.domain < 8) l.all;
}
