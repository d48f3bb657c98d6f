use Rattle.std.proofs.Common.{◌≡◌, ◌<◌, drop}
use Rattle.std.specs.List.{All}
use Rattle.pair_law.specs.commands.Schemata.{against_masks}
use Rattle.pair_text.specs.declared.side_mask.SideMask.{SideMask}
use Rattle.pair_tree.specs.Tables.{state_of}
use Rattle.pair_tree.proofs.tables.Tables.against_masks.Given as goal

abbrev pub invariant-loop-a : goal.invariant-loop-a
invariant-loop-a l = record {
  so_far : against_masks l.m (state_of l.self) l.g (drop l.a-index l.all) ≡ against_masks l.m (state_of l.self) l.g l.all;
  exist : All (λ (a : SideMask). a.domain < 8) l.all;
}
