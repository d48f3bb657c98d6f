use Rattle.std.proofs.Common.{◌≡◌, length}
use Rattle.pair_law.specs.Reading.{reading, reading_from}
use Rattle.pair_text.specs.declared.side.Side.TheVariants.{First}
use Rattle.pair_tree.specs.Reading.{AreRead}
use Rattle.schemata_text.specs.Items.{items_of}
use Rattle.pair_tree.proofs.reading.read_lines.Given as goal

abbrev pub invariant-lines : goal.invariant-lines
invariant-lines l = record {
  read : AreRead l.m l.all.items;
  said : reading l.m l.text ≡ reading_from l.m First l.all.items (items_of l.left);
}

abbrev pub decreases-lines : goal.decreases-lines
decreases-lines l = length l.left
