use Rattle.std.proofs.Common.{◌≡◌, length}
use Rattle.schemata_text.specs.Items.{items_of}
use Rattle.schemata_text.specs.Reading.{AreLawful, reading, reading_from}
use Rattle.schemata_text.proofs.reading.read.Given as goal

abbrev pub invariant-lines : goal.invariant-lines
invariant-lines l = record {
  lawful : AreLawful l.g l.domains l.all.items;
  said : reading l.g l.domains l.text ≡ reading_from l.g l.domains l.all.items (items_of l.left);
}

abbrev pub decreases-lines : goal.decreases-lines
decreases-lines l = length l.left
