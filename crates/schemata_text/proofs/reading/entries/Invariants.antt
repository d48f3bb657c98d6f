use Rattle.std.proofs.Common.{◌≡◌, List, ◌++◌, length}
use Rattle.schemata_text.specs.Items.{Item, items_of_rest}
use Rattle.schemata_text.specs.Reading.{AreLawful, reading_from}
use Rattle.schemata_text.proofs.reading.entries.Given as goal

abbrev pub invariant-pieces : goal.invariant-pieces
invariant-pieces l = record {
  lawful : AreLawful l.g l.domains l.all.items;
  said : (more : List Item) → reading_from l.g l.domains l.initial.all.items (items_of_rest l.rest ++ more) ≡ reading_from l.g l.domains l.all.items (items_of_rest l.left ++ more);
}

abbrev pub decreases-pieces : goal.decreases-pieces
decreases-pieces l = length l.left
