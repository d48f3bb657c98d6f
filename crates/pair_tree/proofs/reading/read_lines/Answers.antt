use Rattle.std.proofs.Common.{◌≡◌, ◌<◌, true, false, length, ap, ◌∙◌, refl, sym}
use Rattle.std.specs.List.{after_first, list_any}
use Rattle.pair_law.specs.Reading.{reading_from}
use Rattle.pair_text.specs.Values.{side_machine}
use Rattle.pair_text.specs.declared.side.Side.TheVariants.{First}
use Rattle.pair_tree.proofs.Lines.{reading-bad_entry, reading-bad_line, reading-last, reading-more}
use Rattle.schemata_text.proofs.laws.Lawful.{AreLawful-none}
use Rattle.schemata_text.specs.Items.{items_of, newline}
use Rattle.tree_law.specs.Space.{geometry_of}
use Rattle.pair_tree.proofs.reading.read_lines.Goals as goal

pub lines-init : goal.lines-init
lines-init c = rw c.new-all.ensures (record { read = λ side. AreLawful-none (geometry_of (side_machine c.args.m.now side)) (side_machine c.args.m.now side).domains; said = refl })

pub returns-in-Err : goal.returns-in-Err
returns-in-Err c = c.lines.invariant.said ∙ reading-bad_line c.args.m.now c.lines.all.items c.lines.left.now _ c.in-Err.fault c.cut.ensures.front c.in-Err.ensures

pub returns-in-Err-read_entries : goal.returns-in-Err-read_entries
returns-in-Err-read_entries c =
    c.lines.invariant.said ∙ reading-bad_entry c.args.m.now c.lines.all.items c.lines.left.now _ _ c.in-Ok.found.0 c.cut.ensures.front c.in-Ok.ensures.0 c.in-Ok.ensures.1 c.in-Err-read_entries.fault c.in-Err-read_entries.ensures.said

pub returns-in-None : goal.returns-in-None
returns-in-None c =
    let none : list_any newline c.lines.left.now ≡ false = rw c.in-None.is at c.cut.ensures.back in
    c.lines.invariant.said ∙ reading-last c.args.m.now c.lines.all.items c.lines.left.now _ _ c.in-Ok.found.0 c.cut.ensures.front c.in-Ok.ensures.0 c.in-Ok.ensures.1 c.read_entries.new.all.items none c.in-Ok-read_entries.ensures.said

pub lines-preserved : goal.lines-preserved
lines-preserved c =
    let back : (list_any newline c.lines.left.now ≡ true) × (c.in-Some.rest.now ≡ after_first newline c.lines.left.now) × (length c.in-Some.rest.now < length c.lines.left.now) = rw c.in-Some.is at c.cut.ensures.back in
    record {
      read = c.read_entries.ensures.read;
      said = c.lines.invariant.said
          ∙ reading-more c.args.m.now c.lines.all.items c.lines.left.now _ _ c.in-Ok.found.0 c.cut.ensures.front c.in-Ok.ensures.0 c.in-Ok.ensures.1 c.read_entries.new.all.items back.0 c.in-Ok-read_entries.ensures.said
          ∙ ap (λ t. reading_from c.args.m.now First c.read_entries.new.all.items (items_of t)) (sym back.1);
    }
