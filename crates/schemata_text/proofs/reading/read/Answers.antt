use Rattle.std.proofs.Common.{◌≡◌, ◌<◌, ℕ, true, false, List, [], ◌++◌, Ok, Err, length, sym, ap, ◌∙◌, refl}
use Rattle.std.specs.List.{list_any, after_first, before_first}
use Rattle.schemata_text.specs.Items.{Item, newline, colon, items_of, items_of_rest}
use Rattle.schemata_text.specs.Reading.{reading_from, line_of}
use Rattle.schemata_text.proofs.laws.Items.{reading_from-line, reading_from-line_fault, items_of-first_line, items_of-last_line, items_of-more_lines, reading_from-nil}
use Rattle.schemata_text.proofs.laws.Lawful.{AreLawful-none}
use Rattle.schemata_text.proofs.reading.read.Goals as goal

pub lines-init : goal.lines-init
lines-init c = rw c.new-all.ensures (record { lawful = AreLawful-none c.args.g.now c.args.domains; said = refl })

pub returns-in-Err-clause-exact : goal.returns-in-Err-clause-exact
returns-in-Err-clause-exact c =
    let first = items_of-first_line c.lines.left.now in
    let bad : line_of (before_first newline c.lines.left.now) ≡ Err c.in-Err.fault = rw c.cut.ensures.front at c.in-Err.ensures in
    c.lines.invariant.said
    ∙ ap (λ (items : List Item). reading_from c.args.g.now c.args.domains c.lines.all.items items) first.1
    ∙ reading_from-line_fault c.args.g.now c.args.domains c.lines.all.items (before_first newline c.lines.left.now) c.in-Err.fault (items_of_rest (after_first colon (before_first newline c.lines.left.now)) ++ first.0) bad

pub returns-in-Err-entries-clause-exact : goal.returns-in-Err-entries-clause-exact
returns-in-Err-entries-clause-exact c =
    let line = before_first newline c.lines.left.now in
    let first = items_of-first_line c.lines.left.now in
    let good : line_of line ≡ Ok tt = rw c.cut.ensures.front at c.in-Ok.ensures.0 in
    let rest : c.in-Ok.rest.now ≡ after_first colon line = rw c.cut.ensures.front at c.in-Ok.ensures.1 in
    let said = rw rest at c.in-Err-entries.ensures.said in
    c.lines.invariant.said
    ∙ ap (λ (items : List Item). reading_from c.args.g.now c.args.domains c.lines.all.items items) first.1
    ∙ reading_from-line c.args.g.now c.args.domains c.lines.all.items line (items_of_rest (after_first colon line) ++ first.0) good
    ∙ said first.0

pub returns-in-None-clause-exact : goal.returns-in-None-clause-exact
returns-in-None-clause-exact c =
    let line = before_first newline c.lines.left.now in
    let hasnt : list_any newline c.lines.left.now ≡ false = rw c.in-None.is at c.cut.ensures.back in
    let good : line_of line ≡ Ok tt = rw c.cut.ensures.front at c.in-Ok.ensures.0 in
    let rest : c.in-Ok.rest.now ≡ after_first colon line = rw c.cut.ensures.front at c.in-Ok.ensures.1 in
    let said = rw rest at c.in-Ok-entries.ensures.said in
    c.lines.invariant.said
    ∙ ap (λ (items : List Item). reading_from c.args.g.now c.args.domains c.lines.all.items items) (items_of-last_line c.lines.left.now hasnt)
    ∙ reading_from-line c.args.g.now c.args.domains c.lines.all.items line (items_of_rest (after_first colon line) ++ []) good
    ∙ said []
    ∙ reading_from-nil c.args.g.now c.args.domains c.entries.new.all.items

pub lines-preserved : goal.lines-preserved
lines-preserved c =
    let line = before_first newline c.lines.left.now in
    let back : (list_any newline c.lines.left.now ≡ true) × (c.in-Some.rest.now ≡ after_first newline c.lines.left.now) × (length c.in-Some.rest.now < length c.lines.left.now) = rw c.in-Some.is at c.cut.ensures.back in
    let good : line_of line ≡ Ok tt = rw c.cut.ensures.front at c.in-Ok.ensures.0 in
    let rest : c.in-Ok.rest.now ≡ after_first colon line = rw c.cut.ensures.front at c.in-Ok.ensures.1 in
    let said = rw rest at c.in-Ok-entries.ensures.said in
    record {
      lawful = c.entries.ensures.lawful;
      said = c.lines.invariant.said
          ∙ ap (λ (items : List Item). reading_from c.args.g.now c.args.domains c.lines.all.items items) (items_of-more_lines c.lines.left.now back.0)
          ∙ reading_from-line c.args.g.now c.args.domains c.lines.all.items line (items_of_rest (after_first colon line) ++ items_of (after_first newline c.lines.left.now)) good
          ∙ said (items_of (after_first newline c.lines.left.now))
          ∙ ap (λ (t : List ℕ). reading_from c.args.g.now c.args.domains c.entries.new.all.items (items_of t)) (sym back.1);
    }
