use Rattle.std.proofs.Common.{◌≡◌, ◌<◌, true, false, [], length, sym, ◌∙◌, arith}
use Rattle.std.specs.List.{list_any, after_first}
use Rattle.std.proofs.lemmas.Bool.{eqb-true}
use Rattle.std.proofs.lemmas.List.{nil_from_length}
use Rattle.schemata_text.specs.Items.{semicolon}
use Rattle.schemata_text.proofs.laws.Items.{Continues-last, Continues-closed, reading_from-more_entries, Continues-fault}
use Rattle.schemata_text.proofs.reading.entries.Goals as goal

pub returns-in-Err-clause-said : goal.returns-in-Err-clause-said
returns-in-Err-clause-said c more =
    let said = rw c.cut.ensures.front at c.in-Err.ensures.said in
    c.pieces.invariant.said more ∙ Continues-fault c.args.g.now c.args.domains c.pieces.all.items c.add_entry.new.all.items c.pieces.left.now c.in-Err.fault said more

pub returns-in_default-clause-said : goal.returns-in_default-clause-said
returns-in_default-clause-said c more =
    let said = rw c.cut.ensures.front at c.in-Ok.ensures.said in
    let hasnt : list_any semicolon c.pieces.left.now ≡ false = rw c.in_default.is at c.cut.ensures.back in
    c.pieces.invariant.said more ∙ Continues-last c.args.g.now c.args.domains c.pieces.all.items c.add_entry.new.all.items c.pieces.left.now tt hasnt said more

pub returns-then-is_empty-clause-said : goal.returns-then-is_empty-clause-said
returns-then-is_empty-clause-said c more =
    let said = rw c.cut.ensures.front at c.in-Ok.ensures.said in
    let back : (list_any semicolon c.pieces.left.now ≡ true) × (c.in-Some.rest.now ≡ after_first semicolon c.pieces.left.now) × (length c.in-Some.rest.now < length c.pieces.left.now) = rw c.in-Some.is at c.cut.ensures.back in
    let nothing : c.in-Some.rest.now ≡ [] = nil_from_length c.in-Some.rest.now (eqb-true (length c.in-Some.rest.now) 0 (sym c.if-is_empty.ensures)) in
    c.pieces.invariant.said more ∙ Continues-closed c.args.g.now c.args.domains c.pieces.all.items c.add_entry.new.all.items c.pieces.left.now tt back.0 (sym back.1 ∙ nothing) said more

pub pieces-preserved : goal.pieces-preserved
pieces-preserved c =
    let said = rw c.cut.ensures.front at c.in-Ok.ensures.said in
    let back : (list_any semicolon c.pieces.left.now ≡ true) × (c.in-Some.rest.now ≡ after_first semicolon c.pieces.left.now) × (length c.in-Some.rest.now < length c.pieces.left.now) = rw c.in-Some.is at c.cut.ensures.back in
    record {
      lawful = c.add_entry.ensures.lawful;
      said = λ more. c.pieces.invariant.said more ∙ reading_from-more_entries c.args.g.now c.args.domains c.pieces.all.items c.add_entry.new.all.items c.pieces.left.now c.in-Some.rest.now tt more back.0 back.1 (grind arith) said;
    }
