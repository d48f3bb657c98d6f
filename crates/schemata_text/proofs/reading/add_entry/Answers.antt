use Rattle.std.proofs.Common.{◌≡◌, ◌<◌, false, length, sym, arith}
use Rattle.std.specs.List.{list_any}
use Rattle.schemata_text.specs.Reading.{is_of}
use Rattle.schemata_text.proofs.laws.Lawful.{AreLawful-push}
use Rattle.schemata_text.proofs.laws.Room.{length-lawful}
use Rattle.schemata_text.proofs.laws.Items.{reading_from-entry, reading_from-entry_fault}
use Rattle.schemata_text.proofs.reading.add_entry.Goals as goal

pub push-requires : goal.push-requires
push-requires c =
    let fresh : (c.in-Ok.found.domain < c.args.domains) × (list_any (is_of c.in-Ok.found.domain) c.args.all.now.items ≡ false) = rw c.as_slice.ensures.value at c.in-Ok.ensures.fresh in
    let free : length c.args.all.now.items < c.args.domains = length-lawful c.args.g.now c.args.domains c.args.all.now.items c.in-Ok.found c.requires.lawful fresh.0 fresh.1 c.in-Ok.ensures.valid in
    omega arith

pub returns-in-Ok-clause-lawful : goal.returns-in-Ok-clause-lawful
returns-in-Ok-clause-lawful c =
    let fresh : (c.in-Ok.found.domain < c.args.domains) × (list_any (is_of c.in-Ok.found.domain) c.args.all.now.items ≡ false) = rw c.as_slice.ensures.value at c.in-Ok.ensures.fresh in
    rw c.push.ensures.items (AreLawful-push c.args.g.now c.args.domains c.args.all.now.items c.in-Ok.found c.requires.lawful fresh.0 fresh.1 c.in-Ok.ensures.valid)

pub returns-in-Ok-clause-said : goal.returns-in-Ok-clause-said
returns-in-Ok-clause-said c more =
    let said = rw c.as_slice.ensures.value at c.in-Ok.ensures.said in
    rw c.push.ensures.items (reading_from-entry c.args.g.now c.args.domains c.args.all.now.items c.args.text.now c.in-Ok.found more (sym said))

pub returns-in-Err-clause-said : goal.returns-in-Err-clause-said
returns-in-Err-clause-said c more =
    let said = rw c.as_slice.ensures.value at c.in-Err.ensures.said in
    reading_from-entry_fault c.args.g.now c.args.domains c.args.all.now.items c.args.text.now c.in-Err.fault more (sym said)
