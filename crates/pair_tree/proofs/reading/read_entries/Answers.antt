use Rattle.std.proofs.Common.{Err, ap, ◌∙◌}
use Rattle.pair_law.specs.Reading.{on_side}
use Rattle.pair_text.specs.Values.{side_machine}
use Rattle.pair_tree.proofs.LawfulMasks.{ReadsLine-entries, length-on_side}
use Rattle.pair_tree.proofs.LineEntries.{reading_from-rest_fault}
use Rattle.schemata_text.specs.Items.{items_of_rest}
use Rattle.schemata_text.specs.Reading.{Continues}
use Rattle.tree_law.specs.Space.{geometry_of}
use Rattle.pair_tree.proofs.reading.read_entries.Goals as goal

pub on_side-own-requires : goal.on_side-own-requires
on_side-own-requires c = rw c.as_slice.ensures.value (length-on_side c.args.m.now c.requires.machines c.args.side _ (c.requires.read c.args.side))

pub push_after-requires-clause-few : goal.push_after-requires-clause-few
push_after-requires-clause-few c =
    let own = c.on_side-own.ensures ∙ ap (on_side c.args.side) c.as_slice.ensures.value in
    let line = ReadsLine-entries c.args.m.now c.args.side c.args.all.now.items c.args.rest.now c.entries.new.all.items c.in-Ok.field-0 _ _ c.len-before.result c.on_side-own.result.items c.requires.machines c.geometry.ensures.geometry c.domains.ensures.domains own c.len-before.ensures.value c.requires.read c.in-Ok.ensures.lawful c.in-Ok.ensures.said in
    rw c.as_slice-in-Ok.ensures.value line.few

pub push_after-requires-clause-room : goal.push_after-requires-clause-room
push_after-requires-clause-room c =
    let own = c.on_side-own.ensures ∙ ap (on_side c.args.side) c.as_slice.ensures.value in
    let line = ReadsLine-entries c.args.m.now c.args.side c.args.all.now.items c.args.rest.now c.entries.new.all.items c.in-Ok.field-0 _ _ c.len-before.result c.on_side-own.result.items c.requires.machines c.geometry.ensures.geometry c.domains.ensures.domains own c.len-before.ensures.value c.requires.read c.in-Ok.ensures.lawful c.in-Ok.ensures.said in
    rw c.as_slice-in-Ok.ensures.value line.room

pub returns-in-Ok-clause-read : goal.returns-in-Ok-clause-read
returns-in-Ok-clause-read c =
    let own = c.on_side-own.ensures ∙ ap (on_side c.args.side) c.as_slice.ensures.value in
    let line = ReadsLine-entries c.args.m.now c.args.side c.args.all.now.items c.args.rest.now c.entries.new.all.items c.in-Ok.field-0 _ _ c.len-before.result c.on_side-own.result.items c.requires.machines c.geometry.ensures.geometry c.domains.ensures.domains own c.len-before.ensures.value c.requires.read c.in-Ok.ensures.lawful c.in-Ok.ensures.said in
    rw (c.push_after.ensures, c.as_slice-in-Ok.ensures.value) line.read

pub returns-in-Ok-clause-said : goal.returns-in-Ok-clause-said
returns-in-Ok-clause-said c =
    let own = c.on_side-own.ensures ∙ ap (on_side c.args.side) c.as_slice.ensures.value in
    let line = ReadsLine-entries c.args.m.now c.args.side c.args.all.now.items c.args.rest.now c.entries.new.all.items c.in-Ok.field-0 _ _ c.len-before.result c.on_side-own.result.items c.requires.machines c.geometry.ensures.geometry c.domains.ensures.domains own c.len-before.ensures.value c.requires.read c.in-Ok.ensures.lawful c.in-Ok.ensures.said in
    rw (c.push_after.ensures, c.as_slice-in-Ok.ensures.value) line.said

pub returns-in-Err-clause-said : goal.returns-in-Err-clause-said
returns-in-Err-clause-said c =
    let m = c.args.m.now in
    let said : Continues (geometry_of (side_machine m c.args.side)) (side_machine m c.args.side).domains (on_side c.args.side c.args.all.now.items) (items_of_rest c.args.rest.now) (Err c.in-Err.fault) c.entries.new.all.items =
    rw (c.geometry.ensures.geometry, c.domains.ensures.domains, c.on_side-own.ensures, c.as_slice.ensures.value) at c.in-Err.ensures.said in
    reading_from-rest_fault m c.args.side c.args.all.now.items c.args.rest.now c.entries.new.all.items c.in-Err.fault said
