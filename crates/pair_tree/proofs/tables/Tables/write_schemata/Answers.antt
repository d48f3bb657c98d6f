use Rattle.std.proofs.Common.{refl}
use Rattle.pair_law.proofs.laws.Readings.{schemata_read-lawful}
use Rattle.pair_law.specs.commands.Schemata as schemata
use Rattle.pair_tree.proofs.Unless.{MakesUnless-refused}
use Rattle.tree_law.specs.commands.Schemata.{text_refusal}
use Rattle.pair_tree.proofs.tables.Tables.write_schemata.Goals as goal

pub take_masks-requires-clause-exist : goal.take_masks-requires-clause-exist
take_masks-requires-clause-exist c =
    rw c.as_slice.ensures.value (λ k d within. (schemata_read-lawful c.args.m.now c.args.text.now c.in-Ok.all.items c.requires.machines c.in-Ok.ensures k d within).few)

pub returns-in-Err : goal.returns-in-Err
unfolding schemata.refusal
returns-in-Err c g there = rw c.in-Err.ensures (MakesUnless-refused _ _ _ (text_refusal c.in-Err.fault) _ refl c.text_refusal.ensures)

pub returns-in-Ok : goal.returns-in-Ok
returns-in-Ok c g there = rw (c.in-Ok.ensures, ← c.as_slice.ensures.value) (c.take_masks.ensures g there)
