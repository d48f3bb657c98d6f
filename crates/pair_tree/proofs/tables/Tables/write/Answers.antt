use Rattle.pair_law.specs.State.{PairGroup}
use Rattle.pair_tree.proofs.Taken.{Takes-write, Takes-write_none}
use Rattle.pair_tree.specs.Tables.{state_of}
use Rattle.pair_tree.proofs.tables.Tables.write.Goals as goal

pub returns-in-Some : goal.returns-in-Some
returns-in-Some c =
    let found = rw c.deref.ensures.value at c.in-Some.ensures in
    let g : PairGroup = found.0 in
    Takes-write c.args.m.now (state_of c.args.self.now) c.args.file.now c.args.text.now g _ _ found.2 (c.write_at.ensures g found.1)

pub returns-in-None : goal.returns-in-None
returns-in-None c =
    let none = rw c.deref.ensures.value at c.in-None.ensures in
    Takes-write_none c.args.m.now (state_of c.args.self.now) c.args.file.now c.args.text.now _ none c.refused.ensures
