use Rattle.std.proofs.Common.{inr}
use Rattle.tree_core.specs.Taking.{ClassTaken}
use Rattle.tree_core.proofs.Returns.{ClassesStay-returned}
use Rattle.tree_core.proofs.taking.take_ids.Goals as goal

pub returns-in-Err : goal.returns-in-Err
returns-in-Err c =
    let taken : ClassTaken c.args.classes.now c.take.new.self c.in-Some.class = record { lowest = c.in-Some.ensures.lowest; taken = c.in-Some.ensures.taken } in
    (ClassesStay-returned _ _ _ _ taken c.give.ensures, c.in-Err.ensures.0, inr ((c.in-Some.class, taken.lowest), c.in-Err.ensures.1))
