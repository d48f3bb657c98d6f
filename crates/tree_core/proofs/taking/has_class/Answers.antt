use Rattle.tree_core.specs.Taking.{ClassTaken}
use Rattle.tree_core.proofs.Returns.{ClassesStay-returned}
use Rattle.tree_core.proofs.taking.has_class.Goals as goal

pub returns-in-Some-clause-stay : goal.returns-in-Some-clause-stay
returns-in-Some-clause-stay c =
    let taken : ClassTaken c.args.classes.now c.take.new.self c.in-Some.class = record { lowest = c.in-Some.ensures.lowest; taken = c.in-Some.ensures.taken } in
    ClassesStay-returned _ _ _ _ taken c.give.ensures
