use Rattle.std.proofs.Common.{◌≡◌, ◌≤◌, ◌∷◌, [], true, decimal, length, sym, arith, length-append}
use Rattle.num_text.proofs.laws.Prints.{length-decimal}
use Rattle.task_binding.specs.Bindings.{has_control}
use Rattle.pair_tree.proofs.printing.push_task.Goals as goal

pub push-requires : goal.push-requires
push-requires c =
    let short : length (decimal c.from.result) ≤ 20 = length-decimal c.from.result c.from.type_inv in
    omega (arith, short, c.push_dec.ensures.spare)

pub returns-then-eq-clause-short : goal.returns-then-eq-clause-short
returns-then-eq-clause-short c =
    let is : has_control c.args.gid c.args.b.now ≡ true = sym c.if-eq.ensures in
    let short : length (decimal c.args.b.now.task) ≤ 20 = rw c.from.ensures at (length-decimal c.from.result c.from.type_inv) in
    rw is (omega (arith, short, length-append (decimal c.args.b.now.task) (10 ∷ [])))
