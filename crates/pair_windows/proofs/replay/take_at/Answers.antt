use Rattle.std.proofs.Common.{◌≡◌, ◌+◌, Some, get_or, List, sym, ap, ◌∙◌, arith}
use Rattle.std.proofs.lemmas.Option.{slice_get-get_or}
use Rattle.pair_text.specs.Values.{op_at}
use Rattle.pair_text.specs.declared.op.PairOp.{PairOp}
use Rattle.pair_windows.proofs.NextOps.{HasTaken-command}
use Rattle.pair_law.proofs.laws.Commands.{epoch_at-le, epoch_at-lt}
use Rattle.pair_windows.proofs.replay.take_at.Goals as goal

pub returns-clause-known : goal.returns-clause-known
returns-clause-known c = let most = epoch_at-le c.args.script.now c.args.place in let is = c.requires.taken.epoch in omega (arith, most, is)

pub apply-requires-clause-epoch : goal.apply-requires-clause-epoch
apply-requires-clause-epoch c =
    let script = c.args.script.now in
    let op : PairOp = c.index-ops-place.result in
    let at : op_at script c.args.place ≡ Some op = slice_get-get_or script.ops c.args.place op c.requires.within ∙ ap Some (ap (λ (l : List PairOp). get_or l c.args.place op) (sym c.ops.ensures) ∙ sym c.index-ops-place.is) in
    let lt = epoch_at-lt script c.args.place op at (sym c.is_command.ensures ∙ c.if-is_command.true) in
    let is = c.requires.taken.epoch in
    let few = c.requires.playable.few in
    omega (arith, lt, is, few)

pub returns-then-is_command-clause-taken : goal.returns-then-is_command-clause-taken
returns-then-is_command-clause-taken c =
    let script = c.args.script.now in
    let op : PairOp = c.index-ops-place.result in
    let at : op_at script c.args.place ≡ Some op = slice_get-get_or script.ops c.args.place op c.requires.within ∙ ap Some (ap (λ (l : List PairOp). get_or l c.args.place op) (sym c.ops.ensures) ∙ sym c.index-ops-place.is) in
    HasTaken-command script c.args.place op at c.args.tree.now c.apply.new.self c.requires.taken (sym c.is_command.ensures ∙ c.if-is_command.true) c.apply.ensures.tree

pub returns-then-is_command-clause-known : goal.returns-then-is_command-clause-known
returns-then-is_command-clause-known c =
    let most = epoch_at-le c.args.script.now (c.args.place + 1) in
    let script = c.args.script.now in
    let op : PairOp = c.index-ops-place.result in
    let at : op_at script c.args.place ≡ Some op = slice_get-get_or script.ops c.args.place op c.requires.within ∙ ap Some (ap (λ (l : List PairOp). get_or l c.args.place op) (sym c.ops.ensures) ∙ sym c.index-ops-place.is) in
    let taken = HasTaken-command script c.args.place op at c.args.tree.now c.apply.new.self c.requires.taken (sym c.is_command.ensures ∙ c.if-is_command.true) c.apply.ensures.tree in
    let is = taken.epoch in
    omega (arith, most, is)
