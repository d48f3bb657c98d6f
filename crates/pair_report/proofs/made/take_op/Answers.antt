use Rattle.std.proofs.Common.{◌≡◌, ℕ, ◌+◌, List, get_or, Some, refl, sym, subst, ap, ◌∙◌, arith}
use Rattle.std.proofs.lemmas.Option.{slice_get-get_or}
use Rattle.pair_text.specs.Values.{op_at}
use Rattle.pair_text.specs.declared.op.PairOp.{PairOp}
use Rattle.pair_report.proofs.MadeLists.{HasMade-command, HasMade-use}
use Rattle.pair_report.specs.LinesBefore.{HasMade}
use Rattle.pair_law.proofs.laws.Commands.{epoch_at-lt}
use Rattle.pair_text.specs.declared.limits.TheConstants.{MOST_COMMANDS}
use Rattle.pair_report.proofs.made.take_op.Goals as goal

pub returns-then-not-is_command : goal.returns-then-not-is_command
returns-then-not-is_command c =
    let script = c.args.script.now in
    let op : PairOp = c.index-ops-i.result in
    let at : op_at script c.args.i ≡ Some op = slice_get-get_or script.ops c.args.i op c.requires.within ∙ ap Some (ap (λ (l : List PairOp). get_or l c.args.i op) (sym c.ops.ensures) ∙ sym c.index-ops-i.is) in
    HasMade-use script c.args.replies.now c.args.i c.args.k op at c.args.made.now.items c.requires.so_far (sym c.is_command.ensures ∙ c.if-not-is_command.true)

pub reply_at-requires : goal.reply_at-requires
reply_at-requires c =
    let script = c.args.script.now in
    let op : PairOp = c.index-ops-i.result in
    let at : op_at script c.args.i ≡ Some op = slice_get-get_or script.ops c.args.i op c.requires.within ∙ ap Some (ap (λ (l : List PairOp). get_or l c.args.i op) (sym c.ops.ensures) ∙ sym c.index-ops-i.is) in
    let lt = epoch_at-lt script c.args.i op at (sym c.is_command.ensures ∙ c.if-not-is_command.false) in
    let is = c.requires.so_far.commands in
    let answered = c.requires.answered in
    omega (arith, lt, is, answered)

pub overflow_add-result : goal.overflow_add-result
overflow_add-result c =
    let script = c.args.script.now in
    let op : PairOp = c.index-ops-i.result in
    let at : op_at script c.args.i ≡ Some op = slice_get-get_or script.ops c.args.i op c.requires.within ∙ ap Some (ap (λ (l : List PairOp). get_or l c.args.i op) (sym c.ops.ensures) ∙ sym c.index-ops-i.is) in
    let lt = epoch_at-lt script c.args.i op at (sym c.is_command.ensures ∙ c.if-not-is_command.false) in
    let is = c.requires.so_far.commands in
    let most = c.requires.playable.few in
    let number : MOST_COMMANDS ≡ 20000 = refl in
    omega (arith, lt, is, most, number)

pub push_made-requires : goal.push_made-requires
push_made-requires c =
    let script = c.args.script.now in
    let op : PairOp = c.index-ops-i.result in
    let at : op_at script c.args.i ≡ Some op = slice_get-get_or script.ops c.args.i op c.requires.within ∙ ap Some (ap (λ (l : List PairOp). get_or l c.args.i op) (sym c.ops.ensures) ∙ sym c.index-ops-i.is) in
    let lt = epoch_at-lt script c.args.i op at (sym c.is_command.ensures ∙ c.if-not-is_command.false) in
    let is = c.requires.so_far.commands in
    let few = c.requires.so_far.few in
    let most = c.requires.playable.few in
    let number : MOST_COMMANDS ≡ 20000 = refl in
    omega (arith, lt, is, few, most, number)

pub returns : goal.returns
returns c =
    let script = c.args.script.now in
    let i : ℕ = c.args.i in
    let k : ℕ = c.args.k in
    let op : PairOp = c.index-ops-i.result in
    let at : op_at script i ≡ Some op = slice_get-get_or script.ops i op c.requires.within ∙ ap Some (ap (λ (l : List PairOp). get_or l i op) (sym c.ops.ensures) ∙ sym c.index-ops-i.is) in
    let command = sym c.is_command.ensures ∙ c.if-not-is_command.false in
    subst (HasMade script c.args.replies.now (i + 1) (k + 1)) (sym c.in_ok-push_made.ensures)
    (HasMade-command script c.args.replies.now i k op at c.args.made.now.items c.requires.so_far c.reply_at.result command c.reply_at.ensures)
