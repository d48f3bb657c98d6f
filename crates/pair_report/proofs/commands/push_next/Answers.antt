use Rattle.std.proofs.Common.{◌≡◌, ℕ, ◌+◌, List, get_or, Some, refl, sym, ap, ◌∙◌, arith}
use Rattle.std.proofs.lemmas.Option.{slice_get-get_or}
use Rattle.pair_text.specs.Values.{op_at}
use Rattle.pair_text.specs.declared.op.PairOp.{PairOp}
use Rattle.pair_report.proofs.CommandLines.{lines-command, lines-use}
use Rattle.pair_law.proofs.laws.Commands.{epoch_at-lt}
use Rattle.pair_law.proofs.laws.Playing.{epoch_at-command, epoch_at-use}
use Rattle.pair_text.specs.declared.limits.TheConstants.{MOST_COMMANDS}
use Rattle.pair_report.proofs.commands.push_next.Goals as goal

pub returns-then-not-is_command-clause-before : goal.returns-then-not-is_command-clause-before
returns-then-not-is_command-clause-before c =
    let script = c.args.script.now in
    let i : ℕ = c.args.place in
    let op : PairOp = c.index-ops-place.result in
    let at : op_at script i ≡ Some op = slice_get-get_or script.ops i op c.requires.within ∙ ap Some (ap (λ (l : List PairOp). get_or l i op) (sym c.ops.ensures) ∙ sym c.index-ops-place.is) in
    c.requires.before ∙ sym (epoch_at-use script i op at (sym c.is_command.ensures ∙ c.if-not-is_command.true))

pub returns-then-not-is_command-clause-text : goal.returns-then-not-is_command-clause-text
returns-then-not-is_command-clause-text c = λ before was.
    let script = c.args.script.now in
    let i : ℕ = c.args.place in
    let op : PairOp = c.index-ops-place.result in
    let at : op_at script i ≡ Some op = slice_get-get_or script.ops i op c.requires.within ∙ ap Some (ap (λ (l : List PairOp). get_or l i op) (sym c.ops.ensures) ∙ sym c.index-ops-place.is) in
    lines-use script c.args.replies.now i op at before c.args.report.now c.args.report.now was (sym c.is_command.ensures ∙ c.if-not-is_command.true)

pub reply_at-reply-requires : goal.reply_at-reply-requires
reply_at-reply-requires c =
    let script = c.args.script.now in
    let i : ℕ = c.args.place in
    let op : PairOp = c.index-ops-place.result in
    let at : op_at script i ≡ Some op = slice_get-get_or script.ops i op c.requires.within ∙ ap Some (ap (λ (l : List PairOp). get_or l i op) (sym c.ops.ensures) ∙ sym c.index-ops-place.is) in
    let lt = epoch_at-lt script i op at (sym c.is_command.ensures ∙ c.if-not-is_command.false) in
    let epoch = c.requires.before in
    let answered = c.requires.answered in
    omega (arith, lt, epoch, answered)

pub overflow_add-walk : goal.overflow_add-walk
overflow_add-walk c =
    let script = c.args.script.now in
    let i : ℕ = c.args.place in
    let op : PairOp = c.index-ops-place.result in
    let at : op_at script i ≡ Some op = slice_get-get_or script.ops i op c.requires.within ∙ ap Some (ap (λ (l : List PairOp). get_or l i op) (sym c.ops.ensures) ∙ sym c.index-ops-place.is) in
    let lt = epoch_at-lt script i op at (sym c.is_command.ensures ∙ c.if-not-is_command.false) in
    let epoch = c.requires.before in
    let most = c.requires.playable.few in
    let number : MOST_COMMANDS ≡ 20000 = refl in
    omega (arith, lt, epoch, most, number)

pub returns-clause-before : goal.returns-clause-before
returns-clause-before c =
    let script = c.args.script.now in
    let i : ℕ = c.args.place in
    let op : PairOp = c.index-ops-place.result in
    let at : op_at script i ≡ Some op = slice_get-get_or script.ops i op c.requires.within ∙ ap Some (ap (λ (l : List PairOp). get_or l i op) (sym c.ops.ensures) ∙ sym c.index-ops-place.is) in
    ap (λ n. n + 1) c.requires.before ∙ sym (epoch_at-command script i op at (sym c.is_command.ensures ∙ c.if-not-is_command.false))

pub returns-clause-text : goal.returns-clause-text
returns-clause-text c = λ before was.
    let script = c.args.script.now in
    let i : ℕ = c.args.place in
    let op : PairOp = c.index-ops-place.result in
    let at : op_at script i ≡ Some op = slice_get-get_or script.ops i op c.requires.within ∙ ap Some (ap (λ (l : List PairOp). get_or l i op) (sym c.ops.ensures) ∙ sym c.index-ops-place.is) in
    lines-command script c.args.replies.now i op at before c.args.report.now c.push_line.new.report was c.args.walk.now.commands c.reply_at-reply.result c.requires.before
    (sym c.is_command.ensures ∙ c.if-not-is_command.false) c.reply_at-reply.ensures c.in_ok-push_line.ensures.text

pub returns-then-not-is_command-clause-behind : goal.returns-then-not-is_command-clause-behind
returns-then-not-is_command-clause-behind c = let later = c.requires.behind.later in record { taken = c.requires.behind.taken; later = omega (arith, later) }

pub returns-clause-behind : goal.returns-clause-behind
returns-clause-behind c = let after = c.in_ok-push_line.ensures.behind in let later = after.later in record { taken = after.taken; later = omega (arith, later) }
