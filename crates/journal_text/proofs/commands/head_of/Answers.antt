use Rattle.std.proofs.Common.{◌∷◌, [], arith, codes, refl, rules}
use Rattle.journal_text.proofs.CommandParts.{IsCommandHead-read, no_head, no_op, no_reply, no_thread, no_tree_word, too_long, too_many}
use Rattle.journal_text.proofs.KindWords.{is_word}
use Rattle.journal_text.proofs.laws.Taken.{Takes-append, TakesNone-after, TakesNone-more}
use Rattle.journal_text.proofs.commands.head_of.Goals as goal

pub returns-then-not-is_text : goal.returns-then-not-is_text
returns-then-not-is_text c = no_tree_word c.args.weight c.first_word.result.0.now c.first_word.result.1.now c.args.line.now (search rules) c.first_word.ensures c.if-not-is_text.ensures

pub returns-in_err-thread : goal.returns-in_err-thread
returns-in_err-thread c = rw c.from_residual.ensures (no_head c.args.weight c.first_word.result.0.now c.first_word.result.1.now c.args.line.now (search rules) c.first_word.ensures (TakesNone-more 3 5 c.first_word.result.1.now (omega arith) c.in_err-thread.ensures))

pub returns-in_err-arg : goal.returns-in_err-arg
returns-in_err-arg c =
    let a = c.in_ok-thread in
    rw c.from_residual-in_err-arg.ensures (no_head c.args.weight c.first_word.result.0.now c.first_word.result.1.now c.args.line.now (search rules) c.first_word.ensures (TakesNone-after 2 5 (a.thread ∷ a.op ∷ a.reason ∷ []) a.rest.now c.first_word.result.1.now refl a.ensures c.in_err-arg.ensures))

pub returns-then-looks-weight : goal.returns-then-looks-weight
returns-then-looks-weight c =
    let a = c.in_ok-thread in
    let b = c.in_ok-arg in
    let takes = Takes-append (a.thread ∷ a.op ∷ a.reason ∷ []) (b.arg ∷ b.looks ∷ []) a.rest.now b.rest.now c.first_word.result.1.now a.ensures b.ensures in
    let many = c.if-looks-weight.true in
    too_many c.args.weight c.first_word.result.0.now c.first_word.result.1.now c.args.line.now (search rules) c.first_word.ensures a.thread a.op a.reason b.arg b.looks b.rest.now takes (λ few. omega arith)

pub returns-then-looks-rest : goal.returns-then-looks-rest
returns-then-looks-rest c =
    let a = c.in_ok-thread in
    let b = c.in_ok-arg in
    let takes = Takes-append (a.thread ∷ a.op ∷ a.reason ∷ []) (b.arg ∷ b.looks ∷ []) a.rest.now b.rest.now c.first_word.result.1.now a.ensures b.ensures in
    let many = c.if-looks-rest.true in
    too_long c.args.weight c.first_word.result.0.now c.first_word.result.1.now c.args.line.now (search rules) c.first_word.ensures a.thread a.op a.reason b.arg b.looks b.rest.now takes (omega (arith, many))

pub returns-in_err-thread-2 : goal.returns-in_err-thread-2
returns-in_err-thread-2 c =
    let a = c.in_ok-thread in
    let b = c.in_ok-arg in
    let takes = Takes-append (a.thread ∷ a.op ∷ a.reason ∷ []) (b.arg ∷ b.looks ∷ []) a.rest.now b.rest.now c.first_word.result.1.now a.ensures b.ensures in
    rw c.from_residual-in_err-thread-2.ensures (no_thread c.args.weight c.first_word.result.0.now c.first_word.result.1.now c.args.line.now (search rules) c.first_word.ensures a.thread a.op a.reason b.arg b.looks b.rest.now takes c.in_err-thread-2.ensures)

pub returns-in_err-op : goal.returns-in_err-op
returns-in_err-op c =
    let a = c.in_ok-thread in
    let b = c.in_ok-arg in
    let takes = Takes-append (a.thread ∷ a.op ∷ a.reason ∷ []) (b.arg ∷ b.looks ∷ []) a.rest.now b.rest.now c.first_word.result.1.now a.ensures b.ensures in
    rw c.from_residual-in_err-op.ensures (no_op c.args.weight c.first_word.result.0.now c.first_word.result.1.now c.args.line.now (search rules) c.first_word.ensures a.thread a.op a.reason b.arg b.looks b.rest.now takes c.in_err-op.ensures)

pub returns-in_err-reply : goal.returns-in_err-reply
returns-in_err-reply c =
    let a = c.in_ok-thread in
    let b = c.in_ok-arg in
    let takes = Takes-append (a.thread ∷ a.op ∷ a.reason ∷ []) (b.arg ∷ b.looks ∷ []) a.rest.now b.rest.now c.first_word.result.1.now a.ensures b.ensures in
    rw c.from_residual-in_err-reply.ensures (no_reply c.args.weight c.first_word.result.0.now c.first_word.result.1.now c.args.line.now (search rules) c.first_word.ensures a.thread a.op a.reason b.arg b.looks b.rest.now takes c.in_err-reply.ensures)

pub returns : goal.returns
returns c =
    let a = c.in_ok-thread in
    let b = c.in_ok-arg in
    let takes = Takes-append (a.thread ∷ a.op ∷ a.reason ∷ []) (b.arg ∷ b.looks ∷ []) a.rest.now b.rest.now c.first_word.result.1.now a.ensures b.ensures in
    IsCommandHead-read c.args.weight c.first_word.result.0.now c.first_word.result.1.now c.args.line.now (search rules) c.first_word.ensures a.thread a.op a.reason b.arg b.looks b.rest.now takes c.in_ok-thread-2.thread c.in_ok-op.op c.in_ok-reply.reply (is_word (codes "tree") c.first_word.result.0.now c.if-not-is_text.ensures) c.if-looks-weight.false c.in_ok-thread-2.ensures c.in_ok-op.ensures c.in_ok-reply.ensures
