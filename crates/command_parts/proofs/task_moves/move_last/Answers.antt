use Rattle.std.proofs.Common.{◌≡◌, false, true, List, [], ℕ, eqb, length, sym, ap, ◌∙◌}
use Rattle.lists.proofs.Options.{option_map-some}
use Rattle.command_parts.proofs.laws.TaskElements.{moves-ended, without_empty_last-one}
use Rattle.command_parts.specs.Replies.{reply_to}
use Rattle.tree_law.specs.Refusals.{reply_of}
use Rattle.tree_law.specs.commands.Tasks.{Moves, against_task, moves, task_in}
use Rattle.command_parts.proofs.task_moves.move_last.Goals as goal

pub returns-in-Some-clause-reply : goal.returns-in-Some-clause-reply
returns-in-Some-clause-reply c =
    let e = c.args.element.now in
    let some : e ≡ [] → ⊥ = λ is. (let f : false ≡ true = c.if-is_empty.ensures ∙ ap (λ (xs : List ℕ). eqb (length xs) 0) is in cc) in
    let r = option_map-some reply_to (against_task c.args.kind c.args.tasks.now (task_in e)) c.in-Some.refused (sym c.move_task.ensures.against ∙ c.in-Some.is) in
    let whole = ap (λ es. moves c.args.gid c.args.kind es c.args.tasks.now) (without_empty_last-one e some) ∙ moves-ended c.args.gid c.args.kind e [] c.args.tasks.now r.0 r.1 in
    sym r.2 ∙ sym (ap (λ (x : Moves). reply_of x.ended) whole)

pub returns-in-Some-clause-tasks : goal.returns-in-Some-clause-tasks
returns-in-Some-clause-tasks c =
    let e = c.args.element.now in
    let some : e ≡ [] → ⊥ = λ is. (let f : false ≡ true = c.if-is_empty.ensures ∙ ap (λ (xs : List ℕ). eqb (length xs) 0) is in cc) in
    let r = option_map-some reply_to (against_task c.args.kind c.args.tasks.now (task_in e)) c.in-Some.refused (sym c.move_task.ensures.against ∙ c.in-Some.is) in
    let whole = ap (λ es. moves c.args.gid c.args.kind es c.args.tasks.now) (without_empty_last-one e some) ∙ moves-ended c.args.gid c.args.kind e [] c.args.tasks.now r.0 r.1 in
    c.in-Some.ensures.kept ∙ sym (ap (λ (x : Moves). x.tasks) whole)
