use Rattle.std.proofs.Common.{Option, Some, Err, sym, ap, ◌∙◌}
use Rattle.std.specs.Option.{option_map}
use Rattle.command_parts.proofs.laws.TaskElements.{task_in-read}
use Rattle.command_parts.specs.Replies.{reply_to}
use Rattle.command_parts.specs.TaskMoves.{refusal_of}
use Rattle.tree_law.specs.commands.Tasks.{against_task, moved}
use Rattle.command_parts.proofs.task_moves.move_task.Goals as goal

pub returns-in_default-clause-against : goal.returns-in_default-clause-against
returns-in_default-clause-against c =
    let read = task_in-read c.args.element.now c.trim.result.now c.read_dec.result c.trim.ensures c.read_dec.ensures in
    ap (λ r. Some r) c.refused.ensures ∙ sym (ap (λ (o : Option _). option_map reply_to (against_task c.args.kind c.args.tasks.now o)) (read ∙ c.in_default.is))

pub returns-in-Ok-clause-against : goal.returns-in-Ok-clause-against
returns-in-Ok-clause-against c =
    let read = task_in-read c.args.element.now c.trim.result.now c.read_dec.result c.trim.ensures c.read_dec.ensures in
    let against = ap (against_task c.args.kind c.args.tasks.now) (read ∙ c.in-Some.is) ∙ sym c.bind.ensures.against in
    ap (option_map reply_to) (sym (against ∙ ap (refusal_of c.in-Some.task) c.in-Ok.is))

pub returns-in-Ok-clause-moved : goal.returns-in-Ok-clause-moved
returns-in-Ok-clause-moved c =
    let read = task_in-read c.args.element.now c.trim.result.now c.read_dec.result c.trim.ensures c.read_dec.ensures in
    c.in-Ok.ensures.ok ∙ sym (ap (λ o. moved c.args.gid c.args.kind o c.args.tasks.now) (read ∙ c.in-Some.is))

pub returns-in-Err-NoTask-clause-against : goal.returns-in-Err-NoTask-clause-against
returns-in-Err-NoTask-clause-against c =
    let read = task_in-read c.args.element.now c.trim.result.now c.read_dec.result c.trim.ensures c.read_dec.ensures in
    let against = ap (against_task c.args.kind c.args.tasks.now) (read ∙ c.in-Some.is) ∙ sym c.bind.ensures.against in
    ap (λ r. Some r) c.refused-in-Err-NoTask.ensures ∙ ap (option_map reply_to) (sym (against ∙ ap (refusal_of c.in-Some.task) (c.in-Err-NoTask.is ∙ ap (λ f. Err f) c.in-Err-NoTask.field-0-is)))

pub returns-in-Err-OtherControl-clause-against : goal.returns-in-Err-OtherControl-clause-against
returns-in-Err-OtherControl-clause-against c =
    let read = task_in-read c.args.element.now c.trim.result.now c.read_dec.result c.trim.ensures c.read_dec.ensures in
    let against = ap (against_task c.args.kind c.args.tasks.now) (read ∙ c.in-Some.is) ∙ sym c.bind.ensures.against in
    ap (λ r. Some r) c.refused-in-Err-OtherControl.ensures ∙ ap (option_map reply_to) (sym (against ∙ ap (refusal_of c.in-Some.task) (c.in-Err-OtherControl.is ∙ ap (λ f. Err f) c.in-Err-OtherControl.field-0-is)))
