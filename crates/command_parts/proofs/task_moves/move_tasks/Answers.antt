use Rattle.std.proofs.Common.{◌≡◌, ◌<◌, false, true, List, [], ◌∷◌, ℕ, length, sym, ap, ap₂, ◌∙◌}
use Rattle.std.specs.List.{after_first, list_any}
use Rattle.cpu_lists.specs.Masks.{comma}
use Rattle.lists.proofs.Cuts.{before_first-none}
use Rattle.lists.proofs.Options.{option_map-none, option_map-some}
use Rattle.task_binding.specs.declared.binding.Binding.{Binding}
use Rattle.command_parts.proofs.laws.TaskElements.{moves-ended, moves-moved, pieces, pieces-elements, pieces-last, pieces-more}
use Rattle.command_parts.specs.Replies.{reply_to}
use Rattle.tree_law.specs.Refusals.{reply_of}
use Rattle.tree_law.specs.commands.Tasks.{Moves, against_task, moves, task_in, without_empty_last}
use Rattle.command_parts.proofs.task_moves.move_tasks.Goals as goal

pub elements-init : goal.elements-init
elements-init c = record { rest = ap (λ (es : List (List ℕ)). moves c.args.gid c.args.kind es c.args.tasks.now) (pieces-elements c.args.text.now c.trim-left.result.now c.trim-left.ensures) }

pub returns-in_default-clause-reply : goal.returns-in_default-clause-reply
returns-in_default-clause-reply c =
    let left = c.elements.left.now in
    let none : list_any comma left ≡ false = rw c.in_default.is at c.cut.ensures.back in
    let whole = ap (λ (e : List ℕ). moves c.args.gid c.args.kind (without_empty_last (e ∷ [])) c.elements.tasks) (c.cut.ensures.front ∙ before_first-none comma left none)
    ∙ ap (λ (es : List (List ℕ)). moves c.args.gid c.args.kind es c.elements.tasks) (sym (pieces-last left none)) ∙ c.elements.invariant.rest in
    c.move_last.ensures.reply ∙ ap (λ (x : Moves). reply_of x.ended) whole

pub returns-in_default-clause-tasks : goal.returns-in_default-clause-tasks
returns-in_default-clause-tasks c =
    let left = c.elements.left.now in
    let none : list_any comma left ≡ false = rw c.in_default.is at c.cut.ensures.back in
    let whole = ap (λ (e : List ℕ). moves c.args.gid c.args.kind (without_empty_last (e ∷ [])) c.elements.tasks) (c.cut.ensures.front ∙ before_first-none comma left none)
    ∙ ap (λ (es : List (List ℕ)). moves c.args.gid c.args.kind es c.elements.tasks) (sym (pieces-last left none)) ∙ c.elements.invariant.rest in
    c.move_last.ensures.tasks ∙ ap (λ (x : Moves). x.tasks) whole

pub returns-in-Some-move_task-clause-reply : goal.returns-in-Some-move_task-clause-reply
returns-in-Some-move_task-clause-reply c =
    let left = c.elements.left.now in let bindings = c.elements.tasks in let e = c.cut.result.0.now in
    let back : (list_any comma left ≡ true) × (c.in-Some.rest.now ≡ after_first comma left) × (length c.in-Some.rest.now < length left) = rw c.in-Some.is at c.cut.ensures.back in
    let r = option_map-some reply_to (against_task c.args.kind bindings (task_in e)) c.in-Some-move_task.refused (sym c.move_task.ensures.against ∙ c.in-Some-move_task.is) in
    let whole = sym (moves-ended c.args.gid c.args.kind e (pieces (after_first comma left)) bindings r.0 r.1)
    ∙ ap (λ (x : List ℕ). moves c.args.gid c.args.kind (x ∷ pieces (after_first comma left)) bindings) c.cut.ensures.front
    ∙ ap (λ (es : List (List ℕ)). moves c.args.gid c.args.kind es bindings) (sym (pieces-more left back.0)) ∙ c.elements.invariant.rest in
    sym r.2 ∙ ap (λ (x : Moves). reply_of x.ended) whole

pub returns-in-Some-move_task-clause-tasks : goal.returns-in-Some-move_task-clause-tasks
returns-in-Some-move_task-clause-tasks c =
    let left = c.elements.left.now in let bindings = c.elements.tasks in let e = c.cut.result.0.now in
    let back : (list_any comma left ≡ true) × (c.in-Some.rest.now ≡ after_first comma left) × (length c.in-Some.rest.now < length left) = rw c.in-Some.is at c.cut.ensures.back in
    let r = option_map-some reply_to (against_task c.args.kind bindings (task_in e)) c.in-Some-move_task.refused (sym c.move_task.ensures.against ∙ c.in-Some-move_task.is) in
    let whole = sym (moves-ended c.args.gid c.args.kind e (pieces (after_first comma left)) bindings r.0 r.1)
    ∙ ap (λ (x : List ℕ). moves c.args.gid c.args.kind (x ∷ pieces (after_first comma left)) bindings) c.cut.ensures.front
    ∙ ap (λ (es : List (List ℕ)). moves c.args.gid c.args.kind es bindings) (sym (pieces-more left back.0)) ∙ c.elements.invariant.rest in
    c.in-Some-move_task.ensures.kept ∙ ap (λ (x : Moves). x.tasks) whole

pub elements-preserved : goal.elements-preserved
elements-preserved c =
    let left = c.elements.left.now in let bindings = c.elements.tasks in let e = c.cut.result.0.now in
    let back : (list_any comma left ≡ true) × (c.in-Some.rest.now ≡ after_first comma left) × (length c.in-Some.rest.now < length left) = rw c.in-Some.is at c.cut.ensures.back in
    let none = option_map-none reply_to (against_task c.args.kind bindings (task_in e)) (sym c.move_task.ensures.against ∙ c.in_default-move_task.is) in
    record {
      rest = ap₂ (λ (rest : List ℕ) (bs : List Binding). moves c.args.gid c.args.kind (pieces rest) bs) back.1 c.in_default-move_task.ensures.moved
          ∙ sym (moves-moved c.args.gid c.args.kind e (pieces (after_first comma left)) bindings none)
          ∙ ap (λ (x : List ℕ). moves c.args.gid c.args.kind (x ∷ pieces (after_first comma left)) bindings) c.cut.ensures.front
          ∙ ap (λ (es : List (List ℕ)). moves c.args.gid c.args.kind es bindings) (sym (pieces-more left back.0)) ∙ c.elements.invariant.rest;
    }
