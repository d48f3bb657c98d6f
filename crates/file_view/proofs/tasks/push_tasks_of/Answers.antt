use Rattle.std.proofs.Common.{◌≡◌, ℕ, ◌+◌, List, ◌++◌, length, ap, ◌∙◌, sym}
use Rattle.std.specs.List.{flat_map}
use Rattle.file_view.specs.GroupFiles.{task_line, tasks_text}
use Rattle.file_view.proofs.TaskLines.{flat_map-task_line}
use Rattle.file_view.proofs.tasks.push_tasks_of.Goals as goal

pub returns-clause-bytes : goal.returns-clause-bytes
returns-clause-bytes c =
    let s = c.args.tree.now.state in
    let g = c.args.group.now in
    let lines : flat_map (task_line g) c.bindings.result.now ≡ tasks_text s g = ap (flat_map (task_line g)) (c.bindings.ensures ∙ c.tasks.ensures.tasks) ∙ flat_map-task_line s g in
    c.push_members.ensures.bytes ∙ ap (λ (t : List ℕ). c.args.out.now.bytes ++ t) lines

pub returns-clause-spare : goal.returns-clause-spare
returns-clause-spare c =
    let s = c.args.tree.now.state in
    let g = c.args.group.now in
    let lines : flat_map (task_line g) c.bindings.result.now ≡ tasks_text s g = ap (flat_map (task_line g)) (c.bindings.ensures ∙ c.tasks.ensures.tasks) ∙ flat_map-task_line s g in
    ap (λ (t : List ℕ). c.push_members.new.out.spare + length t) (sym lines) ∙ c.push_members.ensures.spare
