use Rattle.std.proofs.Common.{◌+◌, ◌++◌, length, ap, sym, ◌∙◌}
use Rattle.std.specs.List.{flat_map}
use Rattle.pair_tree.proofs.SideLines.{flat_map-task_line}
use Rattle.pair_tree.specs.Printed.{task_line}
use Rattle.pair_tree.proofs.tables.Tables.push_file.Goals as goal

pub returns-in-Tasks-clause-bytes : goal.returns-in-Tasks-clause-bytes
returns-in-Tasks-clause-bytes c =
    let lines = ap (flat_map (task_line c.args.g.now.gid)) c.bindings.ensures ∙ flat_map-task_line c.args.g.now.gid c.args.self.now.tasks in
    rw c.in-Tasks.is (c.push_tasks.ensures.bytes ∙ ap (λ t. c.args.out.now.bytes ++ t) lines)

pub returns-in-Tasks-clause-spare : goal.returns-in-Tasks-clause-spare
returns-in-Tasks-clause-spare c =
    let lines = ap (flat_map (task_line c.args.g.now.gid)) c.bindings.ensures ∙ flat_map-task_line c.args.g.now.gid c.args.self.now.tasks in
    rw c.in-Tasks.is (ap (λ t. c.push_tasks.new.out.spare + length t) (sym lines) ∙ c.push_tasks.ensures.spare)
