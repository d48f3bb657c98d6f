use Rattle.std.proofs.Common.{ℕ, Bool, Some, Result, eqb, length, filter, subst, ap, ap₂, ◌∙◌}
use Rattle.std.specs.Option.{option_map}
use Rattle.cpu_binding.specs.Groups as cpu_groups
use Rattle.cpu_binding.specs.Groups.{IsSetOf}
use Rattle.mode_rules.specs.Setup.{entry_refusal}
use Rattle.rc_base.specs.Gids.{is_default}
use Rattle.rc_base.specs.declared.replies.Why.{Why}
use Rattle.task_binding.specs.Bindings as bindings
use Rattle.tree_core.proofs.Setups.{IsSetOf-empty, any_task-empty, entry_refusal-same}
use Rattle.command_parts.specs.Replies.{reply_to}
use Rattle.tree_core.specs.Values.{TreeValue}
use Rattle.tree_law.specs.Freeing.{monitors_of}
use Rattle.tree_law.specs.commands.Mode.{reason_of}
use Rattle.tree_core.proofs.tree.Tree.kept_out.Goals as goal

pub returns-in-Ok : goal.returns-in-Ok
returns-in-Ok c =
    let s = c.args.self.now.state in let g = c.args.group.now in
    let cpus : IsSetOf (cpu_groups.has_control g.gid) s.cpus c.ctrl_set-cpus.result = subst (λ (v : TreeValue). IsSetOf (cpu_groups.has_control g.gid) v.state.cpus c.ctrl_set-cpus.result) c.self.view_is c.ctrl_set-cpus.ensures in
    let tasks = ap (λ (n : ℕ). eqb n 0) c.any_task-tasks.ensures ∙ any_task-empty g.gid s.tasks in
    let same = ap₂ (λ (b : Bool) (n : ℕ). entry_refusal (record { is_default = b; monitors = n; tasks = c.any_task-tasks.result; cpus = c.ctrl_set-cpus.result })) c.is_default.ensures c.monitor_count-monitors.ensures
    ∙ entry_refusal-same (is_default g.gid) (length (monitors_of s g.gid)) c.any_task-tasks.result (length (filter (bindings.has_control g.gid) s.tasks)) c.ctrl_set-cpus.result (length (filter (cpu_groups.has_control g.gid) s.cpus)) tasks (IsSetOf-empty (cpu_groups.has_control g.gid) s.cpus c.ctrl_set-cpus.result cpus) in
    ap (λ (r : Result (Unit {0}) Why). option_map reply_to (reason_of r)) (c.in-Ok.ensures ∙ same)

pub returns-in-Err : goal.returns-in-Err
returns-in-Err c =
    let s = c.args.self.now.state in let g = c.args.group.now in
    let cpus : IsSetOf (cpu_groups.has_control g.gid) s.cpus c.ctrl_set-cpus.result = subst (λ (v : TreeValue). IsSetOf (cpu_groups.has_control g.gid) v.state.cpus c.ctrl_set-cpus.result) c.self.view_is c.ctrl_set-cpus.ensures in
    let tasks = ap (λ (n : ℕ). eqb n 0) c.any_task-tasks.ensures ∙ any_task-empty g.gid s.tasks in
    let same = ap₂ (λ (b : Bool) (n : ℕ). entry_refusal (record { is_default = b; monitors = n; tasks = c.any_task-tasks.result; cpus = c.ctrl_set-cpus.result })) c.is_default.ensures c.monitor_count-monitors.ensures
    ∙ entry_refusal-same (is_default g.gid) (length (monitors_of s g.gid)) c.any_task-tasks.result (length (filter (bindings.has_control g.gid) s.tasks)) c.ctrl_set-cpus.result (length (filter (cpu_groups.has_control g.gid) s.cpus)) tasks (IsSetOf-empty (cpu_groups.has_control g.gid) s.cpus c.ctrl_set-cpus.result cpus) in
    ap Some c.refused.ensures ∙ ap (λ (r : Result (Unit {0}) Why). option_map reply_to (reason_of r)) (c.in-Err.ensures ∙ same)
