-- The lines of the tasks of a group.
use Rattle.std.proofs.Common.{◌≡◌, ℕ, Bool, true, false, cond, List, [], ◌∷◌, ◌++◌, map, filter, decimal, refl, ap}
use Rattle.std.specs.List.{flat_map}
use Rattle.file_view.specs.GroupFiles.{task_line, tasks_text}
use Rattle.file_view.specs.Lines.{on_line, on_lines}
use Rattle.group_tree.specs.Records.{is_control}
use Rattle.group_tree.specs.declared.group.Group.{Group}
use Rattle.task_binding.specs.Bindings.{control_members, has_control, has_monitor, monitor_members}
use Rattle.task_binding.specs.declared.binding.Binding.{Binding}
use Rattle.tree_law.specs.State.{State}

-- the lines of the tasks that pass a test are those of all, where the others have none
flat_map-passing : (p : Binding → Bool) (tasks : List Binding) → flat_map (λ (b : Binding). cond (p b) (on_line (decimal b.task)) []) tasks ≡ on_lines (map decimal (map (λ (b : Binding). b.task) (filter p tasks)))
flat_map-passing p [] = refl
flat_map-passing p (b ∷ tasks) = at (p b) (flat_map-passing p tasks)
  where
    others : List ℕ
    others = flat_map (λ (b : Binding). cond (p b) (on_line (decimal b.task)) []) tasks

    at : (c : Bool) → others ≡ on_lines (map decimal (map (λ (b : Binding). b.task) (filter p tasks))) → cond c (on_line (decimal b.task)) [] ++ others ≡ on_lines (map decimal (map (λ (b : Binding). b.task) (cond c (b ∷ filter p tasks) (filter p tasks))))
    at true rest = ap (λ (t : List ℕ). on_line (decimal b.task) ++ t) rest
    at false rest = rest

-- the lines of the group's tasks are its text
pub flat_map-task_line : (s : State) (g : Group) → flat_map (task_line g) s.tasks ≡ tasks_text s g
flat_map-task_line s g = at (is_control g.kind)
  where
    at : (c : Bool) → flat_map (λ (b : Binding). cond (cond c (has_control g.gid b) (has_monitor g.gid b)) (on_line (decimal b.task)) []) s.tasks ≡ on_lines (map decimal (cond c (control_members g.gid s.tasks) (monitor_members g.gid s.tasks)))
    at true = flat_map-passing (has_control g.gid) s.tasks
    at false = flat_map-passing (has_monitor g.gid) s.tasks
