use Rattle.std.proofs.Common.{◌≡◌, ◌+◌, ◌*◌, ◌≤◌, ◌++◌, length, take}
use Rattle.std.specs.List.{flat_map}
use Rattle.file_view.specs.GroupFiles.{task_line}
use Rattle.file_view.proofs.tasks.push_members.Given as goal

abbrev pub invariant-loop-binding : goal.invariant-loop-binding
invariant-loop-binding l = record {
  bytes : l.out.bytes ≡ l.initial.out.bytes ++ flat_map (task_line l.group) (take l.binding-index l.bindings);
  spare : l.out.spare + length (flat_map (task_line l.group) (take l.binding-index l.bindings)) ≡ l.initial.out.spare;
  short : length (flat_map (task_line l.group) (take l.binding-index l.bindings)) ≤ 21 * l.binding-index;
}
