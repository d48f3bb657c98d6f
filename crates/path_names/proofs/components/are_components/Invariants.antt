use Rattle.std.proofs.Common.{◌≡◌, length}
use Rattle.std.specs.List.{list_all}
use Rattle.path_names.specs.Components.{components, is_component}
use Rattle.path_names.proofs.components.are_components.Given as goal

abbrev pub invariant-loop-name : goal.invariant-loop-name
invariant-loop-name l = list_all is_component (components l.text) ≡ list_all is_component (components l.left)

abbrev pub decreases-loop-name : goal.decreases-loop-name
decreases-loop-name l = length l.left
