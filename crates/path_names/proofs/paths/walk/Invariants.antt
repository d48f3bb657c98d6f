use Rattle.std.proofs.Common.{◌≡◌, ◌+◌, ◌≤◌, ◌<◌, All, Some, length}
use Rattle.path_names.specs.Components.{components}
use Rattle.path_names.specs.NamesIn.{path_ids}
use Rattle.path_names.specs.Interned.{Keeps}
use Rattle.path_names.specs.Reading.{reached, reached_from}
use Rattle.path_names.proofs.paths.walk.Given as goal

abbrev pub invariant-loop-name : goal.invariant-loop-name
invariant-loop-name l = record {
  path : reached l.domains l.initial.names (components l.text) ≡ reached_from l.domains (Some l.at, l.names) (components l.left);
  ids : All (λ id. id < length l.names) (path_ids l.at);
  count : length l.names ≤ length l.initial.names + length (path_ids l.at);
  bytes : length l.names + length l.left ≤ length l.initial.names + length l.text;
  kept : Keeps l.initial.names l.names;
}

abbrev pub decreases-loop-name : goal.decreases-loop-name
decreases-loop-name l = length l.left
