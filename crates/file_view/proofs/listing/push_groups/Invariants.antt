use Rattle.std.proofs.Common.{◌≡◌, ◌+◌, ◌*◌, ◌≤◌, ◌++◌, length, take}
use Rattle.std.specs.List.{flat_map}
use Rattle.file_view.specs.Listings.{group_line}
use Rattle.file_view.proofs.listing.push_groups.Given as goal

abbrev pub invariant-loop-i : goal.invariant-loop-i
invariant-loop-i l = record {
  bytes : l.out.bytes ≡ l.initial.out.bytes ++ flat_map (group_line l.names l.parent) (take l.i l.groups.groups);
  spare : l.out.spare + length (flat_map (group_line l.names l.parent) (take l.i l.groups.groups)) ≡ l.initial.out.spare;
  short : length (flat_map (group_line l.names l.parent) (take l.i l.groups.groups)) ≤ 256 * l.i;
}
