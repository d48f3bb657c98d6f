-- The groups at the start.
use Rattle.std.specs.Prelude.{ℕ, ◌-◌, ◌^◌, List, [], ◌∷◌, ◌++◌, replicate, Some, None}
use Rattle.machine.specs.declared.parameters.Parameters.{Parameters}
use Rattle.rc_base.specs.Gids.{default_gid}
use Rattle.rc_base.specs.declared.names.Mode.TheVariants.{Shareable}
use Rattle.group_tree.specs.declared.group.Group.{Group}
use Rattle.group_tree.specs.declared.group_kind.GroupKind.TheVariants.{Control}
use Rattle.group_tree.specs.Lists.{GroupList}

-- the same mask in each domain of the machine, and 0 at the places of the others
abbrev pub in_each_domain : Parameters → ℕ → List ℕ
in_each_domain p mask = replicate p.domains mask ++ replicate (8 - p.domains) 0

-- the mask of every way
abbrev pub full_mask : Parameters → ℕ
full_mask p = 2 ^ p.ways - 1

-- the default group: shareable, with every way of each cache, class 0 and RMID 0
abbrev pub default_group : Parameters → Group
default_group p = record { gid = default_gid; name = None; kind = Control; mode = Shareable; class = Some 0; rmid = Some 0; masks = in_each_domain p (full_mask p) }

-- (For proofs.) the default group alone, on a machine with these shareable bits
abbrev pub opening_groups : Parameters → GroupList
opening_groups p = record { groups = default_group p ∷ []; shareable = p.shareable }
