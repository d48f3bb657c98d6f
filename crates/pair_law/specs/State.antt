-- The state of the groups of a pair script.
-- (Intel SDM volume 3, code and data prioritization; kernel documentation, "Resource alloc and monitor groups".)
use Rattle.std.specs.Prelude.{ℕ, Bool, true, false, ◌==◌, find, List, [], ◌∷◌, map, Option, Some, None, slice_index}
use Rattle.std.specs.Option.{option_map_or}
use Rattle.group_tree.specs.Opening.{full_mask, in_each_domain}
use Rattle.pair_text.specs.Values.{Machines, side_machine}
pub use Rattle.pair_text.specs.declared.group.PairGroup.{PairGroup}
use Rattle.pair_text.specs.declared.side.Side.{Side}
use Rattle.pair_text.specs.declared.side.Side.TheVariants.{First, Second}
use Rattle.rc_base.specs.Gids.{default_gid}
use Rattle.rc_base.specs.Texts.{is_text}
use Rattle.rc_base.specs.declared.names.Gid.{Gid}
use Rattle.rc_base.specs.declared.names.Mode.TheVariants.{Shareable}
use Rattle.rc_base.specs.declared.replies.Reply.{Reply}
use Rattle.task_binding.specs.Bindings.{binding_of, opening_binding}
use Rattle.task_binding.specs.declared.binding.Binding.{Binding}

-- The groups in order of creation; each task with its group; and the serial number of the next group.
pub record PairState : Type 0 where
  pub groups : List PairGroup
  pub tasks : List Binding
  pub next_gid : ℕ

-- the masks of a side
abbrev pub masks_on : Side → PairGroup → List ℕ
masks_on First g = g.first
masks_on Second g = g.second

-- the mask of a side in a domain
abbrev pub mask_in : Side → ℕ → PairGroup → ℕ
mask_in side domain g = slice_index (masks_on side g) domain

-- whether a group has this serial number
abbrev pub has_gid : Gid → PairGroup → Bool
has_gid gid g = gid.0 == g.gid.0

-- whether two names are the same; the default group has none
abbrev pub is_same_name : Option (List ℕ) → Option (List ℕ) → Bool
is_same_name None None = true
is_same_name None (Some other) = false
is_same_name (Some name) None = false
is_same_name (Some name) (Some other) = is_text name other

-- whether a group has this name
abbrev pub has_name : Option (List ℕ) → PairGroup → Bool
has_name name g = is_same_name name g.name

-- the record of a group, by its serial number and by its name
abbrev pub group_of : PairState → Gid → Option PairGroup
group_of s gid = find (has_gid gid) s.groups

abbrev pub group_named : PairState → Option (List ℕ) → Option PairGroup
group_named s name = find (has_name name) s.groups

-- the group of a task
abbrev pub owner_of : PairState → ℕ → Gid
owner_of s task = option_map_or (λ (b : Binding). b.control) (binding_of task s.tasks) default_gid

-- ---- at first

-- the default group: shareable, with every way of each cache and class 0
abbrev pub default_group : Machines → PairGroup
default_group m = record {
  gid = default_gid;
  name = None;
  mode = Shareable;
  class = 0;
  first = in_each_domain (side_machine m First) (full_mask (side_machine m First));
  second = in_each_domain (side_machine m Second) (full_mask (side_machine m Second));
}

-- at first the default group is the only one, and has all tasks
abbrev pub opening : Machines → List ℕ → PairState
opening m tasks = record { groups = default_group m ∷ []; tasks = map opening_binding tasks; next_gid = 1 }

-- a reply, and the state after it
pub record Outcome : Type 0 where
  pub reply : Reply
  pub state : PairState
