-- How many counts a read needs.
use Rattle.std.proofs.Common.{ℕ, suc, ◌+◌, ◌≤◌, Bool, true, false, cond, List, [], ◌∷◌, length, map, filter, Option, None, Some, is_some, arith, length-append}
use Rattle.std.specs.List.{flat_map}
use Rattle.std.specs.Option.{option_map_or, option_to_list}
use Rattle.std.proofs.lemmas.List.{length-map}
use Rattle.group_tree.specs.Records.{is_monitor_of}
use Rattle.group_tree.specs.declared.group.Group.{Group}
use Rattle.machine.specs.declared.parameters.Parameters.{Parameters}
use Rattle.path_names.specs.declared.dirs.DirRef.TheVariants.{MonDomain}
use Rattle.path_names.specs.declared.files.FileKind.TheVariants.{Occupancy}
use Rattle.path_names.specs.declared.path_ref.PathRef.{PathRef}
use Rattle.path_names.specs.declared.path_ref.PathRef.TheVariants.{File}
use Rattle.rc_base.specs.declared.names.Gid.{Gid}
use Rattle.script_ops.specs.declared.op.Op.TheVariants as ops
use Rattle.tree_law.specs.Existing.{group_of, holder_gid}
use Rattle.tree_law.specs.Freeing.{monitors_of, rmids_of, rmids_with}
use Rattle.tree_law.specs.State.{State}
use Rattle.tree_law.specs.Steps.{needs, refusal}
use Rattle.tree_law.specs.commands.Reads as reads

-- a group has one RMID at most
length-rmids_of : (g : Group) → length (rmids_of g) ≤ 1
length-rmids_of g = at g.rmid
  where
    at : (o : Option ℕ) → length (option_to_list o) ≤ 1
    at None = omega arith
    at (Some id) = omega arith

-- so the groups that pass a test have no more than there are groups
length-flat_map_rmids_of : (p : Group → Bool) (groups : List Group) → length (flat_map rmids_of (filter p groups)) ≤ length groups
length-flat_map_rmids_of p [] = omega arith
length-flat_map_rmids_of p (g ∷ groups) = at (p g) (length-flat_map_rmids_of p groups)
  where
    at : (b : Bool) → length (flat_map rmids_of (filter p groups)) ≤ length groups → length (flat_map rmids_of (cond b (g ∷ filter p groups) (filter p groups))) ≤ suc (length groups)
    at true rest = omega (arith, rest, length-rmids_of g, length-append (rmids_of g) (flat_map rmids_of (filter p groups)))
    at false rest = omega (arith, rest)

-- a group with its monitor groups has one more at most
length-rmids_with : (s : State) (gid : Gid) → length (rmids_with s gid) ≤ length s.groups + 1
length-rmids_with s gid =
    omega (arith, own (group_of s gid), length-flat_map_rmids_of (λ (g : Group). is_monitor_of gid g.kind) s.groups, length-append (option_map_or rmids_of (group_of s gid) []) (flat_map rmids_of (monitors_of s gid)))
  where
    own : (o : Option Group) → length (option_map_or rmids_of o []) ≤ 1
    own None = omega arith
    own (Some g) = length-rmids_of g

-- and so many counts a read needs at most
length-reads_needs : (s : State) (path : PathRef) → length (reads.needs s path) ≤ length s.groups + 1
unfolding reads.needs
length-reads_needs s (File (MonDomain holder domain) Occupancy) = at (holder_gid s holder)
  where
    pair : ℕ → ℕ × ℕ
    pair rmid = (domain, rmid)

    at : (o : Option Gid) → length (map pair (option_map_or (rmids_with s) o [])) ≤ length s.groups + 1
    at None = omega arith
    at (Some gid) = omega (arith, length-rmids_with s gid, length-map (rmids_with s gid) pair)
length-reads_needs s path = omega arith

-- also where it is refused
pub length-needs_read : (m : Parameters) (s : State) (path : PathRef) → length (needs m s (ops.Read path)) ≤ length s.groups + 1
unfolding needs
length-needs_read m s path = at (is_some (refusal m s (ops.Read path)))
  where
    at : (b : Bool) → length (cond b [] (reads.needs s path)) ≤ length s.groups + 1
    at true = omega arith
    at false = length-reads_needs s path
