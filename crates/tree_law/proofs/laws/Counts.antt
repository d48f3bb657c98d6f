-- The counts that a command needs are of domains and RMIDs of the machine.
use Rattle.std.proofs.Common.{◌≡◌, ℕ, ◌<◌, List, [], ◌∷◌, length, map, filter, find, get_or, Option, None, Some, IfSome, is_some, refl, arith}
use Rattle.std.specs.List.{All, flat_map, range_with_len}
use Rattle.std.specs.Option.{option_map_or}
use Rattle.std.proofs.lemmas.List.Elements.{All-append, All-head, All-map, All-tail}
use Rattle.std.proofs.lemmas.List.FromFn.{get_or-range_with_len, length-range_with_len}
use Rattle.group_tree.specs.Records.{has_gid, is_monitor_of}
use Rattle.group_tree.specs.declared.group.Group.{Group}
use Rattle.lists.proofs.Choices.{cond-both}
use Rattle.lists.proofs.Tests.{find-found, IsFound-all}
use Rattle.machine.specs.declared.parameters.Parameters.{Parameters}
use Rattle.path_names.specs.declared.dirs.DirRef.TheVariants.{Ctrl, Mon, MonDomain}
use Rattle.path_names.specs.declared.path_ref.PathRef.{PathRef}
use Rattle.path_names.specs.declared.path_ref.PathRef.TheVariants.{Dir, File}
use Rattle.rc_base.specs.declared.names.Gid.{Gid}
use Rattle.rc_base.specs.declared.names.Mode.{Mode}
use Rattle.script_ops.specs.declared.op.Op.{Op}
use Rattle.tree_law.proofs.KeptGroups.{All-rmids_of_found, All-option_to_list, All-rmids_of}
use Rattle.tree_law.proofs.Writes.{control_at-found}
use Rattle.tree_law.specs.Existing.{directory_gid, group_of, holder_gid}
use Rattle.tree_law.specs.Freeing.{counts_of, rmids_of, rmids_with}
use Rattle.tree_law.specs.LawsCounts.{CanLook, NamesDomain}
use Rattle.tree_law.specs.Places.{control_at}
use Rattle.tree_law.specs.Sound.{IsSound, IsUsed}
use Rattle.tree_law.specs.State.{State}
use Rattle.tree_law.specs.Steps.{needs, needs_accepted, refusal}
use Rattle.path_names.specs.declared.files.FileKind.TheVariants as kinds
use Rattle.script_ops.specs.declared.op.Op.TheVariants as ops
use Rattle.tree_law.specs.commands.Reads as read
use Rattle.tree_law.specs.commands.Rmdir as rmdir
use Rattle.tree_law.specs.commands.Tick as tick
use Rattle.tree_law.specs.commands.Write as write
use Rattle.tree_law.specs.commands.Mode as mode
use Rattle.script_ops.specs.Fits.{Fits}

module _ (m : Parameters) (s : State) (sound : IsSound m s) where
  -- an RMID of the machine
  abbrev Exists : ℕ → Type 0
  Exists id = id < m.rmids

  -- the RMID of each group is the machine's
  rmid-exists : (k : ℕ) (d : Group) → k < length s.groups → IfSome (get_or s.groups k d).rmid Exists
  rmid-exists k d within = at (get_or s.groups k d).rmid (sound.numbered.rmids k d within)
    where
      at : (o : Option ℕ) → IfSome o (IsUsed m s.limbo) → IfSome o (λ id. id < m.rmids)
      at None u = tt
      at (Some id) u = u.0

  -- those of a group and of its monitor groups
  rmids_with-exist : (gid : Gid) → All Exists (rmids_with s gid)
  rmids_with-exist gid = All-append Exists (option_map_or rmids_of (find (has_gid gid) s.groups) []) (flat_map rmids_of (filter (λ (x : Group). is_monitor_of gid x.kind) s.groups))
      (All-rmids_of_found Exists (has_gid gid) s.groups (λ k d within is. rmid-exists k d within))
      (All-rmids_of Exists (λ (x : Group). is_monitor_of gid x.kind) s.groups (λ k d within is. rmid-exists k d within))

  -- each RMID in each domain
  counts_of-exist : (rmids : List ℕ) → All Exists rmids → All (CanLook m) (counts_of m rmids)
  counts_of-exist [] all = λ k d within. absurd (omega arith)
  counts_of-exist (r ∷ rs) all = All-append (CanLook m) (map (λ (domain : ℕ). (domain, r)) (range_with_len 0 m.domains)) (counts_of m rs)
      (All-map (CanLook m) (λ (domain : ℕ). (domain, r)) (range_with_len 0 m.domains) (λ k d within. (below k d within, All-head Exists r rs all)))
      (counts_of-exist rs (All-tail Exists r rs all))
    where
      below : (k d : ℕ) → k < length (range_with_len 0 m.domains) → get_or (range_with_len 0 m.domains) k d < m.domains
      below k d within = let lt : k < m.domains = omega (arith, within, length-range_with_len 0 m.domains) in omega (arith, lt, get_or-range_with_len 0 m.domains k d lt)

  -- those that rmdir frees
  rmdir-exist : (path : PathRef) → All Exists (rmdir.freed s path)
  unfolding rmdir.freed
  rmdir-exist (Dir (Ctrl name)) = at (directory_gid s (Ctrl name))
    where
      at : (o : Option Gid) → All (λ id. id < m.rmids) (option_map_or (rmids_with s) o [])
      at None = λ k d within. absurd (omega arith)
      at (Some gid) = rmids_with-exist gid
  rmdir-exist (Dir (Mon owner name)) = at (directory_gid s (Mon owner name))
    where
      at : (o : Option Gid) → All (λ id. id < m.rmids) (option_map_or (λ gid. option_map_or rmids_of (group_of s gid) []) o [])
      at None = λ k d within. absurd (omega arith)
      at (Some gid) = All-rmids_of_found Exists (has_gid gid) s.groups (λ k d within is. rmid-exists k d within)
  rmdir-exist path = λ k d within. absurd (omega arith)

  -- those that a write of a mode frees
  mode-exist : (g : Group) (text : List ℕ) → find (has_gid g.gid) s.groups ≡ Some g → All Exists (mode.freed g text)
  unfolding mode.freed
  mode-exist g text found = cond-both (All Exists) (mode.is_present g.mode text) [] (mode.freed_by g (mode.mode_in text)) (λ k d within. absurd (omega arith)) (at (mode.mode_in text))
    where
      own : All (λ id. id < m.rmids) (rmids_of g)
      own = All-option_to_list Exists g.rmid (IsFound-all (λ (x : Group). IfSome x.rmid Exists) (has_gid g.gid) s.groups g (find-found (has_gid g.gid) s.groups g found) (λ k d within. rmid-exists k d within))

      at : (o : Option Mode) → All (λ id. id < m.rmids) (mode.freed_by g o)
      at None = λ k d within. absurd (omega arith)
      at (Some x) = cond-both (All Exists) (mode.is_setup x) (rmids_of g) [] own (λ k d within. absurd (omega arith))

  -- those that a write frees
  write-exist : (path : PathRef) (text : List ℕ) → All Exists (write.freed s path text)
  unfolding write.freed
  write-exist (File dir kinds.Mode) text = at (control_at s dir) refl
    where
      at : (o : Option Group) → control_at s dir ≡ o → All (λ id. id < m.rmids) (option_map_or (λ g. mode.freed g text) o [])
      at None is = λ k d within. absurd (omega arith)
      at (Some g) is = mode-exist g text (control_at-found s dir g is).0
  write-exist path text = λ k d within. absurd (omega arith)

  -- the counts that a read needs
  read-exist : (path : PathRef) → NamesDomain m (ops.Read path) → All (CanLook m) (read.needs s path)
  unfolding read.needs
  read-exist (File (MonDomain holder domain) kinds.Occupancy) exists = All-map (CanLook m) (λ (rmid : ℕ). (domain, rmid)) (option_map_or (rmids_with s) (holder_gid s holder) []) (λ k d within. (exists, at (holder_gid s holder) k d within))
    where
      at : (o : Option Gid) → All (λ id. id < m.rmids) (option_map_or (rmids_with s) o [])
      at None = λ k d within. absurd (omega arith)
      at (Some gid) = rmids_with-exist gid
  read-exist path exists = λ k d within. absurd (omega arith)

  -- the counts that an accepted command needs
  accepted-exist : (op : Op) → NamesDomain m op → All (CanLook m) (needs_accepted m s op)
  unfolding tick.needs
  accepted-exist (ops.Rmdir path) exists = counts_of-exist (rmdir.freed s path) (rmdir-exist path)
  accepted-exist (ops.Write path text) exists = counts_of-exist (write.freed s path text) (write-exist path text)
  accepted-exist (ops.Read path) exists = read-exist path exists
  accepted-exist ops.Tick exists = counts_of-exist s.limbo sound.numbered.limbo_exists
  accepted-exist op exists = λ k d within. absurd (omega arith)

-- in a sound tree each count that a command needs can be looked at
pub needs-exist : (m : Parameters) (s : State) (op : Op) → IsSound m s → NamesDomain m op → All (CanLook m) (needs m s op)
unfolding needs
needs-exist m s op sound exists = cond-both (All (CanLook m)) (is_some (refusal m s op)) [] (needs_accepted m s op) (λ k d within. absurd (omega arith)) (accepted-exist m s sound op exists)

-- a read that fits is of a domain that exists
pub NamesDomain-fits : (m : Parameters) (tasks : List ℕ) (op : Op) → Fits m tasks op → NamesDomain m op
NamesDomain-fits m tasks (ops.Read (File (MonDomain holder domain) kind)) fits = fits
NamesDomain-fits m tasks op fits = tt
