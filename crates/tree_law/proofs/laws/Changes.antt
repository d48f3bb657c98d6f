-- A command changes what an access has only where it raises, flushes or locks its domain, or moves its task or CPU.
use Rattle.std.proofs.Common.{◌≡◌, ℕ, ◌<◌, Bool, true, false, cond, List, [], ◌∷◌, map, find, Option, None, Some, is_some, Result, Ok, Err, refl, sym, subst, ap, ◌∙◌}
use Rattle.std.specs.List.{list_any, range_with_len}
use Rattle.std.specs.Option.{option_map_or}
use Rattle.group_tree.specs.Lists.{replaced}
use Rattle.group_tree.specs.Records.{has_gid, is_control}
use Rattle.group_tree.specs.declared.group.Group.{Group}
use Rattle.group_tree.specs.declared.group_kind.GroupKind.{GroupKind}
use Rattle.group_tree.specs.declared.group_kind.GroupKind.TheVariants.{Control, Monitor}
use Rattle.lists.proofs.Choices.{cond-both}
use Rattle.lists.proofs.Tests.{find-push}
use Rattle.machine.proofs.laws.Domains.{domain_of-lt}
use Rattle.machine.specs.Maps.{domain_of}
use Rattle.machine.specs.Ranges.{InRange}
use Rattle.machine.specs.declared.parameters.Parameters.{Parameters}
use Rattle.path_names.specs.declared.dirs.DirRef.TheVariants.{Ctrl, Mon}
use Rattle.path_names.specs.declared.files.FileKind.TheVariants as kinds
use Rattle.path_names.specs.declared.path_ref.PathRef.{PathRef}
use Rattle.path_names.specs.declared.path_ref.PathRef.TheVariants.{Dir, File}
use Rattle.rc_base.specs.declared.names.Gid.{Gid}
use Rattle.rc_base.specs.declared.names.Mode.{Mode}
use Rattle.rc_base.specs.declared.names.Mode.TheVariants.{Shareable, Exclusive, LockSetup, Locked}
use Rattle.schemata_text.specs.declared.assignment.Assignment.{Assignment}
use Rattle.schemata_text.specs.declared.fault.TextFault.{TextFault}
use Rattle.script_ops.specs.declared.op.Op.{Op}
use Rattle.script_ops.specs.declared.op.Op.TheVariants as ops
use Rattle.tree_law.proofs.laws.Access.{group_of-one, owner_of-counted}
use Rattle.tree_law.proofs.Writes.{control_at-found}
use Rattle.tree_law.specs.Counted.{is_counted, is_counted_mode}
use Rattle.tree_law.specs.Existing.{group_of, owner_gid}
use Rattle.tree_law.specs.LawsAccess.{IsSeenAs, StandsStill, moves, settles}
use Rattle.tree_law.specs.Places.{control_at, controlling, group_at, is_closed}
use Rattle.tree_law.specs.Refusals.{Refusal, reply_of}
use Rattle.tree_law.specs.Resolving.{owner_of}
use Rattle.tree_law.specs.Sound.{IsSound}
use Rattle.tree_law.specs.State.{State}
use Rattle.tree_law.specs.Steps.{accepted, after, after_accepted, left, next, next_if, refusal, with_status}
use Rattle.tree_law.specs.declared.follow.Follow.TheVariants as follows
use Rattle.tree_law.specs.commands.Cpus as cpus
use Rattle.tree_law.specs.commands.Mkdir as mkdir
use Rattle.tree_law.specs.commands.Mode as mode
use Rattle.tree_law.specs.commands.Schemata as schemata
use Rattle.tree_law.specs.commands.Tasks as tasks
use Rattle.tree_law.specs.commands.Threshold as threshold
use Rattle.tree_law.specs.commands.Tick as tick
use Rattle.tree_law.specs.commands.Write as write
use Rattle.tree_law.proofs.Owners.{Agrees, Agrees-replaced, IsSeenAs-agreeing, IsSeenAs-groups, IsSeenAs-same, with_status-seen, StandsStill-with_status, left-seen, settles-raise, settles-raise_all, get_or-assigned_other}

-- ---- each command

module _ (m : Parameters) (s : State) (task cpu : ℕ) (sound : IsSound m s) (range : InRange m) (lt : cpu < m.cpus) where
  -- the domain of the CPU is the machine's
  domain_of-below : domain_of m cpu < m.domains
  domain_of-below = domain_of-lt m cpu range lt

  -- the record of the owner is there, and counted
  group_of-owner : (g : Group) × (group_of s (owner_of s task cpu) ≡ Some g) × (is_counted g ≡ true)
  group_of-owner = let g = group_of-one m s sound (owner_of s task cpu) is_counted (owner_of-counted m s sound task cpu lt) in (g.0, g.1, g.3)

  -- one group more
  with_group-seen : (g : Group) → IsSeenAs m s (mkdir.with_group s g) task cpu
  with_group-seen g =
      let o = group_of-owner in
      let longer = find-push (has_gid (owner_of s task cpu)) s.groups g o.0 o.1 in
      IsSeenAs-agreeing m s task cpu (mkdir.with_group s g) (refl, refl)
      (subst (λ (x : Option Group). Agrees (domain_of m cpu) (group_of s (owner_of s task cpu)) x) (sym (longer ∙ sym o.1)) (refl, refl, refl))

  -- after mkdir
  mkdir-seen : (path : PathRef) → IsSeenAs m s (mkdir.accepted m s path) task cpu
  unfolding mkdir.accepted
  mkdir-seen (Dir (Ctrl name)) = with_group-seen (mkdir.new_control m s name)
  mkdir-seen (Dir (Mon owner name)) = at (owner_gid s owner)
    where
      at : (o : Option Gid) → IsSeenAs m s (mkdir.with_monitor m s name o) task cpu
      at None = IsSeenAs-same m s task cpu
      at (Some parent) = with_group-seen (mkdir.new_monitor m s name parent)
  mkdir-seen path = IsSeenAs-same m s task cpu

  -- other masks of a counted group
  assigned-seen : (g : Group) (all : List Assignment) → find (has_gid g.gid) s.groups ≡ Some g → schemata.names_domain all (domain_of m cpu) ≡ false
      → IsSeenAs m s (record s { groups = replaced (record g { masks = schemata.assigned g.masks all }) s.groups }) task cpu
  assigned-seen g all found none = IsSeenAs-agreeing m s task cpu (record s { groups = replaced (record g { masks = schemata.assigned g.masks all }) s.groups }) (refl, refl)
      (Agrees-replaced s.groups g (record g { masks = schemata.assigned g.masks all }) (owner_of s task cpu) (domain_of m cpu) refl found (λ here. (refl, get_or-assigned_other all g.masks (domain_of m cpu) none, refl)))

  -- a group that is locked owns no access
  with_region-seen : (g : Group) (a : Assignment) → find (has_gid g.gid) s.groups ≡ Some g → g.mode ≡ LockSetup → IsSeenAs m s (schemata.with_region s g a) task cpu
  with_region-seen g a found setup = IsSeenAs-agreeing m s task cpu (schemata.with_region s g a) (refl, refl)
      (Agrees-replaced s.groups g (schemata.locked g a) (owner_of s task cpu) (domain_of m cpu) refl found (λ here. absurd (uncounted here)))
    where
      off : (kind : GroupKind) → cond (is_control kind) (is_counted_mode g.mode) false ≡ true → ⊥
      off Control e = let f : false ≡ true = ap is_counted_mode (sym setup) ∙ e in cc
      off (Monitor p) e = let f : false ≡ true = e in cc

      uncounted : find (has_gid (owner_of s task cpu)) s.groups ≡ Some g → ⊥
      uncounted here =
          let o = group_of-owner in
          let one : ◌≡◌ {A = Option Group} (Some o.0) (Some g) = sym o.1 ∙ here in
          let it : o.0 ≡ g = (let f = one in cc) in
          off g.kind (ap is_counted (sym it) ∙ o.2)

  -- after a write of schemata that settles nothing in the domain
  schemata-seen : (g : Group) (read : Result (List Assignment) TextFault) → find (has_gid g.gid) s.groups ≡ Some g → list_any (settles (domain_of m cpu)) (schemata.after m s g read) ≡ false → IsSeenAs m s (schemata.accepted s g read) task cpu
  unfolding schemata.accepted schemata.after
  schemata-seen g (Err fault) found none = IsSeenAs-same m s task cpu
  schemata-seen g (Ok all) found none = at all g.mode refl none
    where
      at : (all : List Assignment) (x : Mode) → g.mode ≡ x → list_any (settles (domain_of m cpu)) (schemata.follow m s x all) ≡ false → IsSeenAs m s (schemata.with_masks s g x all) task cpu
      at all Shareable is none = assigned-seen g all found (settles-raise (schemata.names_domain all) m.domains (domain_of m cpu) domain_of-below none)
      at all Exclusive is none = assigned-seen g all found (settles-raise (schemata.names_domain all) m.domains (domain_of m cpu) domain_of-below none)
      at [] LockSetup is none = IsSeenAs-same m s task cpu
      at (a ∷ all) LockSetup is none = with_region-seen g a found is
      at all Locked is none = IsSeenAs-same m s task cpu

  -- after a write of a mode that settles nothing in the domain
  mode-seen : (g : Group) (text looks : List ℕ) → list_any (settles (domain_of m cpu)) (mode.after m g text) ≡ false → IsSeenAs m s (mode.accepted m s g text looks) task cpu
  unfolding mode.accepted mode.after mode.freed
  mode-seen g text looks none = at (mode.is_present g.mode text) none
    where
      at : (b : Bool) → list_any (settles (domain_of m cpu)) (cond b [] (map (λ d. follows.Raise d) (range_with_len 0 m.domains))) ≡ false
          → IsSeenAs m s (cond b s (mode.with_mode m s g (cond b [] (mode.freed_by g (mode.mode_in text))) looks (mode.mode_in text))) task cpu
      at true none = IsSeenAs-same m s task cpu
      at false none = absurd (settles-raise_all m.domains (domain_of m cpu) domain_of-below none)

  -- after a write of CPUs that leaves the CPU in its groups
  cpus-seen : (g : Group) (read : Result (List ℕ) _) → StandsStill s (cpus.accepted s g read) task cpu → IsSeenAs m s (cpus.accepted s g read) task cpu
  unfolding cpus.accepted
  cpus-seen g (Ok numbers) still = IsSeenAs-groups m s task cpu (cpus.accepted s g (Ok numbers)) still refl
  cpus-seen g (Err fault) still = IsSeenAs-same m s task cpu

  -- after a write of tasks that leaves the task in its groups
  tasks-seen : (g : Group) (text : List ℕ) → StandsStill s (tasks.kept s g text) task cpu → IsSeenAs m s (tasks.kept s g text) task cpu
  unfolding tasks.kept
  tasks-seen g text still = IsSeenAs-groups m s task cpu (tasks.kept s g text) still
      (cond-both (λ (x : State). x.groups ≡ s.groups) (is_closed s (controlling g.gid g.kind)) s (record s { tasks = (tasks.moves_in s g text).tasks }) refl refl)

  -- after a write of the threshold
  threshold-seen : (text : List ℕ) → IsSeenAs m s (threshold.accepted m s text) task cpu
  unfolding threshold.accepted
  threshold-seen text = at (threshold.threshold_in m text)
    where
      at : (o : Option ℕ) → IsSeenAs m s (threshold.with_threshold s o) task cpu
      at None = IsSeenAs-same m s task cpu
      at (Some n) = IsSeenAs-groups m s task cpu (record s { threshold = n }) (refl, refl) refl

  -- after a tick
  tick-seen : (looks : List ℕ) → IsSeenAs m s (tick.accepted m s looks) task cpu
  unfolding tick.accepted
  tick-seen looks = IsSeenAs-groups m s task cpu (tick.accepted m s looks) (refl, refl) refl

  -- after each write
  write-seen : (path : PathRef) (text looks : List ℕ) → list_any (settles (domain_of m cpu)) (write.after m s path text) ≡ false → (moves (ops.Write path text) ≡ true → StandsStill s (write.accepted m s path text looks) task cpu)
      → IsSeenAs m s (write.accepted m s path text looks) task cpu
  unfolding write.accepted write.after
  write-seen (File dir kinds.Cpus) text looks none still = at (group_at s dir) (still refl)
    where
      at : (o : Option Group) → StandsStill s (option_map_or (λ g. cpus.accepted s g (cpus.mask_read m text)) o s) task cpu → IsSeenAs m s (option_map_or (λ g. cpus.accepted s g (cpus.mask_read m text)) o s) task cpu
      at None still = IsSeenAs-same m s task cpu
      at (Some g) still = cpus-seen g (cpus.mask_read m text) still
  write-seen (File dir kinds.CpusList) text looks none still = at (group_at s dir) (still refl)
    where
      at : (o : Option Group) → StandsStill s (option_map_or (λ g. cpus.accepted s g (cpus.list_read m text)) o s) task cpu → IsSeenAs m s (option_map_or (λ g. cpus.accepted s g (cpus.list_read m text)) o s) task cpu
      at None still = IsSeenAs-same m s task cpu
      at (Some g) still = cpus-seen g (cpus.list_read m text) still
  write-seen (File dir kinds.Tasks) text looks none still = at (group_at s dir) (still refl)
    where
      at : (o : Option Group) → StandsStill s (option_map_or (λ g. tasks.kept s g text) o s) task cpu → IsSeenAs m s (option_map_or (λ g. tasks.kept s g text) o s) task cpu
      at None still = IsSeenAs-same m s task cpu
      at (Some g) still = tasks-seen g text still
  write-seen (File dir kinds.Schemata) text looks none still = at (control_at s dir) refl none
    where
      at : (o : Option Group) → control_at s dir ≡ o → list_any (settles (domain_of m cpu)) (option_map_or (λ g. schemata.after m s g (schemata.schemata_read m text)) o []) ≡ false
          → IsSeenAs m s (option_map_or (λ g. schemata.accepted s g (schemata.schemata_read m text)) o s) task cpu
      at None is none = IsSeenAs-same m s task cpu
      at (Some g) is none = schemata-seen g (schemata.schemata_read m text) (control_at-found s dir g is).0 none
  write-seen (File dir kinds.Mode) text looks none still = at (control_at s dir) none
    where
      at : (o : Option Group) → list_any (settles (domain_of m cpu)) (option_map_or (λ g. mode.after m g text) o []) ≡ false → IsSeenAs m s (option_map_or (λ g. mode.accepted m s g text looks) o s) task cpu
      at None none = IsSeenAs-same m s task cpu
      at (Some g) none = mode-seen g text looks none
  write-seen (File dir kinds.MaxThreshold) text looks none still = threshold-seen text
  write-seen path text looks none still = IsSeenAs-same m s task cpu

  -- after each accepted command
  accepted-seen : (k : ℕ) (op : Op) (looks : List ℕ) → list_any (settles (domain_of m cpu)) (after_accepted m s k op) ≡ false → (moves op ≡ true → StandsStill s (accepted m s op looks) task cpu) → IsSeenAs m s (accepted m s op looks) task cpu
  accepted-seen k (ops.Mkdir path) looks none still = mkdir-seen path
  accepted-seen k (ops.Rmdir path) looks none still = absurd (settles-raise_all m.domains (domain_of m cpu) domain_of-below none)
  accepted-seen k (ops.Write path text) looks none still = write-seen path text looks none still
  accepted-seen k ops.Tick looks none still = tick-seen looks
  accepted-seen k op looks none still = IsSeenAs-same m s task cpu

-- a command that neither raises, flushes nor locks the domain of an access, nor moves its task or CPU, leaves what the access has
pub resolve-next : (m : Parameters) (s : State) (k : ℕ) (op : Op) (looks : List ℕ) (task cpu : ℕ) → InRange m → IsSound m s → cpu < m.cpus
    → list_any (settles (domain_of m cpu)) (after m s k op) ≡ false → (moves op ≡ true → StandsStill s (next m s op looks).state task cpu) → IsSeenAs m s (next m s op looks).state task cpu
unfolding next after
resolve-next m s k op looks task cpu range sound lt none still = at (refusal m s op) none still
  where
    at : (o : Option Refusal) → list_any (settles (domain_of m cpu)) (cond (is_some o) [] (after_accepted m s k op)) ≡ false → (moves op ≡ true → StandsStill s (with_status op (reply_of o) (next_if m s op looks o)) task cpu)
        → IsSeenAs m s (with_status op (reply_of o) (next_if m s op looks o)) task cpu
    at None none still = with_status-seen m s task cpu op (reply_of None) (accepted m s op looks) (accepted-seen m s task cpu sound range lt k op looks none (λ moving. StandsStill-with_status m s task cpu op (reply_of None) (accepted m s op looks) (still moving)))
    at (Some r) none still = with_status-seen m s task cpu op (reply_of (Some r)) (left s op) (left-seen m s task cpu op (λ moving. StandsStill-with_status m s task cpu op (reply_of (Some r)) (left s op) (still moving)))
