-- Each write keeps a sound tree.
use Rattle.std.proofs.Common.{◌≡◌, ℕ, ◌<◌, Bool, true, false, cond, List, [], ◌∷◌, length, find, get_or, Option, None, Some, Result, Ok, Err, refl, sym, subst, ap, ◌∙◌, arith}
use Rattle.std.specs.Option.{option_map_or}
use Rattle.cpu_lists.specs.declared.fault.CpuFault.{CpuFault}
use Rattle.group_tree.specs.Records.{has_gid, is_control}
use Rattle.group_tree.specs.declared.group.Group.{Group}
use Rattle.lists.proofs.Options.{option_and_then-some, option_or-none}
use Rattle.machine.specs.Ranges.{InRange}
use Rattle.machine.specs.declared.parameters.Parameters.{Parameters}
use Rattle.mode_rules.specs.Overlaps.{write_overlap}
use Rattle.num_text.specs.Blanks.{trim}
use Rattle.path_names.specs.declared.dirs.DirRef.{DirRef}
use Rattle.path_names.specs.declared.path_ref.PathRef.{PathRef}
use Rattle.path_names.specs.declared.path_ref.PathRef.TheVariants.{File}
use Rattle.rc_base.specs.declared.names.Mode.{Mode}
use Rattle.rc_base.specs.declared.names.Mode.TheVariants.{Shareable, Exclusive, LockSetup, Locked}
use Rattle.schemata_text.specs.declared.assignment.Assignment.{Assignment}
use Rattle.schemata_text.specs.declared.fault.TextFault.{TextFault}
use Rattle.tree_law.proofs.Cpus.{cpus-sound}
use Rattle.tree_law.proofs.Groups.{group_at-found}
use Rattle.tree_law.proofs.Locks.{with_region-sound}
use Rattle.tree_law.proofs.Mode.{mode-sound}
use Rattle.tree_law.proofs.laws.Readings.{reading-valid}
use Rattle.tree_law.proofs.Schemata.{against_entries-none, assigned-sound}
use Rattle.tree_law.proofs.Tasks.{tasks-sound, threshold-sound}
use Rattle.tree_law.specs.Counted.{is_counted, is_counted_mode}
use Rattle.tree_law.specs.Masks.{IsValid}
use Rattle.tree_law.specs.Places.{control_at, group_at, only_control}
use Rattle.tree_law.specs.Refusals.{Refusal, first_of, plain}
use Rattle.tree_law.specs.Sound.{IsSound}
use Rattle.tree_law.specs.Space.{used_in}
use Rattle.tree_law.specs.State.{State}
use Rattle.path_names.specs.declared.files.FileKind.TheVariants as kinds
use Rattle.rc_base.specs.declared.replies.Why.TheVariants as whys
use Rattle.tree_law.specs.commands.Write as write
use Rattle.tree_law.specs.commands.Cpus as cpus
use Rattle.tree_law.specs.commands.Mode as mode
use Rattle.tree_law.specs.commands.Schemata as schemata
use Rattle.tree_law.specs.commands.Tasks as tasks

-- the control group of a directory is in the list
pub control_at-found : (s : State) (dir : DirRef) (g : Group) → control_at s dir ≡ Some g → (find (has_gid g.gid) s.groups ≡ Some g) × (is_control g.kind ≡ true)
control_at-found s dir g is =
    let x = option_and_then-some only_control (group_at s dir) g is in
    let same = only x.0 (is_control x.0.kind) refl x.2 in
    (group_at-found s dir g (x.1 ∙ ap Some same.0), ap (λ (y : Group). is_control y.kind) (sym same.0) ∙ same.1)
  where
    only : (x : Group) (b : Bool) → is_control x.kind ≡ b → cond b (Some x) None ≡ Some g → (x ≡ g) × (is_control x.kind ≡ true)
    only x true is e = ((let f : Some x ≡ Some g = e in cc), is)
    only x false is e = absurd (let f : ◌≡◌ {A = Option Group} None (Some g) = e in cc)

-- a control group in a counted mode is counted
is_counted-control : (g : Group) → is_control g.kind ≡ true → is_counted_mode g.mode ≡ true → is_counted g ≡ true
is_counted-control g control counted = at (is_control g.kind) control
  where
    at : (b : Bool) → b ≡ true → cond b (is_counted_mode g.mode) false ≡ true
    at true e = counted
    at false e = absurd (let f : false ≡ true = e in cc)

-- an accepted write of schemata keeps a sound tree
schemata-sound : (m : Parameters) (s : State) (g : Group) (text : List ℕ) → InRange m → IsSound m s → find (has_gid g.gid) s.groups ≡ Some g → is_control g.kind ≡ true
    → schemata.refusal m s g (schemata.schemata_read m text) ≡ None → IsSound m (schemata.accepted s g (schemata.schemata_read m text))
unfolding schemata.refusal schemata.accepted schemata.schemata_read
schemata-sound m s g text range sound found control none = by_read (schemata.schemata_read m text) refl none
  where
    by_mode : (all : List Assignment) → ((k : ℕ) (d : Assignment) → k < length all → ((get_or all k d).domain < m.domains) × IsValid m (get_or all k d).mask) → schemata.against_entries m s g all ≡ None → (x : Mode) → g.mode ≡ x → IsSound m (schemata.with_masks s g x all)
    by_mode all lawful none Shareable is = assigned-sound m s g sound found control (is_counted-control g control (ap is_counted_mode is)) all range lawful none
    by_mode all lawful none Exclusive is = assigned-sound m s g sound found control (is_counted-control g control (ap is_counted_mode is)) all range lawful none
    by_mode [] lawful none LockSetup is = sound
    by_mode (a ∷ all) lawful none LockSetup is = (let one = lawful 0 a (omega arith) in
        with_region-sound m s g a sound found control is range one.0 one.1 (subst (λ (x : Mode). write_overlap x a.mask (used_in m s (Some g.gid) a.domain) ≡ Ok tt) is (against_entries-none m s g (a ∷ all) none 0 a (omega arith))))
    by_mode all lawful none Locked is = sound

    by_read : (r : Result (List Assignment) TextFault) → schemata.schemata_read m text ≡ r → cond (schemata.is_locked g.mode) (Some (plain whys.GroupLocked)) (schemata.against_read m s g r) ≡ None → IsSound m (schemata.accepted s g r)
    by_read (Err fault) is e = sound
    by_read (Ok all) is e = by_mode all (reading-valid m (trim text) all is)
        (second (schemata.names_many g.mode all) (plain whys.OneDomain) (schemata.against_entries m s g all) (second (schemata.is_locked g.mode) (plain whys.GroupLocked) (schemata.against_read m s g (Ok all)) e)) g.mode refl
      where
        second : (b : Bool) (r : Refusal) (rest : Option Refusal) → cond b (Some r) rest ≡ None → rest ≡ None
        second true r rest e = absurd (let f : Some r ≡ None = e in cc)
        second false r rest e = e

-- ---- write

-- where a write is not refused, its text is not
text_refusal-none : (m : Parameters) (s : State) (path : PathRef) (text : List ℕ) → write.refusal m s path text ≡ None → write.text_refusal m s path text ≡ None
unfolding write.refusal
text_refusal-none m s path text none = (option_or-none (first_of (write.against s path) write.reasons) (write.text_refusal m s path text) none).1

-- a write of CPUs to a directory
cpus-sound_at : (m : Parameters) (s : State) (dir : DirRef) (read : Result (List ℕ) CpuFault) → IsSound m s → option_map_or (λ g. cpus.refusal s g read) (group_at s dir) None ≡ None → IsSound m (option_map_or (λ g. cpus.accepted s g read) (group_at s dir) s)
cpus-sound_at m s dir read sound none = at (group_at s dir) refl none
  where
    at : (o : Option Group) → group_at s dir ≡ o → option_map_or (λ g. cpus.refusal s g read) o None ≡ None → IsSound m (option_map_or (λ g. cpus.accepted s g read) o s)
    at None is e = sound
    at (Some g) is e = cpus-sound m s g read sound (group_at-found s dir g is) e

-- a write of tasks to a directory
tasks-sound_at : (m : Parameters) (s : State) (dir : DirRef) (text : List ℕ) → IsSound m s → IsSound m (option_map_or (λ g. tasks.kept s g text) (group_at s dir) s)
tasks-sound_at m s dir text sound = at (group_at s dir) refl
  where
    at : (o : Option Group) → group_at s dir ≡ o → IsSound m (option_map_or (λ g. tasks.kept s g text) o s)
    at None is = sound
    at (Some g) is = tasks-sound m s g text sound (group_at-found s dir g is)

-- a write of schemata to a directory
schemata-sound_at : (m : Parameters) (s : State) (dir : DirRef) (text : List ℕ) → InRange m → IsSound m s → option_map_or (λ g. schemata.refusal m s g (schemata.schemata_read m text)) (control_at s dir) None ≡ None
    → IsSound m (option_map_or (λ g. schemata.accepted s g (schemata.schemata_read m text)) (control_at s dir) s)
schemata-sound_at m s dir text range sound none = at (control_at s dir) refl none
  where
    at : (o : Option Group) → control_at s dir ≡ o → option_map_or (λ g. schemata.refusal m s g (schemata.schemata_read m text)) o None ≡ None → IsSound m (option_map_or (λ g. schemata.accepted s g (schemata.schemata_read m text)) o s)
    at None is e = sound
    at (Some g) is e = let two = control_at-found s dir g is in schemata-sound m s g text range sound two.0 two.1 e

-- a write of a mode to a directory
mode-sound_at : (m : Parameters) (s : State) (dir : DirRef) (text looks : List ℕ) → IsSound m s → option_map_or (λ g. mode.refusal m s g text) (control_at s dir) None ≡ None
    → IsSound m (option_map_or (λ g. mode.accepted m s g text looks) (control_at s dir) s)
mode-sound_at m s dir text looks sound none = at (control_at s dir) refl none
  where
    at : (o : Option Group) → control_at s dir ≡ o → option_map_or (λ g. mode.refusal m s g text) o None ≡ None → IsSound m (option_map_or (λ g. mode.accepted m s g text looks) o s)
    at None is e = sound
    at (Some g) is e = let two = control_at-found s dir g is in mode-sound m s g text looks sound two.0 two.1 e

-- an accepted write keeps a sound tree
pub write-sound : (m : Parameters) (s : State) (path : PathRef) (text looks : List ℕ) → InRange m → IsSound m s → write.refusal m s path text ≡ None → IsSound m (write.accepted m s path text looks)
unfolding write.accepted
write-sound m s (File dir kinds.Cpus) text looks range sound none = cpus-sound_at m s dir (cpus.mask_read m text) sound (text_refusal-none m s (File dir kinds.Cpus) text none)
write-sound m s (File dir kinds.CpusList) text looks range sound none = cpus-sound_at m s dir (cpus.list_read m text) sound (text_refusal-none m s (File dir kinds.CpusList) text none)
write-sound m s (File dir kinds.Tasks) text looks range sound none = tasks-sound_at m s dir text sound
write-sound m s (File dir kinds.Schemata) text looks range sound none = schemata-sound_at m s dir text range sound (text_refusal-none m s (File dir kinds.Schemata) text none)
write-sound m s (File dir kinds.Mode) text looks range sound none = mode-sound_at m s dir text looks sound (text_refusal-none m s (File dir kinds.Mode) text none)
write-sound m s (File dir kinds.MaxThreshold) text looks range sound none = threshold-sound m s text sound
write-sound m s path text looks range sound none = sound

-- a refused write keeps a sound tree
pub refused-sound : (m : Parameters) (s : State) (path : PathRef) (text : List ℕ) → IsSound m s → IsSound m (write.refused s path text)
unfolding write.refused
refused-sound m s (File dir kinds.Tasks) text sound = tasks-sound_at m s dir text sound
refused-sound m s path text sound = sound
