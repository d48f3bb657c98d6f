-- How many serial numbers of groups each command takes.
use Rattle.std.proofs.Common.{◌≡◌, ℕ, ◌+◌, ◌≤◌, Bool, true, false, not, cond, List, [], ◌∷◌, Option, None, Some, Result, Ok, Err, refl, sym, ap, ◌∙◌, arith}
use Rattle.std.specs.Prelude.{is_some}
use Rattle.std.specs.Option.{option_map, option_map_or}
use Rattle.machine.specs.declared.parameters.Parameters.{Parameters}
use Rattle.path_names.specs.declared.dirs.DirRef.TheVariants.{Ctrl, Mon}
use Rattle.path_names.specs.declared.dirs.Owner.{Owner}
use Rattle.path_names.specs.declared.files.FileKind.TheVariants as kinds
use Rattle.path_names.specs.declared.names.NameId.{NameId}
use Rattle.path_names.specs.declared.path_ref.PathRef.{PathRef}
use Rattle.path_names.specs.declared.path_ref.PathRef.TheVariants.{Dir, File}
use Rattle.rc_base.specs.declared.names.Gid.{Gid}
use Rattle.rc_base.specs.declared.names.Mode.{Mode}
use Rattle.rc_base.specs.declared.names.Mode.TheVariants.{Shareable, Exclusive, LockSetup, Locked}
use Rattle.rc_base.specs.declared.replies.Reply.{Reply}
use Rattle.rc_base.specs.declared.replies.Reply.TheVariants as replies
use Rattle.run_law.specs.TreeHistory.{IsCommandThat, TreeEntryValue, state_after}
use Rattle.run_replay.specs.GroupHistories.{serials_taken}
use Rattle.run_replay.specs.Replayed.{IsAnswered, IsAnsweredAs}
use Rattle.script_ops.specs.Values.{ScriptValue, op_at}
use Rattle.script_ops.specs.declared.op.Op.{Op}
use Rattle.script_ops.specs.declared.op.Op.TheVariants as ops
use Rattle.tree_law.specs.Existing.{directory_gid, owner_gid}
use Rattle.tree_law.specs.Places.{control_at, controlling, group_at, is_closed}
use Rattle.tree_law.specs.Refusals.{Refusal, reply_of}
use Rattle.tree_law.specs.State.{State}
use Rattle.tree_law.specs.Steps.{accepted, left, next, next_if, refusal, with_status}
use Rattle.tree_law.specs.commands.Cpus as cpus
use Rattle.tree_law.specs.commands.Mkdir as mkdir
use Rattle.tree_law.specs.commands.Mode as mode
use Rattle.tree_law.specs.commands.Rmdir as rmdir
use Rattle.tree_law.specs.commands.Schemata as schemata
use Rattle.tree_law.specs.commands.Tasks as tasks
use Rattle.tree_law.specs.commands.Threshold as threshold
use Rattle.tree_law.specs.commands.Tick as tick
use Rattle.tree_law.specs.commands.Write as write

-- a command takes one serial number at most
pub serials_taken-few : (reply : Reply) (op : Option Op) → serials_taken reply op ≤ 1
serials_taken-few replies.Ok (Some (ops.Mkdir (Dir (Ctrl name)))) = omega arith
serials_taken-few replies.Ok (Some (ops.Mkdir (Dir (Mon owner name)))) = omega arith
serials_taken-few reply op = omega arith

-- ---- commands that take none

module _ (s : State) where
  -- a later state has the same next serial number
  abbrev Keeps : State → Type 0
  Keeps later = later.next_gid ≡ s.next_gid

  -- one of two states
  either : (b : Bool) (x y : State) → Keeps x → Keeps y → Keeps (cond b x y)
  either true x y kept other = kept
  either false x y kept other = other

  -- of what may not be there
  option_map_or-keeps : {X : Type 0} (f : X → State) (o : Option X) → ((x : X) → Keeps (f x)) → Keeps (option_map_or f o s)
  option_map_or-keeps f None each = refl
  option_map_or-keeps f (Some x) each = each x

  -- after a write of tasks
  tasks-keeps : (g : _) (text : List ℕ) → Keeps (tasks.kept s g text)
  unfolding tasks.kept
  tasks-keeps g text = either (is_closed s (controlling g.gid g.kind)) s (record s { tasks = (tasks.moves_in s g text).tasks }) refl refl

  -- after a refused command
  left-keeps : (op : Op) → Keeps (left s op)
  unfolding write.refused
  left-keeps (ops.Write (File dir kinds.Tasks) text) = option_map_or-keeps (λ g. tasks.kept s g text) (group_at s dir) (λ g. tasks-keeps g text)
  left-keeps (ops.Write path text) = refl
  left-keeps op = refl

  -- after an accepted rmdir
  rmdir-keeps : (m : Parameters) (path : PathRef) (looks : List ℕ) → Keeps (rmdir.accepted m s path looks)
  unfolding rmdir.accepted
  rmdir-keeps m (Dir (Ctrl name)) looks = option_map_or-keeps (λ gid. rmdir.without_control m s gid (rmdir.freed s (Dir (Ctrl name))) looks) (directory_gid s (Ctrl name)) (λ gid. refl)
  rmdir-keeps m (Dir (Mon owner name)) looks = option_map_or-keeps (λ gid. rmdir.without_monitor m s gid (rmdir.freed s (Dir (Mon owner name))) looks) (directory_gid s (Mon owner name)) (λ gid. refl)
  rmdir-keeps m path looks = refl

  -- after an accepted write of schemata
  schemata-keeps : (g : _) (read : Result (List _) _) → Keeps (schemata.accepted s g read)
  unfolding schemata.accepted
  schemata-keeps g (Err fault) = refl
  schemata-keeps g (Ok all) = at all g.mode
    where
      at : (all : List _) (x : Mode) → Keeps (schemata.with_masks s g x all)
      at all Shareable = refl
      at all Exclusive = refl
      at [] LockSetup = refl
      at (a ∷ all) LockSetup = refl
      at all Locked = refl

  -- after an accepted write of a mode
  mode-keeps : (m : Parameters) (g : _) (text looks : List ℕ) → Keeps (mode.accepted m s g text looks)
  unfolding mode.accepted
  mode-keeps m g text looks = either (mode.is_present g.mode text) s (mode.with_mode m s g (mode.freed g text) looks (mode.mode_in text)) refl (at (mode.mode_in text))
    where
      at : (o : Option Mode) → Keeps (mode.with_mode m s g (mode.freed g text) looks o)
      at None = refl
      at (Some x) = refl

  -- after an accepted write of CPUs
  cpus-keeps : (g : _) (read : Result (List ℕ) _) → Keeps (cpus.accepted s g read)
  unfolding cpus.accepted
  cpus-keeps g (Ok numbers) = refl
  cpus-keeps g (Err fault) = refl

  -- after an accepted write of the threshold
  threshold-keeps : (m : Parameters) (text : List ℕ) → Keeps (threshold.accepted m s text)
  unfolding threshold.accepted
  threshold-keeps m text = at (threshold.threshold_in m text)
    where
      at : (o : Option ℕ) → Keeps (threshold.with_threshold s o)
      at None = refl
      at (Some n) = refl

  -- after each accepted write
  write-keeps : (m : Parameters) (path : PathRef) (text looks : List ℕ) → Keeps (write.accepted m s path text looks)
  unfolding write.accepted
  write-keeps m (File dir kinds.Cpus) text looks = option_map_or-keeps (λ g. cpus.accepted s g (cpus.mask_read m text)) (group_at s dir) (λ g. cpus-keeps g (cpus.mask_read m text))
  write-keeps m (File dir kinds.CpusList) text looks = option_map_or-keeps (λ g. cpus.accepted s g (cpus.list_read m text)) (group_at s dir) (λ g. cpus-keeps g (cpus.list_read m text))
  write-keeps m (File dir kinds.Tasks) text looks = option_map_or-keeps (λ g. tasks.kept s g text) (group_at s dir) (λ g. tasks-keeps g text)
  write-keeps m (File dir kinds.Schemata) text looks = option_map_or-keeps (λ g. schemata.accepted s g (schemata.schemata_read m text)) (control_at s dir) (λ g. schemata-keeps g (schemata.schemata_read m text))
  write-keeps m (File dir kinds.Mode) text looks = option_map_or-keeps (λ g. mode.accepted m s g text looks) (control_at s dir) (λ g. mode-keeps m g text looks)
  write-keeps m (File dir kinds.MaxThreshold) text looks = threshold-keeps m text
  write-keeps m path text looks = refl

  -- no number was taken
  none-taken : (later : State) → Keeps later → later.next_gid ≡ s.next_gid + 0
  none-taken later kept = omega (arith, kept)

  -- ---- an accepted mkdir

  -- the first of the reasons does not hold
  first-false : {X Y : Type 0} (f : X → Y) (b : Bool) (x : X) (rest : Option X) → option_map f (cond b (Some x) rest) ≡ None → b ≡ false
  first-false f true x rest e = absurd (let g : Some (f x) ≡ None = e in cc)
  first-false f false x rest e = refl

  -- the owner of a new monitor group exists
  owner-exists : (m : Parameters) (owner : Owner) (name : NameId) → mkdir.refusal m s (Dir (Mon owner name)) ≡ None → not (is_some (owner_gid s owner)) ≡ false
  unfolding mkdir.refusal
  owner-exists m owner name none = first-false (mkdir.with_argument m s) (not (is_some (owner_gid s owner))) _ _ none

  -- after an accepted mkdir
  mkdir-taken : (m : Parameters) (path : PathRef) → mkdir.refusal m s path ≡ None → (mkdir.accepted m s path).next_gid ≡ s.next_gid + serials_taken replies.Ok (Some (ops.Mkdir path))
  unfolding mkdir.accepted
  mkdir-taken m (Dir (Ctrl name)) none = refl
  mkdir-taken m (Dir (Mon owner name)) none = at (owner_gid s owner) (owner-exists m owner name none)
    where
      at : (o : Option Gid) → not (is_some o) ≡ false → (mkdir.with_monitor m s name o).next_gid ≡ s.next_gid + 1
      at None lacks = absurd (let e : true ≡ false = lacks in cc)
      at (Some parent) there = refl
  mkdir-taken m path none = none-taken s refl

  -- after each accepted command
  accepted-taken : (m : Parameters) (op : Op) (looks : List ℕ) → refusal m s op ≡ None → (accepted m s op looks).next_gid ≡ s.next_gid + serials_taken replies.Ok (Some op)
  unfolding refusal tick.accepted
  accepted-taken m (ops.Mkdir path) looks none = mkdir-taken m path none
  accepted-taken m (ops.Rmdir path) looks none = none-taken (rmdir.accepted m s path looks) (rmdir-keeps m path looks)
  accepted-taken m (ops.Write path text) looks none = none-taken (write.accepted m s path text looks) (write-keeps m path text looks)
  accepted-taken m ops.Tick looks none = none-taken (tick.accepted m s looks) refl
  accepted-taken m op looks none = none-taken s refl

-- the last status says nothing of serial numbers
next_gid-with_status : (op : Op) (reply : Reply) (s : State) → (with_status op reply s).next_gid ≡ s.next_gid
next_gid-with_status (ops.Mkdir path) reply s = refl
next_gid-with_status (ops.Write path text) reply s = refl
next_gid-with_status op reply s = refl

-- the next serial number after a command, by its reply
pub next_gid-next : (m : Parameters) (s : State) (op : Op) (looks : List ℕ) → (next m s op looks).state.next_gid ≡ s.next_gid + serials_taken (next m s op looks).reply (Some op)
unfolding next
next_gid-next m s op looks = next_gid-with_status op (reply_of (refusal m s op)) (next_if m s op looks (refusal m s op)) ∙ at (refusal m s op) refl
  where
    at : (o : Option Refusal) → refusal m s op ≡ o → (next_if m s op looks o).next_gid ≡ s.next_gid + serials_taken (reply_of o) (Some op)
    at None is = accepted-taken s m op looks is
    at (Some r) is = none-taken s (left s op) (left-keeps s op)

-- the next serial number after the command of an entry
pub next_gid-answered : (script : ScriptValue) (s : State) (h : TreeEntryValue) → IsAnswered script s h
    → (state_after script.machine s h.looks (op_at script h.thread h.op)).next_gid ≡ s.next_gid + serials_taken h.reply (op_at script h.thread h.op)
next_gid-answered script s h answered = at (op_at script h.thread h.op) answered
  where
    at : (o : Option Op) → IsCommandThat (IsAnsweredAs script.machine s h) o → (state_after script.machine s h.looks o).next_gid ≡ s.next_gid + serials_taken h.reply o
    at None there = absurd there
    at (Some op) there = next_gid-next script.machine s op h.looks ∙ ap (λ (r : Reply). s.next_gid + serials_taken r (Some op)) (sym there.1.reply)
