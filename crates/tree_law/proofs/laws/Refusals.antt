-- Why a command is refused, and what a refused one leaves.
use Rattle.std.proofs.Common.{◌≡◌, ℕ, Bool, true, false, cond, List, Option, None, Some, Result, Ok, Err, refl, ap}
use Rattle.std.specs.Option.{option_map_or}
use Rattle.group_tree.specs.declared.group.Group.{Group}
use Rattle.lists.proofs.Choices.{cond-both}
use Rattle.machine.specs.declared.parameters.Parameters.{Parameters}
use Rattle.mode_rules.specs.declared.overlap.Overlap.{Overlap}
use Rattle.path_names.specs.declared.dirs.DirRef.TheVariants.{Ctrl, Mon}
use Rattle.path_names.specs.declared.path_ref.PathRef.{PathRef}
use Rattle.path_names.specs.declared.path_ref.PathRef.TheVariants.{Dir, File}
use Rattle.rc_base.specs.declared.names.Gid.{Gid}
use Rattle.rc_base.specs.declared.replies.Reply.{Reply}
use Rattle.script_ops.specs.declared.op.Op.{Op}
use Rattle.tree_law.specs.Existing.{directory_gid}
use Rattle.tree_law.specs.LawsStates.{sets_status, writes_tasks}
use Rattle.tree_law.specs.Places.{controlling, group_at, is_closed}
use Rattle.tree_law.specs.Refusals.{Refusal, reply_of}
use Rattle.tree_law.specs.State.{State}
use Rattle.tree_law.specs.Steps.{left, next, next_if, refusal, with_status}
use Rattle.tree_law.specs.commands.Schemata.{against_overlap, overlap_refusal}
use Rattle.path_names.specs.declared.files.FileKind.TheVariants as kinds
use Rattle.script_ops.specs.declared.op.Op.TheVariants as ops
use Rattle.rc_base.specs.declared.replies.Reply.TheVariants as replies
use Rattle.tree_law.specs.commands.Rmdir as rmdir
use Rattle.tree_law.specs.commands.Tasks as tasks
use Rattle.tree_law.specs.commands.Tick as tick
use Rattle.tree_law.specs.commands.Write as write

-- the reply and the state after a refused command
pub next-refused : (m : Parameters) (s : State) (op : Op) (looks : List ℕ) (r : Refusal) → refusal m s op ≡ Some r → ((next m s op looks).reply ≡ reply_of (Some r)) × ((next m s op looks).state ≡ with_status op (reply_of (Some r)) (left s op))
unfolding next
next-refused m s op looks r is = (ap reply_of is, ap (λ (o : Option Refusal). with_status op (reply_of o) (next_if m s op looks o)) is)

-- a command that is no write of tasks leaves the state as it was
pub left-same : (s : State) (op : Op) → writes_tasks op ≡ false → left s op ≡ s
unfolding write.refused
left-same s (ops.Write (File dir kinds.Tasks) text) e = absurd (let f : true ≡ false = e in cc)
left-same s (ops.Write path text) e = refl
left-same s op e = refl

-- and a write of tasks changes the tasks alone
pub left-tasks : (s : State) (op : Op) → left s op ≡ record s { tasks = (left s op).tasks }
unfolding write.refused tasks.kept
left-tasks s (ops.Write (File dir kinds.Tasks) text) = at (group_at s dir)
  where
    kept : (g : Group) → tasks.kept s g text ≡ record s { tasks = (tasks.kept s g text).tasks }
    kept g = cond-both (λ (later : State). later ≡ record s { tasks = later.tasks }) (is_closed s (controlling g.gid g.kind)) s (record s { tasks = (tasks.moves_in s g text).tasks }) refl refl

    at : (o : Option Group) → option_map_or (λ g. tasks.kept s g text) o s ≡ record s { tasks = (option_map_or (λ g. tasks.kept s g text) o s).tasks }
    at None = refl
    at (Some g) = kept g
left-tasks s (ops.Write path text) = refl
left-tasks s op = refl

-- an accepted rmdir keeps the last status
status-rmdir : (m : Parameters) (s : State) (path : PathRef) (looks : List ℕ) → (rmdir.accepted m s path looks).status ≡ s.status
unfolding rmdir.accepted
status-rmdir m s (Dir (Ctrl name)) looks = at (directory_gid s (Ctrl name))
  where
    at : (o : Option Gid) → (option_map_or (λ gid. rmdir.without_control m s gid (rmdir.freed s (Dir (Ctrl name))) looks) o s).status ≡ s.status
    at None = refl
    at (Some gid) = refl
status-rmdir m s (Dir (Mon owner name)) looks = at (directory_gid s (Mon owner name))
  where
    at : (o : Option Gid) → (option_map_or (λ gid. rmdir.without_monitor m s gid (rmdir.freed s (Dir (Mon owner name))) looks) o s).status ≡ s.status
    at None = refl
    at (Some gid) = refl
status-rmdir m s path looks = refl

-- a command that is no mkdir and no write keeps the last status, accepted or refused
status-either : (m : Parameters) (s : State) (op : Op) (looks : List ℕ) (reply : Reply) (o : Option Refusal) → sets_status op ≡ false → (with_status op reply (next_if m s op looks o)).status ≡ s.status
unfolding tick.accepted
status-either m s (ops.Mkdir path) looks reply o e = absurd (let f : true ≡ false = e in cc)
status-either m s (ops.Write path text) looks reply o e = absurd (let f : true ≡ false = e in cc)
status-either m s (ops.Rmdir path) looks reply None e = status-rmdir m s path looks
status-either m s op looks reply None e = refl
status-either m s op looks reply (Some r) e = refl

-- a command that is no mkdir and no write keeps the last status
pub status-next : (m : Parameters) (s : State) (op : Op) (looks : List ℕ) → sets_status op ≡ false → (next m s op looks).state.status ≡ s.status
unfolding next
status-next m s op looks e = status-either m s op looks (reply_of (refusal m s op)) (refusal m s op) e

-- setting the last status changes nothing else
pub with_status-alone : (s : State) (op : Op) (reply : Reply) → with_status op reply s ≡ record s { status = (with_status op reply s).status }
with_status-alone s (ops.Mkdir path) reply = refl
with_status-alone s (ops.Write path text) reply = refl
with_status-alone s op reply = refl

-- a reply is ok only where nothing is refused
pub refusal-ok : (m : Parameters) (s : State) (op : Op) (looks : List ℕ) → (next m s op looks).reply ≡ replies.Ok → refusal m s op ≡ None
unfolding next
refusal-ok m s op looks ok = at (refusal m s op) ok
  where
    at : (o : Option Refusal) → reply_of o ≡ replies.Ok → o ≡ None
    at None e = refl
    at (Some r) e = absurd cc

-- nothing stands against a mask
pub against_overlap-none : (domain : ℕ) (r : Result (Unit {0}) Overlap) → against_overlap domain r ≡ None → r ≡ Ok tt
against_overlap-none domain (Ok u) e = refl
against_overlap-none domain (Err o) e = absurd (let f : Some (overlap_refusal domain o) ≡ None = e in cc)

module _ {E : Type 0} where
  -- the first of the tests does not hold, and then those after it
  pub cond-Ok : (b : Bool) (e : E) (rest : Result (Unit {0}) E) (u : Unit {0}) → cond b (Err e) rest ≡ Ok u → (b ≡ false) × (rest ≡ Ok u)
  cond-Ok true e rest u is = absurd (let f : Err e ≡ Ok u = is in cc)
  cond-Ok false e rest u is = (refl, is)
