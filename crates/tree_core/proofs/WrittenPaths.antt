-- Which files are written, and what a write leaves that its path refuses.
use Rattle.std.proofs.Common.{◌≡◌, ℕ, Bool, true, false, not, cond, List, find, is_some, Option, None, Some, refl, ap}
use Rattle.std.specs.Option.{option_and_then, option_map_or}
use Rattle.group_tree.specs.declared.group.Group.{Group}
use Rattle.path_names.specs.declared.dirs.DirRef.{DirRef}
use Rattle.path_names.specs.declared.dirs.DirRef.TheVariants.{Root, Ctrl, Mon}
use Rattle.path_names.specs.declared.dirs.Holder.TheVariants.{Monitor}
use Rattle.path_names.specs.declared.dirs.Owner.TheVariants.{Ctrl as Named}
use Rattle.path_names.specs.declared.files.FileKind.{FileKind}
use Rattle.path_names.specs.declared.files.FileKind.TheVariants as files
use Rattle.path_names.specs.declared.path_ref.PathRef.{PathRef}
use Rattle.path_names.specs.declared.path_ref.PathRef.TheVariants.{Dir, File, Free, Nowhere}
use Rattle.rc_base.specs.declared.names.Gid.{Gid}
use Rattle.rc_base.specs.declared.replies.Reply.{Reply}
use Rattle.rc_base.specs.declared.replies.Why.{Why}
use Rattle.rc_base.specs.declared.replies.Why.TheVariants.{NoSuchPath, OnlyRead}
use Rattle.script_ops.specs.declared.op.Op.TheVariants as ops
use Rattle.tree_law.specs.Existing.{dir_exists, group_of, holder_gid, owner_gid}
use Rattle.tree_law.specs.Places.{group_at}
use Rattle.tree_law.specs.State.{State}
use Rattle.tree_law.specs.Steps.{left, with_status}
use Rattle.tree_law.specs.commands.Tasks as tasks
use Rattle.tree_law.specs.commands.Write as write

-- a kind of file that has none of these names
pub record IsOtherKind (kind : FileKind) : Type 0 where
  pub schemata : kind ≡ files.Schemata → ⊥
  pub mode : kind ≡ files.Mode → ⊥
  pub tasks : kind ≡ files.Tasks → ⊥
  pub cpus : kind ≡ files.Cpus → ⊥
  pub cpus_list : kind ≡ files.CpusList → ⊥
  pub threshold : kind ≡ files.MaxThreshold → ⊥

-- one of two reasons is there, whichever it is
cond-not_none : {X : Type 0} (b : Bool) (one other : X) → cond b (Some one) (Some other) ≡ None → ⊥
cond-not_none true one other e = let some : Some one ≡ None = e in cc
cond-not_none false one other e = let some : Some other ≡ None = e in cc

-- what may be written has one of them
pub IsOtherKind-not_written : (s : State) (dir : DirRef) (kind : FileKind) → find (write.against s (File dir kind)) write.reasons ≡ None → IsOtherKind kind → ⊥
IsOtherKind-not_written s dir files.Schemata none other = other.schemata refl
IsOtherKind-not_written s dir files.Mode none other = other.mode refl
IsOtherKind-not_written s dir files.Tasks none other = other.tasks refl
IsOtherKind-not_written s dir files.Cpus none other = other.cpus refl
IsOtherKind-not_written s dir files.CpusList none other = other.cpus_list refl
IsOtherKind-not_written s dir files.MaxThreshold none other = other.threshold refl
IsOtherKind-not_written s dir kind none other = cond-not_none (not (dir_exists s dir)) NoSuchPath OnlyRead none

-- a directory that is not there is no group's
group_at-absent : (s : State) (dir : DirRef) → dir_exists s dir ≡ false → group_at s dir ≡ None
group_at-absent s Root none = absurd (let f : true ≡ false = none in cc)
group_at-absent s (Ctrl name) none = ap (option_and_then (group_of s)) (nowhere (owner_gid s (Named name)) none)
  where
    nowhere : (o : Option Gid) → is_some o ≡ false → o ≡ None
    nowhere None e = refl
    nowhere (Some gid) e = absurd (let f : true ≡ false = e in cc)
group_at-absent s (Mon owner name) none = ap (option_and_then (group_of s)) (nowhere (holder_gid s (Monitor owner name)) none)
  where
    nowhere : (o : Option Gid) → is_some o ≡ false → o ≡ None
    nowhere None e = refl
    nowhere (Some gid) e = absurd (let f : true ≡ false = e in cc)
group_at-absent s dir none = refl

-- a file that can be written is refused by its path where its directory is not there
dir_exists-refused : (b : Bool) (why : Why) → cond (not b) (Some NoSuchPath) None ≡ Some why → b ≡ false
dir_exists-refused true why e = absurd (let f : None ≡ Some why = e in cc)
dir_exists-refused false why e = refl

-- and so does a write that the path refuses
pub with_status-path : (s : State) (path : PathRef) (text : List ℕ) (reply : Reply) (why : Why) → find (write.against s path) write.reasons ≡ Some why → with_status (ops.Write path text) reply (left s (ops.Write path text)) ≡ record s { status = reply }
unfolding write.refused
with_status-path s (File dir files.Tasks) text reply why found =
    ap (λ (o : Option Group). record (option_map_or (λ g. tasks.kept s g text) o s) { status = reply }) (group_at-absent s dir (dir_exists-refused (dir_exists s dir) why found))
with_status-path s (File dir kind) text reply why found = refl
with_status-path s (Dir dir) text reply why found = refl
with_status-path s (Free dir name) text reply why found = refl
with_status-path s (Nowhere name) text reply why found = refl
