-- What a call makes of a tree.
-- (For functions and proofs: no promise of the program stands on it.)
use Rattle.std.specs.Prelude.{◌≡◌, ℕ, ◌+◌, List, [], Option}
use Rattle.path_names.specs.declared.path_ref.PathRef.{PathRef}
use Rattle.rc_base.specs.declared.replies.Reply.{Reply}
use Rattle.script_ops.specs.declared.op.Op.{Op}
use Rattle.script_ops.specs.declared.op.Op.TheVariants.{Mkdir}
use Rattle.tree_core.specs.CpuFiles.{unless}
use Rattle.tree_core.specs.Values.{TreeValue}
use Rattle.tree_law.specs.Refusals.{Refusal, reply_of}
use Rattle.tree_law.specs.State.{State}
use Rattle.tree_law.specs.Steps as steps
use Rattle.tree_law.specs.commands.Mkdir as mkdir
use Rattle.tree_law.specs.declared.follow.Follow.{Follow}

-- A tree that has counted a command takes it by the law.
pub record Takes (old : TreeValue) (op : Op) (looks : List ℕ) (new : TreeValue) (said : Reply) (follows : List Follow) : Type 0 where
  -- it has the next state, and is else as it was
  pub tree : new ≡ record old { state = (steps.next old.machine old.state op looks).state }
  -- the reply is the law's
  pub reply : said ≡ (steps.next old.machine old.state op looks).reply
  -- and so is what follows in the slices, after so many commands before this one
  pub after : (k : ℕ) → k + 1 ≡ old.epoch → follows ≡ steps.after old.machine old.state k op

-- A tree makes a change, unless something is against it.
pub record MakesUnless (old : TreeValue) (against : Option Refusal) (changed : State) (more : List Follow) (new : TreeValue) (said : Reply) (follows : List Follow) : Type 0 where
  -- it has the changed state then, and is else as it was
  pub tree : new ≡ record old { state = unless against old.state changed }
  -- the reply says why not
  pub reply : said ≡ reply_of against
  -- and these follow, or nothing
  pub after : follows ≡ unless against [] more

-- A tree makes a group at a path as mkdir does, but for the last status.
abbrev pub MakesGroup : TreeValue → PathRef → TreeValue → Reply → Type 0
MakesGroup old path new said = MakesUnless old (steps.refusal old.machine old.state (Mkdir path)) (mkdir.accepted old.machine old.state path) [] new said []
