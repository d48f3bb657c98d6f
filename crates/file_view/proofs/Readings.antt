-- What an accepted read or list is of.
use Rattle.std.proofs.Common.{◌≡◌, Bool, true, false, cond, refl, Some, None}
use Rattle.std.specs.Prelude.{IsTrue}
use Rattle.machine.specs.declared.parameters.Parameters.{Parameters}
use Rattle.path_names.specs.declared.path_ref.PathRef.{PathRef}
use Rattle.rc_base.specs.declared.replies.Why.TheVariants.{NoSuchPath}
use Rattle.script_ops.specs.declared.op.Op.TheVariants as ops
use Rattle.tree_law.specs.Existing.{is_directory, is_file}
use Rattle.tree_law.specs.Refusals.{plain}
use Rattle.tree_law.specs.State.{State}
use Rattle.tree_law.specs.Steps.{refusal}
use Rattle.tree_law.specs.commands.Reads as reads

-- a read that is accepted finds a file
pub is_file-accepted : (m : Parameters) (s : State) (path : PathRef) → refusal m s (ops.Read path) ≡ None → IsTrue (is_file s path)
unfolding refusal reads.refusal
is_file-accepted m s path accepted = at (is_file s path) accepted
  where
    at : (b : Bool) → cond b None (Some (plain NoSuchPath)) ≡ None → IsTrue b
    at true e = refl
    at false e = absurd (let f : Some (plain NoSuchPath) ≡ None = e in cc)

-- a list that is accepted finds a directory
pub is_directory-accepted : (m : Parameters) (s : State) (path : PathRef) → refusal m s (ops.List path) ≡ None → IsTrue (is_directory s path)
unfolding refusal reads.list_refusal
is_directory-accepted m s path accepted = at (is_directory s path) accepted
  where
    at : (b : Bool) → cond b None (Some (plain NoSuchPath)) ≡ None → IsTrue b
    at true e = refl
    at false e = absurd (let f : Some (plain NoSuchPath) ≡ None = e in cc)
