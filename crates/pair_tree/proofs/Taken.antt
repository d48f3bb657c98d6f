-- Each command, taken by the law.
use Rattle.std.proofs.Common.{◌≡◌, Bool, List, ℕ, None, Some, Option, refl, sym, ap, ◌∙◌}
use Rattle.pair_law.specs.State.{PairGroup, PairState, group_named}
use Rattle.pair_law.specs.Steps.{accepted, kept_tasks, left, next, next_if, read_refusal, refusal}
use Rattle.pair_law.specs.commands.Mkdir as mkdir
use Rattle.pair_law.specs.commands.Rmdir as rmdir
use Rattle.pair_text.specs.Values.{Machines}
use Rattle.pair_text.specs.declared.file.PairFile.{PairFile}
use Rattle.pair_text.specs.declared.op.PairOp.{PairOp}
use Rattle.pair_text.specs.declared.op.PairOp.TheVariants as ops
use Rattle.pair_tree.specs.Changes.{MakesUnless, Takes, WritesFile, unless}
use Rattle.rc_base.specs.declared.replies.Reply.{Reply}
use Rattle.rc_base.specs.declared.replies.Reply.TheVariants as replies
use Rattle.rc_base.specs.declared.replies.Why.TheVariants.{NoSuchPath}
use Rattle.tree_law.specs.Refusals.{Refusal, plain, reply_of}

module _ (m : Machines) (s : PairState) where
  -- a command that changes the state, unless something is against it
  Takes-makes : (op : PairOp) (kept new : PairState) (said : Reply) → left s op ≡ kept → MakesUnless kept (refusal m s op) (accepted m s op) new said → Takes m s op new said
  unfolding next
  Takes-makes op kept new said is makes = record { reply = makes.reply; state = makes.state ∙ at (refusal m s op) }
    where
      at : (o : Option Refusal) → unless o kept (accepted m s op) ≡ next_if m s op o
      at None = refl
      at (Some r) = sym is

  pub Takes-mkdir : (name : List ℕ) (new : PairState) (said : Reply) → MakesUnless s (mkdir.refusal m s name) (mkdir.accepted m s name) new said → Takes m s (ops.Mkdir name) new said
  unfolding refusal
  Takes-mkdir name new said makes = Takes-makes (ops.Mkdir name) s new said refl makes

  pub Takes-rmdir : (name : List ℕ) (new : PairState) (said : Reply) → MakesUnless s (rmdir.refusal s name) (rmdir.accepted s name) new said → Takes m s (ops.Rmdir name) new said
  unfolding refusal
  Takes-rmdir name new said makes = Takes-makes (ops.Rmdir name) s new said refl makes

  -- a state that stays
  stays : (o : Option Refusal) → s ≡ unless o s s
  stays None = refl
  stays (Some r) = refl

  pub Takes-read : (file : PairFile) (said : Reply) → said ≡ reply_of (read_refusal (group_named s file.group)) → Takes m s (ops.Read file) s said
  unfolding refusal
  Takes-read file said is = Takes-makes (ops.Read file) s s said refl (record { reply = is; state = stays (read_refusal (group_named s file.group)) })

  pub Takes-flush : Takes m s ops.Flush s replies.Ok
  unfolding refusal
  Takes-flush = Takes-makes ops.Flush s s replies.Ok refl (record { reply = refl; state = refl })

  pub Takes-use : (task cpu line : ℕ) (code : Bool) → Takes m s (ops.Use task cpu line code) s replies.Ok
  unfolding refusal
  Takes-use task cpu line code = Takes-makes (ops.Use task cpu line code) s s replies.Ok refl (record { reply = refl; state = refl })

  module _ (file : PairFile) (text : List ℕ) where
    -- a write of a group that is there
    pub Takes-write : (g : PairGroup) (new : PairState) (said : Reply) → group_named s file.group ≡ Some g → WritesFile m s g file.kind text new said → Takes m s (ops.Write file text) new said
    unfolding refusal
    Takes-write g new said found makes =
        Takes-makes (ops.Write file text) (kept_tasks s (Some g) file.kind text) new said (ap (λ o. kept_tasks s o file.kind text) found) (rw found makes)

    -- of one that is not
    pub Takes-write_none : (said : Reply) → group_named s file.group ≡ None → said ≡ reply_of (Some (plain NoSuchPath)) → Takes m s (ops.Write file text) s said
    unfolding refusal
    Takes-write_none said none is = Takes-makes (ops.Write file text) s s said (ap (λ o. kept_tasks s o file.kind text) none) (rw none (record { reply = is; state = refl }))
