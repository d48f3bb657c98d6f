-- What becomes of a command that is refused, and of one that is accepted.
use Rattle.std.proofs.Common.{◌≡◌, ℕ, Bool, true, false, cond, List, [], find, is_some, Option, None, Some, IfSome, refl, ap, ◌∙◌}
use Rattle.std.specs.Option.{option_map}
use Rattle.machine.specs.declared.parameters.Parameters.{Parameters}
use Rattle.path_names.specs.declared.path_ref.PathRef.{PathRef}
use Rattle.rc_base.specs.Replies.{refused}
use Rattle.rc_base.specs.declared.replies.Reply.TheVariants as replies
use Rattle.rc_base.specs.declared.replies.Why.{Why}
use Rattle.rc_base.specs.declared.replies.Why.TheVariants.{NoSuchPath}
use Rattle.script_ops.specs.declared.op.Op.{Op}
use Rattle.script_ops.specs.declared.op.Op.TheVariants.{Flush, Read, Rmdir}
use Rattle.script_ops.specs.declared.op.Op.TheVariants as ops
use Rattle.tree_law.specs.Existing.{is_directory, is_file}
use Rattle.tree_law.specs.Refusals.{Refusal, plain, reply_of}
use Rattle.tree_law.specs.State.{Outcome, State}
use Rattle.tree_law.specs.Steps.{accepted, after, after_accepted, left, needs, needs_accepted, next, next_if, refusal, with_status}
use Rattle.tree_law.specs.commands.Reads as reads
use Rattle.tree_law.specs.commands.Rmdir as rmdir

-- ---- refused

-- a refused command answers why, and leaves what it leaves
pub next-refused : (m : Parameters) (s : State) (op : Op) (r : Refusal) (looks : List ℕ) → refusal m s op ≡ Some r → next m s op looks ≡ record { reply = refused r.why r.arg; state = with_status op (refused r.why r.arg) (left s op) }
unfolding next
next-refused m s op r looks is = ap (λ (against : Option Refusal). record { reply = reply_of against; state = with_status op (reply_of against) (next_if m s op looks against) }) is

-- nothing follows it
pub after-refused : (m : Parameters) (s : State) (k : ℕ) (op : Op) (r : Refusal) → refusal m s op ≡ Some r → after m s k op ≡ []
unfolding after
after-refused m s k op r is = rw is refl

-- and it needs no counts
pub needs-refused : (m : Parameters) (s : State) (op : Op) (r : Refusal) → refusal m s op ≡ Some r → needs m s op ≡ []
unfolding needs
needs-refused m s op r is = rw is refl

-- ---- accepted

-- an accepted command answers that it is done, and leaves its own state
pub next-accepted : (m : Parameters) (s : State) (op : Op) (looks : List ℕ) → refusal m s op ≡ None → next m s op looks ≡ record { reply = replies.Ok; state = with_status op replies.Ok (accepted m s op looks) }
unfolding next
next-accepted m s op looks is = ap (λ (against : Option Refusal). record { reply = reply_of against; state = with_status op (reply_of against) (next_if m s op looks against) }) is

-- what follows it is its own
pub after-accepted : (m : Parameters) (s : State) (k : ℕ) (op : Op) → refusal m s op ≡ None → after m s k op ≡ after_accepted m s k op
unfolding after
after-accepted m s k op is = rw is refl

-- and so are the counts that it needs
pub needs-accepted : (m : Parameters) (s : State) (op : Op) → refusal m s op ≡ None → needs m s op ≡ needs_accepted m s op
unfolding needs
needs-accepted m s op is = rw is refl

-- a command that nothing follows where it is accepted
pub after-nothing : (m : Parameters) (s : State) (k : ℕ) (op : Op) → after_accepted m s k op ≡ [] → after m s k op ≡ []
unfolding after
after-nothing m s k op none = at (is_some (refusal m s op))
  where
    at : (b : Bool) → cond b [] (after_accepted m s k op) ≡ []
    at true = refl
    at false = none

-- a command that needs none where it is accepted needs none
pub needs-nothing : (m : Parameters) (s : State) (op : Op) → needs_accepted m s op ≡ [] → needs m s op ≡ []
unfolding needs
needs-nothing m s op none = at (is_some (refusal m s op))
  where
    at : (b : Bool) → cond b [] (needs_accepted m s op) ≡ []
    at true = refl
    at false = none

-- what is against a command makes the reply
pub reply-next : (m : Parameters) (s : State) (op : Op) (looks : List ℕ) → (next m s op looks).reply ≡ reply_of (refusal m s op)
unfolding next
reply-next m s op looks = refl

-- a command that changes nothing
pub state-quiet : (m : Parameters) (s : State) (op : Op) (looks : List ℕ) → accepted m s op looks ≡ s → left s op ≡ s → ((x : State) → with_status op (reply_of (refusal m s op)) x ≡ x) → (next m s op looks).state ≡ s
unfolding next
state-quiet m s op looks same same' quiet = quiet (next_if m s op looks (refusal m s op)) ∙ at (refusal m s op)
  where
    at : (against : Option Refusal) → next_if m s op looks against ≡ s
    at None = same
    at (Some r) = same'

-- what a refused command leaves
pub state-refused : (m : Parameters) (s : State) (op : Op) (looks : List ℕ) (r : Refusal) → refusal m s op ≡ Some r → (next m s op looks).state ≡ with_status op (refused r.why r.arg) (left s op)
state-refused m s op looks r is = ap (λ (o : Outcome). o.state) (next-refused m s op r looks is)

-- what is left where something is against a command
pub IfSome-refusal : (m : Parameters) (s : State) (op : Op) (looks : List ℕ) (after : State) → after ≡ (next m s op looks).state → IfSome (refusal m s op) (λ r. after ≡ with_status op (refused r.why r.arg) (left s op))
IfSome-refusal m s op looks after is = at (refusal m s op) refl
  where
    at : (against : Option Refusal) → refusal m s op ≡ against → IfSome against (λ r. after ≡ with_status op (refused r.why r.arg) (left s op))
    at None e = tt
    at (Some r) e = is ∙ state-refused m s op looks r e

-- ---- rmdir

-- the first reason against an rmdir is against the command
pub refusal-rmdir_some : (m : Parameters) (s : State) (path : PathRef) (why : Why) → find (rmdir.against s path) rmdir.reasons ≡ Some why → refusal m s (Rmdir path) ≡ Some (plain why)
unfolding refusal rmdir.refusal
refusal-rmdir_some m s path why found = ap (option_map plain) found

-- without a reason, nothing is against it
pub refusal-rmdir_none : (m : Parameters) (s : State) (path : PathRef) → find (rmdir.against s path) rmdir.reasons ≡ None → refusal m s (Rmdir path) ≡ None
unfolding refusal rmdir.refusal
refusal-rmdir_none m s path none = ap (option_map plain) none

-- ---- read, list and flush

-- a read of what is no file is refused
pub refusal-read : (m : Parameters) (s : State) (path : PathRef) → refusal m s (Read path) ≡ cond (is_file s path) None (Some (plain NoSuchPath))
unfolding refusal reads.refusal
refusal-read m s path = refl

-- a list of what is no directory is refused
pub refusal-list : (m : Parameters) (s : State) (path : PathRef) → refusal m s (ops.List path) ≡ cond (is_directory s path) None (Some (plain NoSuchPath))
unfolding refusal reads.list_refusal
refusal-list m s path = refl

-- a flush is never refused
pub refusal-flush : (m : Parameters) (s : State) (domain : Option ℕ) → refusal m s (Flush domain) ≡ None
unfolding refusal
refusal-flush m s domain = refl

-- a flush of the line of an address is never refused
pub refusal-drop_line : (m : Parameters) (s : State) (addr : ℕ) → refusal m s (ops.DropLine addr) ≡ None
unfolding refusal
refusal-drop_line m s addr = refl
