-- What a write leaves, by what is against it.
use Rattle.std.proofs.Common.{◌≡◌, ℕ, List, [], Option, None, Some, refl, ap, ap₂, ◌∙◌}
use Rattle.machine.specs.declared.parameters.Parameters.{Parameters}
use Rattle.path_names.specs.declared.path_ref.PathRef.{PathRef}
use Rattle.script_ops.specs.declared.op.Op.{Op}
use Rattle.script_ops.specs.declared.op.Op.TheVariants.{Write}
use Rattle.tree_core.proofs.Outcomes.{reply-next}
use Rattle.tree_core.specs.CpuFiles.{unless}
use Rattle.tree_law.specs.Refusals.{Refusal, reply_of}
use Rattle.tree_law.specs.State.{State}
use Rattle.tree_law.specs.Steps.{accepted, after, after_accepted, left, next, next_if, refusal}
use Rattle.tree_law.specs.declared.follow.Follow.{Follow}

-- the state after a write, accepted or refused
state-write : (m : Parameters) (s : State) (path : PathRef) (text : List ℕ) (looks : List ℕ) → (next m s (Write path text) looks).state
    ≡ record (unless (refusal m s (Write path text)) (left s (Write path text)) (accepted m s (Write path text) looks)) { status = reply_of (refusal m s (Write path text)) }
unfolding next
state-write m s path text looks = at (refusal m s (Write path text))
  where
    at : (o : Option Refusal) → record (next_if m s (Write path text) looks o) { status = reply_of o } ≡ record (unless o (left s (Write path text)) (accepted m s (Write path text) looks)) { status = reply_of o }
    at None = refl
    at (Some r) = refl

-- a write against which this is, or nothing, is answered so, and leaves this state but for the last status
pub record Leaves (m : Parameters) (s : State) (path : PathRef) (text looks : List ℕ) (o : Option Refusal) (later : State) : Type 0 where
  pub reply : (next m s (Write path text) looks).reply ≡ reply_of o
  pub state : (next m s (Write path text) looks).state ≡ record later { status = reply_of o }

pub Leaves-write : (m : Parameters) (s : State) (path : PathRef) (text looks : List ℕ) (o : Option Refusal) (later : State) → refusal m s (Write path text) ≡ o
    → unless o (left s (Write path text)) (accepted m s (Write path text) looks) ≡ later → Leaves m s path text looks o later
Leaves-write m s path text looks o later is leaves = record {
  reply = reply-next m s (Write path text) looks ∙ ap reply_of is;
  state = state-write m s path text looks
      ∙ ap (λ (p : Option Refusal). record (unless p (left s (Write path text)) (accepted m s (Write path text) looks)) { status = reply_of p }) is
      ∙ ap (λ (x : State). record x { status = reply_of o }) leaves;
}

-- what follows a command against which this is, or nothing
pub after-unless : (m : Parameters) (s : State) (k : ℕ) (op : Op) (o : Option Refusal) (follows : List Follow) → refusal m s op ≡ o → after_accepted m s k op ≡ follows → after m s k op ≡ unless o [] follows
unfolding after
after-unless m s k op o follows is_refusal is_after = ap₂ (λ (p : Option Refusal) (fs : List Follow). unless p [] fs) is_refusal is_after
