-- Reads and lists, and the ops of a script.
use Rattle.std.proofs.Common.{◌≡◌, ℕ, zero, suc, All, List, [], ◌∷◌, get_or, Option, None, Some, true, refl, subst}
use Rattle.std.proofs.lemmas.List.Elements.{All-head, All-nil, All-tail}
use Rattle.std.proofs.lemmas.Option.{get_or_from_slice_get, slice_get_within}
use Rattle.file_view.specs.Texts.{is_reading}
use Rattle.machine.specs.declared.parameters.Parameters.{Parameters}
use Rattle.script_ops.specs.Values.{ScriptValue, op_at, ops_of, threads_of}
use Rattle.script_ops.specs.declared.op.Op.{Op}
use Rattle.script_ops.specs.declared.op.Op.TheVariants as ops
use Rattle.tree_law.specs.Refusals.{Refusal}
use Rattle.tree_law.specs.State.{State}
use Rattle.tree_law.specs.Steps.{next, next_if, refusal}

-- what is true of all ops of all threads is true of those of one
All-thread : (P : Op → Type 0) (threads : List (List Op)) (thread : ℕ) → All (λ ops. All P ops) threads → All P (get_or threads thread [])
All-thread P [] thread all = All-nil P
All-thread P (t ∷ ts) zero all = All-head (λ ops. All P ops) t ts all
All-thread P (t ∷ ts) (suc thread) all = All-thread P ts thread (All-tail (λ ops. All P ops) t ts all)

-- and of each of them
pub All-op_at : (P : Op → Type 0) (script : ScriptValue) (thread n : ℕ) (op : Op) → All (λ ops. All P ops) (threads_of script) → op_at script thread n ≡ Some op → P op
All-op_at P script thread n op all is =
    let xs : List Op = ops_of script thread in
    subst P (get_or_from_slice_get xs n op op is) (All-thread P (threads_of script) thread all n op (slice_get_within xs n op is))

-- a read or a list changes nothing
pub next-reading : (m : Parameters) (s : State) (op : Op) (looks : List ℕ) → is_reading op ≡ true → (next m s op looks).state ≡ s
unfolding next
next-reading m s (ops.Read path) looks reads = same (ops.Read path) (refusal m s (ops.Read path))
  where
    same : (op : Op) (o : Option Refusal) → next_if m s (ops.Read path) looks o ≡ s
    same op None = refl
    same op (Some r) = refl
next-reading m s (ops.List path) looks reads = same (ops.List path) (refusal m s (ops.List path))
  where
    same : (op : Op) (o : Option Refusal) → next_if m s (ops.List path) looks o ≡ s
    same op None = refl
    same op (Some r) = refl
next-reading m s op looks reads = absurd cc
