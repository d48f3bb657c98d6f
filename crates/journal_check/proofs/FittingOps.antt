-- Ops of a script that fits its machine.
use Rattle.std.proofs.Common.{◌≡◌, ℕ, zero, suc, List, [], ◌∷◌, get_or, Some, subst}
use Rattle.std.specs.Prelude.{All}
use Rattle.std.proofs.lemmas.Option.{get_or_from_slice_get, slice_get_within}
use Rattle.std.proofs.lemmas.List.Elements.{All-head, All-nil, All-tail}
use Rattle.script_ops.specs.Fits.{Fits}
use Rattle.script_ops.specs.Values.{IsLawful, ScriptValue, op_at, ops_of, threads_of}
use Rattle.script_ops.specs.declared.op.Op.{Op}

-- what is true of all ops of all threads is true of those of one
All-threads : (P : Op → Type 0) (threads : List (List Op)) (thread : ℕ) → All (λ ops. All P ops) threads → All P (get_or threads thread [])
All-threads P [] thread all = All-nil P
All-threads P (t ∷ ts) zero all = All-head (λ ops. All P ops) t ts all
All-threads P (t ∷ ts) (suc thread) all = All-threads P ts thread (All-tail (λ ops. All P ops) t ts all)

-- an op of a script fits it
pub Fits-op : (script : ScriptValue) (t o : ℕ) (c : Op) → IsLawful script → op_at script t o ≡ Some c → Fits script.machine script.tasks c
Fits-op script t o c lawful is =
    let each : All (Fits script.machine script.tasks) (ops_of script t) = All-threads (Fits script.machine script.tasks) (threads_of script) t lawful.fit in
    subst (Fits script.machine script.tasks) (get_or_from_slice_get (ops_of script t) o c c is) (each o c (slice_get_within (ops_of script t) o c is))
