-- Ops of a script: which are commands, and which come before which.
use Rattle.std.specs.Prelude.{◌≡◌, ℕ, ◌+◌, ◌-◌, ◌<◌, ◌⊎◌, Bool, true, false, nat_lt, if◌then◌else◌, List, [], ◌∷◌, length}
use Rattle.script_ops.specs.declared.op.Op.{Op}
use Rattle.script_ops.specs.declared.op.Op.TheVariants.{Access}
use Rattle.script_ops.specs.Values.{PhaseValue, ScriptValue}

-- every op but an access is a command
abbrev pub is_command : Op → Bool
is_command (Access task cpu addr) = false
is_command op = true

-- one thing is said of an access, by its task, CPU and address, and another of a command
abbrev pub ByKind : (ℕ → ℕ → ℕ → Type 0) → Type 0 → Op → Type 0
ByKind OfAccess OfCommand (Access task cpu addr) = OfAccess task cpu addr
ByKind OfAccess OfCommand op = OfCommand

-- the number of the phase that a thread is of
abbrev pub phase_in : List PhaseValue → ℕ → ℕ
phase_in [] thread = 0
phase_in (p ∷ ps) thread = if nat_lt thread (length p.threads) then 0 else 1 + phase_in ps (thread - length p.threads)

-- one op comes before another: it has a lower number in the same thread, or its phase is earlier
abbrev pub Precedes : ScriptValue → ℕ → ℕ → ℕ → ℕ → Type 0
Precedes script thread op later_thread later_op =
    ((thread ≡ later_thread) × (op < later_op)) ⊎ (phase_in script.phases thread < phase_in script.phases later_thread)
