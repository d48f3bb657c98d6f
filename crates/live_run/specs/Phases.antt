-- From phase to phase.
-- (For functions and proofs: no promise of the program stands on it.)
use Rattle.std.specs.Prelude.{◌≡◌, ℕ, ◌+◌, ◌<◌, ◌≤◌, false, true, List, [], ◌∷◌, length, slice_index_or}
use Rattle.atomic_table.specs.Seated.{TableId}
use Rattle.live_law.specs.DoneOps.{AreEnded, HasEnded}
use Rattle.live_law.specs.SeenJournals.{HasGrown}
use Rattle.live_run.specs.Names.{PassesValue, no_name, seen_by}
use Rattle.live_run.specs.Sharing.{IsShareOf}
use Rattle.live_run.specs.Steps.{HasTaken}
use Rattle.run_law.specs.Ops.{phase_in}
use Rattle.schedule_law.specs.LiveParts.{live_phase}
use Rattle.schedule_law.specs.declared.part.Part.{Part}
use Rattle.script_ops.specs.Values.{ScriptValue, first_thread, ops_of, threads_of}
use Rattle.shared_parts.specs.Shares.{ShareValue}

-- no thread's
abbrev pub no_passes : PassesValue
no_passes = record { seen = record { thread = 0; tree = record { name = no_name; number = 0; seen = [] }; slices = [] }; next = 0; shown = []; begun = false }

-- the passes of a thread
abbrev pub passes_at : List PassesValue → ℕ → PassesValue
passes_at ps t = slice_index_or ps t no_passes

-- all its ops are made
abbrev pub IsAtEnd : ScriptValue → PassesValue → Type 0
IsAtEnd script p = p.next ≡ length (ops_of script p.seen.thread)

-- The threads of the phases before this one are at their ends, which each of the others has seen; and these have made nothing.
pub record AreBefore (script : ScriptValue) (phase : ℕ) (ps : List PassesValue) : Type 0 where
  pub count : length ps ≡ length (threads_of script)
  pub threads : (t : ℕ) → t < length ps → (passes_at ps t).seen.thread ≡ t
  pub done : (t : ℕ) → t < length ps → t < first_thread script phase → IsAtEnd script (passes_at ps t)
  pub fresh : (t : ℕ) → t < length ps → first_thread script phase ≤ t → (passes_at ps t).next ≡ 0
  pub seen : (t u : ℕ) → t < length ps → first_thread script phase ≤ t → u < first_thread script phase → HasEnded script (seen_by (passes_at ps t).seen) u

-- ---- workers

-- It has made no op, and its phase has begun.
pub record MayWork (script : ScriptValue) (p : PassesValue) : Type 0 where
  pub there : p.seen.thread < length (threads_of script)
  pub fresh : p.next ≡ 0
  pub begun : p.begun ≡ true

-- It has made all ops of the same thread, and has seen what it had.
pub record HasWorked (script : ScriptValue) (old new : PassesValue) : Type 0 where
  pub thread : new.seen.thread ≡ old.seen.thread
  pub at_end : IsAtEnd script new
  pub grown : HasGrown (seen_by old.seen) (seen_by new.seen)

-- each of them
pub record MayAllWork (script : ScriptValue) (ps : List PassesValue) : Type 0 where
  pub each : (k : ℕ) → k < length ps → MayWork script (passes_at ps k)

pub record HaveWorked (script : ScriptValue) (old new : List PassesValue) : Type 0 where
  pub count : length new ≡ length old
  pub each : (k : ℕ) → k < length old → HasWorked script (passes_at old k) (passes_at new k)

-- ---- the beginning and the end of a phase, for each of its threads

-- A thread is of the phase whose number this share has, or of one before it, and has seen that the threads of earlier phases have ended.
pub record IsOfPhase (script : ScriptValue) (table : TableId) (p : PassesValue) (turn : ShareValue Part) : Type 0 where
  pub phase : ℕ
  pub ended : ℕ
  pub share : IsShareOf table (live_phase phase ended ∷ []) turn
  pub low : phase_in script.phases p.seen.thread ≤ phase
  pub earlier : AreEnded script (seen_by p.seen) p.seen.thread

-- It is at its end, and is the first that is not known to be there.
pub record IsEndedIn (script : ScriptValue) (table : TableId) (p : PassesValue) (turn : ShareValue Part) : Type 0 where
  pub phase : ℕ
  pub share : IsShareOf table (live_phase phase p.seen.thread ∷ []) turn
  pub at_end : IsAtEnd script p

-- The threads are of the phase whose number this share has, or of one before it, and have seen that those of earlier phases have ended.
pub record AreOfPhase (script : ScriptValue) (table : TableId) (ps : List PassesValue) (turn : ShareValue Part) : Type 0 where
  pub phase : ℕ
  pub ended : ℕ
  pub share : IsShareOf table (live_phase phase ended ∷ []) turn
  pub each : (k : ℕ) → k < length ps → phase_in script.phases (passes_at ps k).seen.thread ≤ phase
  pub earlier : (k : ℕ) → k < length ps → AreEnded script (seen_by (passes_at ps k).seen) (passes_at ps k).seen.thread

-- Of those before `upto` the phase is known to have begun.
pub record AreBegun (upto : ℕ) (ps ps_now : List PassesValue) : Type 0 where
  pub count : length ps_now ≡ length ps
  pub each : (k : ℕ) → k < upto → k < length ps → passes_at ps_now k ≡ (record (passes_at ps k) { begun = true })
  pub rest : (k : ℕ) → upto ≤ k → passes_at ps_now k ≡ passes_at ps k

-- The threads are at their ends, one after the other from the first that is not known to be there.
pub record AreEndedIn (script : ScriptValue) (table : TableId) (ps : List PassesValue) (turn : ShareValue Part) : Type 0 where
  pub phase : ℕ
  pub first : ℕ
  pub share : IsShareOf table (live_phase phase first ∷ []) turn
  pub threads : (k : ℕ) → k < length ps → (passes_at ps k).seen.thread ≡ first + k
  pub ended : (k : ℕ) → k < length ps → IsAtEnd script (passes_at ps k)

-- so many threads more are known to be at their ends
abbrev pub HaveEnded : ℕ → ShareValue Part → ShareValue Part → Type 0
HaveEnded n old new =
    (phase first : ℕ) → old.parts ≡ live_phase phase first ∷ [] → (new.table ≡ old.table) × (new.parts ≡ live_phase phase (first + n) ∷ [])

-- ---- handing on

-- It may have seen more.
pub record IsHanded (old new : PassesValue) : Type 0 where
  pub taken : HasTaken old.seen new.seen
  pub next : new.next ≡ old.next

-- One has met each of the others before `upto`, in order. So it has seen that those are ended that are at their ends; and each of
-- those has seen the same of it, and of whatever it had seen that.
pub record HasMetEach (script : ScriptValue) (upto : ℕ) (one one_now : PassesValue) (others others_now : List PassesValue) : Type 0 where
  pub one_is : IsHanded one one_now
  pub count : length others_now ≡ length others
  pub each : (k : ℕ) → k < upto → k < length others → IsHanded (passes_at others k) (passes_at others_now k)
  pub rest : (k : ℕ) → upto ≤ k → k < length others → passes_at others_now k ≡ passes_at others k
  pub gathered : (k : ℕ) → k < upto → k < length others → IsAtEnd script (passes_at others k) → HasEnded script (seen_by one_now.seen) (passes_at others k).seen.thread
  pub given : (k u : ℕ) → k < upto → k < length others → HasEnded script (seen_by one.seen) u → HasEnded script (seen_by (passes_at others_now k).seen) u
  pub own : (k : ℕ) → k < upto → k < length others → IsAtEnd script one → HasEnded script (seen_by (passes_at others_now k).seen) one.seen.thread

-- The threads of a phase have handed on to later ones what they had seen.
pub record HaveHandedOn (script : ScriptValue) (own own_now later later_now : List PassesValue) : Type 0 where
  pub own_count : length own_now ≡ length own
  pub later_count : length later_now ≡ length later
  pub own_are : (k : ℕ) → k < length own → IsHanded (passes_at own k) (passes_at own_now k)
  pub later_are : (l : ℕ) → l < length later → IsHanded (passes_at later l) (passes_at later_now l)
  pub seen : (k l : ℕ) → k < length own → l < length later → IsAtEnd script (passes_at own k) → HasEnded script (seen_by (passes_at later_now l).seen) (passes_at own k).seen.thread
