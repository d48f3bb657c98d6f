-- What is known of the parts at hand when a live thread begins its phase, is at its end, or the next phase begins.
use Rattle.std.specs.Prelude.{List, Bool, Option, [], length, ℕ, ◌<◌, ◌∷◌, ◌≡◌, ◌≤◌}
use Rattle.run_law.specs.Ops.{phase_in}
use Rattle.script_ops.specs.Values.{ScriptValue, ops_of}
use Rattle.schedule_law.specs.LiveParts.{live_phase, resting_thread}
use Rattle.schedule_law.specs.declared.part.GivenTag.{GivenTag}
use Rattle.schedule_law.specs.declared.part.Part.{Part}

-- The thread is of the present phase, or of one before it.
pub record MayBegin (script : ScriptValue) (phase worker : List (ℕ × Part)) : Type 0 where
  pub p : ℕ
  pub ended : ℕ
  pub t : ℕ
  pub n : ℕ
  pub begun : Bool
  pub found : List ℕ
  pub given : Option GivenTag
  pub phase_is : phase ≡ live_phase p ended ∷ []
  pub worker_is : worker ≡ resting_thread t n begun found given ∷ []
  pub low : phase_in script.phases t ≤ p

-- The thread is at its end, and so are all before it.
pub record MayEnd (script : ScriptValue) (phase worker : List (ℕ × Part)) : Type 0 where
  pub p : ℕ
  pub t : ℕ
  pub begun : Bool
  pub found : List ℕ
  pub given : Option GivenTag
  pub phase_is : phase ≡ live_phase p t ∷ []
  pub worker_is : worker ≡ resting_thread t (length (ops_of script t)) begun found given ∷ []

-- All threads of the present phase are at their ends.
pub record MayPass (script : ScriptValue) (phase : List (ℕ × Part)) : Type 0 where
  pub p : ℕ
  pub ended : ℕ
  pub phase_is : phase ≡ live_phase p ended ∷ []
  pub all : (t : ℕ) → phase_in script.phases t ≡ p → t < ended
