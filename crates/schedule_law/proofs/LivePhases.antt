-- The steps of phases may happen to the parts at hand.
use Rattle.std.proofs.Common.{◌≡◌, ℕ, Bool, List, [], ◌∷◌, ◌++◌, length, refl, sym, subst, Option}
use Rattle.script_ops.specs.Values.{ScriptValue, ops_of}
use Rattle.step_world.specs.declared.thread_state.ThreadState.TheVariants.{Ready}
use Rattle.schedule_law.specs.LiveParts.{after, live_phase, reached, resting_thread}
use Rattle.schedule_law.specs.LivePhases.{MayBegin, MayEnd, MayPass}
use Rattle.schedule_law.specs.declared.part.GivenTag.{GivenTag}
use Rattle.schedule_law.specs.declared.part.Part.{Part}
use Rattle.schedule_law.specs.declared.part.Happening.TheVariants as happenings
use Rattle.schedule_law.proofs.LiveHappenings.{MayHappen-both, MayHappen-live, by_parts}
use Rattle.schedule_law.proofs.PhaseHappenings.{begin_may_happen, end_may_happen, pass_may_happen}
use Rattle.shared_parts.specs.Parts.{AreApart, MayHappen}
use Rattle.schedule_law.proofs.LiveApart.{AreApart-two}
use Rattle.schedule_law.proofs.PartNumbers.{thread_not_phase}

-- the phase of a thread has begun
pub begin_happens : (script : ScriptValue) (phase worker : List (ℕ × Part)) → MayBegin script phase worker → MayHappen (reached script) after happenings.Begin (phase ++ worker)
begin_happens script phase worker may =
    MayHappen-both script happenings.Begin phase worker (live_phase may.p may.ended ∷ []) (resting_thread may.t may.n may.begun may.found may.given ∷ []) may.phase_is may.worker_is
    (begin_may_happen script may.p may.ended may.t (record { next = may.n; state = Ready }) may.begun may.found may.given may.low)

-- a thread is at its end
pub end_happens : (script : ScriptValue) (phase worker : List (ℕ × Part)) → MayEnd script phase worker → MayHappen (reached script) after happenings.End (phase ++ worker)
end_happens script phase worker may =
    MayHappen-both script happenings.End phase worker (live_phase may.p may.t ∷ []) (resting_thread may.t (length (ops_of script may.t)) may.begun may.found may.given ∷ []) may.phase_is may.worker_is
    (end_may_happen script may.p may.t (record { next = length (ops_of script may.t); state = Ready }) may.begun may.found may.given (refl, refl))

-- the next phase begins
pub pass_happens : (script : ScriptValue) (phase : List (ℕ × Part)) → MayPass script phase → MayHappen (reached script) after happenings.Pass phase
pass_happens script phase may =
    subst (λ l. MayHappen (reached script) after happenings.Pass l) (sym may.phase_is)
    (MayHappen-live script happenings.Pass (live_phase may.p may.ended ∷ []) (pass_may_happen script may.p may.ended may.all))

-- ---- the parts at hand are apart

phase_apart : (p ended t n : ℕ) (phase worker : List (ℕ × Part)) (begun : Bool) (found : List ℕ) (given : Option GivenTag) → phase ≡ live_phase p ended ∷ [] → worker ≡ resting_thread t n begun found given ∷ [] → AreApart phase worker
phase_apart p ended t n phase worker begun found given is are =
    by_parts AreApart phase worker (live_phase p ended ∷ []) (resting_thread t n begun found given ∷ []) is are
    (AreApart-two (live_phase p ended) (resting_thread t n begun found given) (thread_not_phase t))

pub begin_apart : (script : ScriptValue) (phase worker : List (ℕ × Part)) → MayBegin script phase worker → AreApart phase worker
begin_apart script phase worker may = phase_apart may.p may.ended may.t may.n phase worker may.begun may.found may.given may.phase_is may.worker_is

pub end_apart : (script : ScriptValue) (phase worker : List (ℕ × Part)) → MayEnd script phase worker → AreApart phase worker
end_apart script phase worker may = phase_apart may.p may.t may.t (length (ops_of script may.t)) phase worker may.begun may.found may.given may.phase_is may.worker_is
