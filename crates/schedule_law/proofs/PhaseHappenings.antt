-- A phase begins, for a thread and for all.
use Rattle.std.proofs.Common.{◌≡◌, inl, inr, ℕ, ◌+◌, ◌≤◌, ◌==◌, true, Bool, List, [], ◌∷◌, ◌++◌, Option, refl, sym, ◌∙◌, ap, subst, arith}
use Rattle.std.specs.Prelude.{if◌then◌else◌}
use Rattle.std.proofs.lemmas.Bool.{cases_Bool, cases_lt, cond-true, cond-false, eqb-true}
use Rattle.run_law.specs.Journals.{slice_at}
use Rattle.run_law.specs.Ops.{phase_in}
use Rattle.script_ops.specs.Values.{ScriptValue}
use Rattle.step_world.specs.Machine.{MachineValue, thread_at}
use Rattle.step_world.specs.Schedules.{GoesOn, HasEnded, Next}
use Rattle.step_world.specs.declared.thread_state.Thread.{Thread}
use Rattle.schedule_law.specs.declared.part.GivenTag.{GivenTag}
use Rattle.schedule_law.specs.Law.{BeginMayHappen, EndMayHappen, PassMayHappen}
use Rattle.schedule_law.specs.Parts.{Begin, End, HappeningValue, PartValue, Pass, Phase, Slice, Tree, Worker, number_of_slice, number_of_thread, part_after, phase_part, thread_part}
use Rattle.schedule_law.proofs.PartNumbers.{phase_not_thread, thread_same}
use Rattle.schedule_law.proofs.PartSets.{has-only}
use Rattle.shared_parts.proofs.laws.Parts.{has-first, has-later, state_after-else, state_after-there}
use Rattle.shared_parts.specs.Parts.{has, state_after}
use Rattle.schedule_law.proofs.Events.{Plays-push}

-- where a part is as it was whether or not it happened to it, it is as it was
state_after-same : (e : HappeningValue) (xs : List (ℕ × PartValue)) (at : ℕ → PartValue) (k : ℕ) (p : PartValue) → at k ≡ p → part_after e k p ≡ p → state_after part_after e xs at k ≡ p
state_after-same e xs at k p is same = elim (cases_Bool (has k xs)) [
  | inl h ↦ state_after-there part_after e xs at k h ∙ (ap (part_after e k) is ∙ same)
  | inr h ↦ state_after-else part_after e xs at k h ∙ is
]

-- the parts of a phase and of a thread
module _ (p ended t : ℕ) (v : Thread) (begun : Bool) (found : List ℕ) (given : Option GivenTag) where
  abbrev both : List (ℕ × PartValue)
  both = phase_part p ended ∷ thread_part t v begun found given ∷ []

  has_thread : (u : ℕ) → has (number_of_thread u) both ≡ (t == u)
  has_thread u =
      has-later (number_of_thread u) (phase_part p ended) (thread_part t v begun found given ∷ []) (phase_not_thread u)
      ∙ (has-only (number_of_thread u) (thread_part t v begun found given) ∙ thread_same t u)

-- the phase of a thread has begun
pub begin_may_happen : (script : ScriptValue) → BeginMayHappen script
begin_may_happen script p ended t v begun found given low at r fit =
    let s = r.state in
    let xs : List (ℕ × PartValue) = phase_part p ended ∷ thread_part t v begun found given ∷ [] in
    let phase : s.phase ≡ p = (let is = r.phase in let its = fit.0 in cc) in
    record {
      state = s;
      reached = r.reached;
      count = r.count;
      begun = λ u. if t == u then true else r.begun u;
      found = r.found;
      given = r.given;
      gave = r.gave;
      ended = r.ended;
      tree = state_after-same Begin xs at 0 (Tree s.journals.tree s.holder) r.tree refl;
      phase = state_after-same Begin xs at 1 (Phase s.phase r.ended) r.phase refl;
      slices = λ i. state_after-same Begin xs at (number_of_slice i) (Slice (slice_at s.journals i)) (r.slices i) refl;
      threads = λ u. elim (cases_Bool (t == u)) [
        | inl h ↦
            state_after-there part_after Begin xs at (number_of_thread u) (has_thread p ended t v begun found given u ∙ h)
            ∙ (ap (part_after Begin (number_of_thread u)) (r.threads u) ∙ ap (λ (b : Bool). Worker (thread_at s u) b (r.found u) (r.given u)) (sym (cond-true (t == u) true (r.begun u) h)))
        | inr h ↦
            state_after-else part_after Begin xs at (number_of_thread u) (has_thread p ended t v begun found given u ∙ h)
            ∙ (r.threads u ∙ ap (λ (b : Bool). Worker (thread_at s u) b (r.found u) (r.given u)) (sym (cond-false (t == u) true (r.begun u) h)))
      ];
      begins = λ u is. elim (cases_Bool (t == u)) [
        | inl h ↦ subst (λ n. phase_in script.phases n ≤ s.phase) (eqb-true t u h) (omega (arith, low, phase))
        | inr h ↦ r.begins u (sym (cond-false (t == u) true (r.begun u) h) ∙ is)
      ];
      ends = r.ends;
      looked = r.looked;
    }

-- a thread is at its end
pub end_may_happen : (script : ScriptValue) → EndMayHappen script
end_may_happen script p t v begun found given over at r fit =
    let s = r.state in
    let xs : List (ℕ × PartValue) = phase_part p t ∷ thread_part t v begun found given ∷ [] in
    let ended : r.ended ≡ t = (let is = r.phase in let its = fit.0 in cc) in
    let there : v ≡ thread_at s t = (let is = r.threads t in let its = fit.1.0 in cc) in
    record {
      state = s;
      reached = r.reached;
      count = r.count;
      begun = r.begun;
      found = r.found;
      given = r.given;
      gave = r.gave;
      ended = r.ended + 1;
      tree = state_after-same End xs at 0 (Tree s.journals.tree s.holder) r.tree refl;
      phase = state_after-there part_after End xs at 1 (has-first 1 (phase_part p t) (thread_part t v begun found given ∷ []) refl) ∙ ap (part_after End 1) r.phase;
      slices = λ i. state_after-same End xs at (number_of_slice i) (Slice (slice_at s.journals i)) (r.slices i) refl;
      threads = λ u. state_after-same End xs at (number_of_thread u) (Worker (thread_at s u) (r.begun u) (r.found u) (r.given u)) (r.threads u) refl;
      begins = r.begins;
      ends = λ u low. elim (cases_lt u r.ended) [
        | inl before ↦ r.ends u before
        | inr past ↦
            let same : t ≡ u = omega (arith, low, past, ended) in
            subst (λ n. HasEnded script n (thread_at s n)) same (subst (λ (x : Thread). HasEnded script t x) there over)
      ];
      looked = r.looked;
    }

-- the next phase begins
pub pass_may_happen : (script : ScriptValue) → PassMayHappen script
pass_may_happen script p ended all at r fit =
    let s = r.state in
    let xs : List (ℕ × PartValue) = phase_part p ended ∷ [] in
    let phase : s.phase ≡ p = (let is = r.phase in let its = fit.0 in cc) in
    let count : r.ended ≡ ended = (let is = r.phase in let its = fit.0 in cc) in
    let now : MachineValue = record { journals = s.journals; phase = s.phase + 1; holder = s.holder; threads = s.threads } in
    let goes : GoesOn script s now = record {
      ended = λ t here. r.ends t (let low = all t (here ∙ phase) in omega (arith, low, count));
      journals = refl;
      holder = refl;
      threads = refl;
      phase = refl;
    } in
    record {
      state = now;
      reached = record {
        events = r.reached.events ++ Next ∷ [];
        first = r.reached.first;
        opening = r.reached.opening;
        plays = Plays-push script r.reached.events Next r.reached.first s now r.reached.plays goes;
      };
      count = r.count;
      begun = r.begun;
      found = r.found;
      given = r.given;
      gave = r.gave;
      ended = r.ended;
      tree = state_after-same Pass xs at 0 (Tree s.journals.tree s.holder) r.tree refl;
      phase = state_after-there part_after Pass xs at 1 (has-first 1 (phase_part p ended) [] refl) ∙ ap (part_after Pass 1) r.phase;
      slices = λ i. state_after-same Pass xs at (number_of_slice i) (Slice (slice_at s.journals i)) (r.slices i) refl;
      threads = λ u. state_after-same Pass xs at (number_of_thread u) (Worker (thread_at s u) (r.begun u) (r.found u) (r.given u)) (r.threads u) refl;
      begins = λ u is. (let low = r.begins u is in omega (arith, low));
      ends = r.ends;
      looked = λ u made op place is. let l = r.looked u made op place is in record { place = l.place; numbers = l.numbers };
    }
