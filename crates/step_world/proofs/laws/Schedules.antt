-- Every schedule: the opening state, each event, and the end.
use Rattle.std.proofs.Common.{◌≡◌, ℕ, ◌+◌, ◌<◌, ◌≤◌, List, [], ◌∷◌, length, get_or, Option, Some, None, refl, sym, ap, ◌∙◌, subst, arith}
use Rattle.std.specs.Prelude.{IsSome}
use Rattle.cache_core.specs.History.{IsLegal}
use Rattle.run_law.proofs.laws.FreeTrees.{idle}
use Rattle.run_law.specs.Growth.{AreLegal}
use Rattle.run_law.specs.Jobs.{looks_of}
use Rattle.run_law.specs.Ops.{phase_in}
use Rattle.run_law.specs.Journals.{At, JournalsValue}
use Rattle.run_law.specs.Progress.{Progress}
use Rattle.run_law.specs.Runs.{IsRun}
use Rattle.run_law.specs.Slices.{shape_in}
use Rattle.run_law.specs.TreeHistory.{IsLegalTree, TreeEntryValue}
use Rattle.script_ops.specs.Values.{ScriptValue, op_at}
use Rattle.script_ops.specs.declared.op.Op.{Op}
use Rattle.run_law.proofs.laws.Endings.{op_phase, opening_kept, phase_keeps, run_when_over}
use Rattle.run_law.proofs.laws.OpMarks.{not_some}
use Rattle.step_world.proofs.laws.MachineStates.{can_be_same, can_be_tree, IsKept-same, tree_can_be}
use Rattle.step_world.proofs.laws.AccessSteps.{some_can_be}
use Rattle.step_world.proofs.KeptSteps.{step_keeps}
use Rattle.step_world.specs.Machine.{MachineValue, opening_thread, thread_at}
use Rattle.step_world.specs.Schedules.{Event, GoesOn, Happens, IsOpening, IsOver, Next, Plays, Step}
use Rattle.step_world.specs.declared.thread_state.ThreadState.{ThreadState}
use Rattle.step_world.specs.declared.thread_state.ThreadState.TheVariants.{Ready, Looking, Following}
use Rattle.step_world.specs.declared.thread_state.Thread.{Thread}
use Rattle.step_world.specs.Moments.{CanBe, IsRunSoFar, progress_by, progress_in}
use Rattle.lists.proofs.Options.{not_some-none}

-- ---- the opening state

-- how far each thread is at first
opening_at : (s : MachineValue) (t : ℕ) → thread_at s t ≡ opening_thread → progress_in s t ≡ idle 0
opening_at s t is = ap (λ (v : Thread). progress_by v.next v.state) is

-- where each thread is at first
opening_place : (s : MachineValue) (t : ℕ) (place : ThreadState) → thread_at s t ≡ opening_thread → (thread_at s t).state ≡ place → Ready ≡ place
opening_place s t place is at = sym (ap (λ (v : Thread). v.state) is) ∙ at

-- places differ
ready_not_looking : (made : ℕ) → Ready ≡ Looking made → ⊥
ready_not_looking made h = absurd cc

-- places differ
ready_not_following : (made : ℕ) → Ready ≡ Following made → ⊥
ready_not_following made h = absurd cc

-- the opening state
pub opening_so_far : (script : ScriptValue) (s : MachineValue) → IsOpening script s → IsRunSoFar script s
opening_so_far script s opening = record {
  legal = record {
    all_slices = opening.count;
    tree_legal = subst (λ hs. IsLegalTree script hs) (sym opening.tree) tt;
    slices_legal = λ i within. subst (λ es. IsLegal (shape_in script.machine i) es) (sym (opening.slices i)) tt;
    looks_matched = λ k h there. absurd (let wrong : At {A = TreeEntryValue} [] k h = subst (λ hs. At hs k h) opening.tree there in cc);
  };
  held = λ t. (
    λ some. absurd (not_some (progress_in s t).made (ap (λ (x : Progress). x.made) (opening_at s t (opening.threads t))) some),
    λ is. absurd (not_some-none s.holder t opening.holder is),
  );
  looking = λ t made op place is. absurd (ready_not_looking made (opening_place s t (Looking made) (opening.threads t) place));
  following = λ t made k op place is last. absurd (ready_not_following made (opening_place s t (Following made) (opening.threads t) place));
  kept = λ all can.
      let same : all ≡ s.journals.tree = can_be_tree s s.holder all opening.holder can in
      IsKept-same script s.journals.tree all s.journals.slices s.journals.slices (progress_in s) (progress_in s) 0 s.phase same refl (λ u. refl) opening.phase
      (opening_kept script s.journals (progress_in s) opening.tree opening.slices (λ t. opening_at s t (opening.threads t)));
}

-- ---- the next phase

-- the next phase
pub next_so_far : (script : ScriptValue) (old new : MachineValue) → GoesOn script old new → IsRunSoFar script old → IsRunSoFar script new
next_so_far script old new goes so_far =
    let tree : new.journals.tree ≡ old.journals.tree = ap (λ (j : JournalsValue). j.tree) goes.journals in
    let slices : new.journals.slices ≡ old.journals.slices = ap (λ (j : JournalsValue). j.slices) goes.journals in
    let same : (t : ℕ) → thread_at new t ≡ thread_at old t = λ t. ap (λ threads. get_or threads t opening_thread) goes.threads in
    let at : (t : ℕ) → progress_in new t ≡ progress_in old t = λ t. ap (λ (v : Thread). progress_by v.next v.state) (same t) in
    record {
      legal = subst (λ j. AreLegal script j) (sym goes.journals) so_far.legal;
      held = λ t. (
        λ some. goes.holder ∙ (so_far.held t).0 (subst (λ (x : Progress). IsSome x.made) (at t) some),
        λ is. subst (λ (x : Progress). IsSome x.made) (sym (at t)) ((so_far.held t).1 (sym goes.holder ∙ is)),
      );
      looking = λ t made op place is.
          subst (λ hs. made ≤ length (looks_of script hs (length hs) op)) (sym tree)
          (so_far.looking t made op (sym (ap (λ (v : Thread). v.state) (same t)) ∙ place) (subst (λ (v : Thread). op_at script t v.next ≡ Some op) (same t) is));
      following = λ t made k op place is last.
          subst (λ hs. length (looks_of script hs k op) ≤ made) (sym tree)
          (so_far.following t made k op (sym (ap (λ (v : Thread). v.state) (same t)) ∙ place) (subst (λ (v : Thread). op_at script t v.next ≡ Some op) (same t) is) (last ∙ ap length tree));
      kept = λ all can.
          let could : CanBe old old.holder all = can_be_same old new all old.holder tree (λ u is. same u) (subst (λ o. CanBe new o all) goes.holder can) in
          IsKept-same script all all old.journals.slices new.journals.slices (progress_in old) (progress_in new) (old.phase + 1) new.phase refl slices at goes.phase
          (phase_keeps script (record { tree = all; slices = old.journals.slices }) (progress_in old) old.phase
          (λ t is. let ended = goes.ended t is in ap (progress_by (thread_at old t).next) ended.1 ∙ ap (λ n. idle n) ended.0) (so_far.kept all could));
    }

-- ---- a schedule

-- one event
event_keeps : (script : ScriptValue) (e : Event) (old new : MachineValue) → 0 < script.machine.slices → Happens script e old new → IsRunSoFar script old → IsRunSoFar script new
event_keeps script (Step t) old new some step so_far = step_keeps script t old new some step so_far
event_keeps script Next old new some goes so_far = next_so_far script old new goes so_far

-- so many events
pub plays_keep : (script : ScriptValue) (events : List Event) (old new : MachineValue) → 0 < script.machine.slices → Plays script events old new → IsRunSoFar script old → IsRunSoFar script new
plays_keep script [] old new some same so_far = subst (λ s. IsRunSoFar script s) (sym same) so_far
plays_keep script (e ∷ es) old new some (between, happens, plays) so_far = plays_keep script es between new some plays (event_keeps script e old between some happens so_far)

-- ---- the end

-- at the end nobody holds the tree
end_can_be : (script : ScriptValue) (s : MachineValue) (holder : Option ℕ) → s.holder ≡ holder → length script.phases ≤ s.phase → IsRunSoFar script s → (all : List TreeEntryValue) → CanBe s s.holder all → holder ≡ None
end_can_be script s None is over so_far all can = refl
end_can_be script s (Some t) is over so_far all can =
    let kept = so_far.kept all can in
    let holds : IsSome (progress_in s t).made = (so_far.held t).1 is in
    let its : IsSome (op_at script t (progress_in s t).next) = kept.in_order.holds_op t holds in
    absurd (not_some (progress_in s t).made (ap (λ (x : Progress). x.made) (kept.in_phase.earlier t (omega (arith, there_phase script t (progress_in s t).next (op_at script t (progress_in s t).next) refl its, over)))) holds)
  where
    there_phase : (script : ScriptValue) (t n : ℕ) (o : Option Op) → op_at script t n ≡ o → IsSome o → phase_in script.phases t < length script.phases
    there_phase script t n None is some = absurd cc
    there_phase script t n (Some c) is some = op_phase script t n c is

-- at the end the journals are a run
pub run_at_end : (script : ScriptValue) (s : MachineValue) → IsOver script s → IsRunSoFar script s → IsRun script s.journals
run_at_end script s over so_far =
    let first = some_can_be s s.holder in
    let free : s.holder ≡ None = end_can_be script s s.holder refl over so_far first.0 first.1 in
    run_when_over script s.journals (progress_in s) s.phase over so_far.legal.all_slices so_far.legal.tree_legal so_far.legal.slices_legal so_far.legal.looks_matched
    (so_far.kept s.journals.tree (tree_can_be s s.holder free))

-- at every moment of every schedule
pub each_moment : (script : ScriptValue) (events : List Event) (first last : MachineValue) → 0 < script.machine.slices → IsOpening script first → Plays script events first last → IsRunSoFar script last
each_moment script events first last some opening plays = plays_keep script events first last some plays (opening_so_far script first opening)

-- and at its end
pub each_end : (script : ScriptValue) (events : List Event) (first last : MachineValue) → 0 < script.machine.slices → IsOpening script first → Plays script events first last → IsOver script last → IsRun script last.journals
each_end script events first last some opening plays over = run_at_end script last over (each_moment script events first last some opening plays)
