-- The state after a happening, in parts.
use Rattle.std.proofs.Common.{◌≡◌, ◌⊎◌, inl, inr, get_or, ℕ, ◌<◌, ◌≤◌, ◌==◌, true, false, Bool, List, [], ◌∷◌, ◌++◌, length, set, Option, Some, refl, sym, ◌∙◌, ap, subst, arith, append-nil}
use Rattle.std.specs.Prelude.{if◌then◌else◌}
use Rattle.std.proofs.lemmas.Bool.{cases_Bool, cond-true, cond-false, eqb-true, eqb-false, cases_lt}
use Rattle.std.proofs.lemmas.List.{get_or-set_other, get_or-set_same, length-set, set-get_or}
use Rattle.std.proofs.lemmas.Option.{slice_get_within}
use Rattle.cache_core.specs.History.{EntryMayFollow}
use Rattle.cache_core.specs.declared.entry.SliceEntry.{SliceEntry}
use Rattle.machine.specs.declared.parameters.Parameters.{Parameters}
use Rattle.run_law.specs.Journals.{slice_at}
use Rattle.run_law.specs.Ops.{phase_in}
use Rattle.run_law.specs.Progress.{Progress}
use Rattle.run_law.specs.Slices.{shape_in}
use Rattle.run_law.specs.TreeHistory.{TreeEntryValue}
use Rattle.script_ops.specs.Values.{ScriptValue, op_at, ops_of}
use Rattle.script_ops.specs.declared.op.Op.{Op}
use Rattle.step_world.proofs.laws.AccessSteps.{some_can_be}
use Rattle.step_world.proofs.laws.LookedCounts.{others_looked}
use Rattle.step_world.proofs.laws.Schedules.{each_moment}
use Rattle.step_world.specs.Looked.{HasLooked}
use Rattle.step_world.proofs.laws.StepRows.{moves_set}
use Rattle.step_world.specs.Machine.{MachineValue, Moves, Notes, Steps, opening_thread, thread_at}
use Rattle.step_world.specs.Schedules.{HasEnded, Step}
use Rattle.step_world.specs.Moments.{IsRunSoFar, progress_by}
use Rattle.step_world.specs.declared.thread_state.ThreadState.{ThreadState}
use Rattle.step_world.specs.declared.thread_state.ThreadState.TheVariants.{Ready, Looking, Following, Tagged}
use Rattle.step_world.specs.declared.thread_state.Thread.{Thread}
use Rattle.schedule_law.specs.declared.part.GivenTag.{GivenTag}
use Rattle.schedule_law.specs.Parts.{AreReached, HappeningValue, IsReached, PartValue, Slice, Tree, WasGiven, Worker, begun_after, found_after, given_after, history_after, holder_after, number_of_slice, number_of_thread, list_after, part_after, thread_after}
use Rattle.shared_parts.proofs.laws.Parts.{state_after-else, state_after-there}
use Rattle.shared_parts.specs.Parts.{has, state_after}
use Rattle.schedule_law.proofs.Events.{Plays-push}
use Rattle.schedule_law.proofs.GivenTags.{WasGiven-after}

-- what is so far
pub so_far : (script : ScriptValue) (s : MachineValue) → 0 < script.machine.slices → IsReached script s → IsRunSoFar script s
so_far script s some r = each_moment script r.events r.first s some r.opening r.plays

-- what a happening of thread t, in slice i, makes of a state
abbrev pub next_state : HappeningValue → ℕ → ℕ → MachineValue → MachineValue
next_state e t i s = record {
  journals = record { tree = history_after e s.journals.tree; slices = set s.journals.slices i (list_after e (slice_at s.journals i)) };
  phase = s.phase;
  holder = holder_after e s.holder;
  threads = set s.threads t (thread_after e (thread_at s t));
}

-- what is among the parts that it happens to: what is not among them it leaves as it is
pub record AreStepParts (e : HappeningValue) (t i : ℕ) (xs : List (ℕ × PartValue)) : Type 0 where
  pub tree : has 0 xs ≡ false → (hs : List TreeEntryValue) (holder : Option ℕ) → (history_after e hs ≡ hs) × (holder_after e holder ≡ holder)
  pub no_phase : has 1 xs ≡ false
  pub slice : (k : ℕ) → has (number_of_slice k) xs ≡ true → (i == k) ≡ true
  pub no_slice : (k : ℕ) (es : List SliceEntry) → has (number_of_slice k) xs ≡ false → (i == k) ≡ true → list_after e es ≡ es
  pub thread : (u : ℕ) → has (number_of_thread u) xs ≡ (t == u)
  pub begun : (b : Bool) → begun_after e b ≡ b

-- where nothing is entered the slices are as they were
pub same_slices : (e : HappeningValue) (i : ℕ) (s : MachineValue) → ((es : List SliceEntry) → list_after e es ≡ es) → set s.journals.slices i (list_after e (slice_at s.journals i)) ≡ s.journals.slices
same_slices e i s id = ap (λ l. set s.journals.slices i l) (id (slice_at s.journals i)) ∙ set-get_or s.journals.slices i []

-- where the machine takes that step, the parts after it are those of a state that is reached
pub AreReached-state_after : (script : ScriptValue) → 0 < script.machine.slices → (e : HappeningValue) (t i : ℕ) (op : Op) (xs : List (ℕ × PartValue)) (at : ℕ → PartValue) (r : AreReached script at) → AreStepParts e t i xs
    → op_at script t (thread_at r.state t).next ≡ Some op → t < length r.state.threads → ((i < length r.state.journals.slices) ⊎ ((es : List SliceEntry) → list_after e es ≡ es)) → ((g : GivenTag) → given_after e (r.given t) ≡ Some g → (r.given t ≡ Some g) ⊎ WasGiven script r.state.journals.tree g) → Steps script t r.state (next_state e t i r.state)
    → ((op : Op) (made : ℕ) → (thread_at (next_state e t i r.state) t).state ≡ Looking made → op_at script t (thread_at (next_state e t i r.state) t).next ≡ Some op → HasLooked script (next_state e t i r.state) t op (found_after e (r.found t)))
    → AreReached script (state_after part_after e xs at)
AreReached-state_after script some e t i op xs at r of is there within gift step own =
    let s = r.state in
    let now : MachineValue = next_state e t i s in
    let found : ℕ → List ℕ = λ u. if t == u then found_after e (r.found u) else r.found u in
    let given : ℕ → Option GivenTag = λ u. if t == u then given_after e (r.given u) else r.given u in
    record {
      state = now;
      found = found;
      given = given;
      reached = record {
        events = r.reached.events ++ Step t ∷ [];
        first = r.reached.first;
        opening = r.reached.opening;
        plays = Plays-push script r.reached.events (Step t) r.reached.first s now r.reached.plays step;
      };
      count = length-set s.threads t (thread_after e (thread_at s t)) ∙ r.count;
      begun = r.begun;
      tree = elim (cases_Bool (has 0 xs)) [
        | inl h ↦ state_after-there part_after e xs at 0 h ∙ ap (part_after e 0) r.tree
        | inr h ↦
            let same = of.tree h s.journals.tree s.holder in
            state_after-else part_after e xs at 0 h ∙ (r.tree ∙ (λ j. Tree (sym same.0 j) (sym same.1 j)))
      ];
      phase = state_after-else part_after e xs at 1 of.no_phase ∙ r.phase;
      slices = λ k.
          let es : List SliceEntry = slice_at s.journals k in
          let here : (i == k) ≡ true → slice_at now.journals k ≡ list_after e es =
          λ same. let eq : i ≡ k = eqb-true i k same in
          elim within [
            | inl inside ↦ subst (λ n. slice_at now.journals n ≡ list_after e (slice_at s.journals n)) eq (get_or-set_same s.journals.slices i (list_after e (slice_at s.journals i)) [] inside)
            | inr id ↦ ap (λ l. get_or l k []) (same_slices e i s id) ∙ sym (id es)
          ] in
          let away : (i == k) ≡ false → slice_at now.journals k ≡ es =
          λ other. get_or-set_other s.journals.slices i k (list_after e (slice_at s.journals i)) [] (λ same. eqb-false i k other (sym same)) in
          elim (cases_Bool (has (number_of_slice k) xs)) [
            | inl h ↦ state_after-there part_after e xs at (number_of_slice k) h ∙ (ap (part_after e (number_of_slice k)) (r.slices k) ∙ ap Slice (sym (here (of.slice k h))))
            | inr h ↦
                state_after-else part_after e xs at (number_of_slice k) h ∙ (r.slices k ∙ ap Slice (elim (cases_Bool (i == k)) [
                  | inl same ↦ sym (here same ∙ of.no_slice k es h same)
                  | inr other ↦ sym (away other)
                ]))
          ];
      threads = λ u.
          let v : Thread = thread_at s u in
          elim (cases_Bool (t == u)) [
            | inl same ↦
                let eq : t ≡ u = eqb-true t u same in
                let now_at : thread_at now u ≡ thread_after e v = subst (λ n. thread_at now n ≡ thread_after e (thread_at s n)) eq (get_or-set_same s.threads t (thread_after e (thread_at s t)) opening_thread there) in
                state_after-there part_after e xs at (number_of_thread u) (of.thread u ∙ same)
                ∙ (ap (part_after e (number_of_thread u)) (r.threads u) ∙ (λ j. Worker (sym now_at j) (of.begun (r.begun u) j) (sym (cond-true (t == u) (found_after e (r.found u)) (r.found u) same) j) (sym (cond-true (t == u) (given_after e (r.given u)) (r.given u) same) j)))
            | inr other ↦
                let now_at : thread_at now u ≡ v = get_or-set_other s.threads t u (thread_after e (thread_at s t)) opening_thread (λ same. eqb-false t u other (sym same)) in
                state_after-else part_after e xs at (number_of_thread u) (of.thread u ∙ other)
                ∙ (r.threads u ∙ (λ j. Worker (sym now_at j) (r.begun u) (sym (cond-false (t == u) (found_after e (r.found u)) (r.found u) other) j) (sym (cond-false (t == u) (given_after e (r.given u)) (r.given u) other) j)))
          ];
      begins = r.begins;
      ended = r.ended;
      ends = λ u low.
          elim (cases_Bool (t == u)) [
            | inl same ↦
                let end : HasEnded script t (thread_at s t) = subst (λ n. HasEnded script n (thread_at s n)) (sym (eqb-true t u same)) (r.ends u low) in
                let left : (thread_at s t).next < length (ops_of script t) = slice_get_within (ops_of script t) (thread_at s t).next op is in
                absurd (omega (arith, end.0, left))
            | inr other ↦
                let now_at : thread_at now u ≡ thread_at s u = get_or-set_other s.threads t u (thread_after e (thread_at s t)) opening_thread (λ same. eqb-false t u other (sym same)) in
                subst (λ (v : Thread). HasEnded script u v) (sym now_at) (r.ends u low)
          ];
      gave = λ u g its.
          WasGiven-after script e s.journals.tree g
          (elim (cases_Bool (t == u)) [
            | inl same ↦
                elim (gift g (subst (λ n. given_after e (r.given n) ≡ Some g) (sym (eqb-true t u same)) (sym (cond-true (t == u) (given_after e (r.given u)) (r.given u) same) ∙ its))) [ inl old ↦ r.gave t g old | inr new ↦ new ]
            | inr other ↦ r.gave u g (sym (cond-false (t == u) (given_after e (r.given u)) (r.given u) other) ∙ its)
          ]);
      looked = λ u made its place is_its.
          elim (cases_Bool (t == u)) [
            | inl same ↦
                subst (λ l. HasLooked script now u its l) (sym (cond-true (t == u) (found_after e (r.found u)) (r.found u) same))
                (subst (λ n. (thread_at now n).state ≡ Looking made → op_at script n (thread_at now n).next ≡ Some its → HasLooked script now n its (found_after e (r.found n))) (eqb-true t u same) (own its made) place is_its)
            | inr other ↦
                let now_at : thread_at now u ≡ thread_at s u = get_or-set_other s.threads t u (thread_after e (thread_at s t)) opening_thread (λ same. eqb-false t u other (sym same)) in
                subst (λ l. HasLooked script now u its l) (sym (cond-false (t == u) (found_after e (r.found u)) (r.found u) other))
                (others_looked script u t its s now (r.found u) (λ same. eqb-false t u other (sym same)) (so_far script s some r.reached) step
                (r.looked u made its (sym (ap (λ (x : Thread). x.state) now_at) ∙ place) (sym (ap (λ (x : Thread). op_at script u x.next) now_at) ∙ is_its)))
          ];
    }

-- how many ops a thread has done
next-progress_by : (next : ℕ) (place : ThreadState) → (progress_by next place).next ≡ next
next-progress_by next Ready = refl
next-progress_by next (Looking made) = refl
next-progress_by next (Following made) = refl
next-progress_by next (Tagged tag) = refl

-- the phase of a thread that has an op left is the present one, once it is known to have begun
pub phase_in-present : (script : ScriptValue) → 0 < script.machine.slices → (s : MachineValue) (t : ℕ) (op : Op) → IsReached script s → op_at script t (thread_at s t).next ≡ Some op → phase_in script.phases t ≤ s.phase → phase_in script.phases t ≡ s.phase
phase_in-present script some s t op reached is low = elim (cases_lt (phase_in script.phases t) s.phase) [
  | inl before ↦
      let (all, can) = some_can_be s s.holder in
      let ended = ((so_far script s some reached).kept all can).in_phase.earlier t before in
      let number : (thread_at s t).next ≡ length (ops_of script t) = sym (next-progress_by (thread_at s t).next (thread_at s t).state) ∙ ap (λ (p : Progress). p.next) ended in
      let within : (thread_at s t).next < length (ops_of script t) = slice_get_within (ops_of script t) (thread_at s t).next op is in
      absurd (omega (arith, number, within))
  | inr at ↦ omega (arith, low, at)
]

-- the thread is at its new place, and the others are where they were
pub Moves-next_state : (e : HappeningValue) (t i : ℕ) (s : MachineValue) (now : Thread) → t < length s.threads → thread_after e (thread_at s t) ≡ now → Moves t now s (next_state e t i s)
Moves-next_state e t i s now there is = moves_set s (next_state e t i s) t now there (ap (λ (x : Thread). set s.threads t x) is) refl

-- the slice has the entry more
pub Notes-next_state : (m : Parameters) (e : HappeningValue) (x : SliceEntry) (t i : ℕ) (s : MachineValue) (list : List SliceEntry)
    → history_after e s.journals.tree ≡ s.journals.tree → ((es : List SliceEntry) → list_after e es ≡ es ++ x ∷ [])
    → slice_at s.journals i ≡ list → i < length s.journals.slices → EntryMayFollow (shape_in m i) list x → Notes m i x s (next_state e t i s)
Notes-next_state m e x t i s list tree adds is within may = record {
  tree = tree;
  count = length-set s.journals.slices i (list_after e (slice_at s.journals i));
  within = within;
  may = subst (λ l. EntryMayFollow (shape_in m i) l x) (sym is) may;
  slices = λ k.
      let es : List SliceEntry = slice_at s.journals k in
      elim (cases_Bool (k == i)) [
        | inl same ↦
            let eq : i ≡ k = sym (eqb-true k i same) in
            subst (λ n. slice_at (next_state e t i s).journals n ≡ list_after e (slice_at s.journals n)) eq (get_or-set_same s.journals.slices i (list_after e (slice_at s.journals i)) [] within)
            ∙ (adds es ∙ ap (λ l. es ++ l) (sym (cond-true (k == i) (x ∷ []) [] same)))
        | inr other ↦
            get_or-set_other s.journals.slices i k (list_after e (slice_at s.journals i)) [] (eqb-false k i other)
            ∙ (sym (append-nil es) ∙ ap (λ l. es ++ l) (sym (cond-false (k == i) (x ∷ []) [] other)))
      ];
}
