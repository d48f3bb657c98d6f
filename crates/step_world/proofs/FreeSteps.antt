-- A step of a thread while nobody holds the tree brings it nearer to its end.
use Rattle.std.proofs.Common.{◌≡◌, ℕ, ◌+◌, ◌-◌, ◌*◌, ◌<◌, true, false, ◌⊎◌, inl, inr, length, Option, Some, None, refl, sym, ap, ◌∙◌, subst, arith}
use Rattle.std.specs.Prelude.{IsSome, nat_lt}
use Rattle.std.proofs.lemmas.Bool.{MatchBool-at_false, MatchBool-at_true, cases_Bool, le-ltb}
use Rattle.std.proofs.lemmas.Option.{slice_get_within}
use Rattle.machine.specs.Maps.{line_of}
use Rattle.machine.specs.Slices.{slice_of_line}
use Rattle.cache_core.specs.History.{floor_of}
use Rattle.rc_base.specs.declared.names.Tag.{Tag}
use Rattle.run_law.specs.Growth.{tag_of}
use Rattle.run_law.specs.Journals.{JournalsValue, slice_at}
use Rattle.run_law.specs.Ops.{phase_in}
use Rattle.run_law.specs.TreeHistory.{tree_after}
use Rattle.script_ops.specs.Values.{ScriptValue, op_at, ops_of}
use Rattle.script_ops.specs.declared.op.Op.{Op}
use Rattle.script_ops.specs.declared.op.Op.TheVariants.{Access}
use Rattle.step_world.proofs.HeldSteps.{step_from_place}
use Rattle.step_world.proofs.laws.MachineStates.{nobody_holds}
use Rattle.step_world.proofs.SliceFloors.{floor_free}
use Rattle.step_world.proofs.StepParts.{place_of}
use Rattle.step_world.specs.Machine.{Begins, MachineValue, Reaches, StepFrom, Steps, TagsAgain, Touches, floor_for, thread_at}
use Rattle.step_world.specs.Moments.{IsRunSoFar, progress_in}
use Rattle.step_world.specs.Turns.{turns_from, turns_left}
use Rattle.step_world.specs.Worlds.{AreWithin, IsIn}
use Rattle.step_world.specs.declared.thread_state.ThreadState.{ThreadState}
use Rattle.step_world.specs.declared.thread_state.ThreadState.TheVariants.{Ready, Looking, Following, Tagged}
use Rattle.step_world.specs.declared.thread_state.Thread.{Thread}

-- its command has taken the tree, or it is nearer to its end
abbrev pub HasTurned : ScriptValue → ℕ → MachineValue → MachineValue → Type 0
HasTurned script t old new =
    ((new.holder ≡ Some t) × ((thread_at new t).next ≡ (thread_at old t).next) × (turns_left script old t ≡ 3 * (length (ops_of script t) - (thread_at old t).next) + 2))
    ⊎ ((new.holder ≡ None) × (turns_left script new t < turns_left script old t))

-- where a thread is, told otherwise
turns_at : (script : ScriptValue) (s : MachineValue) (t : ℕ) (v : Thread) (o : Option Op) → thread_at s t ≡ v → op_at script t v.next ≡ o → turns_left script s t ≡ 3 * (length (ops_of script t) - v.next) + turns_from script s o v.state
turns_at script s t v o there is =
    ap (λ (x : Thread). 3 * (length (ops_of script t) - x.next) + turns_from script s (op_at script t x.next) x.state) there ∙ ap (λ x. 3 * (length (ops_of script t) - v.next) + turns_from script s x v.state) is

-- by its place
turns_by : (script : ScriptValue) (s : MachineValue) (t : ℕ) (o : Option Op) (place : ThreadState) → (thread_at s t).state ≡ place → op_at script t (thread_at s t).next ≡ o
    → turns_left script s t ≡ 3 * (length (ops_of script t) - (thread_at s t).next) + turns_from script s o place
turns_by script s t o place at is =
    ap (λ x. 3 * (length (ops_of script t) - (thread_at s t).next) + turns_from script s x (thread_at s t).state) is ∙ ap (λ p. 3 * (length (ops_of script t) - (thread_at s t).next) + turns_from script s o p) at

-- before an op it is two turns
turns_ready : (script : ScriptValue) (s : MachineValue) (o : Option Op) → turns_from script s o Ready ≡ 2
turns_ready script s None = refl
turns_ready script s (Some (Access task cpu addr)) = refl
turns_ready script s (Some op) = refl

-- with a stale tag three
turns_stale : (script : ScriptValue) (s : MachineValue) (task cpu addr : ℕ) (tag : Tag) → nat_lt tag.epoch (floor_for script s tag addr) ≡ true → turns_from script s (Some (Access task cpu addr)) (Tagged tag) ≡ 3
turns_stale script s task cpu addr tag less = rw less refl

-- and with a fresh one one
turns_fresh : (script : ScriptValue) (s : MachineValue) (task cpu addr : ℕ) (tag : Tag) → nat_lt tag.epoch (floor_for script s tag addr) ≡ false → turns_from script s (Some (Access task cpu addr)) (Tagged tag) ≡ 1
turns_fresh script s task cpu addr tag more = rw more refl

module _ (script : ScriptValue) (t : ℕ) (old new : MachineValue) (so_far : IsRunSoFar script old) (free : old.holder ≡ None) where
  abbrev n : ℕ
  n = (thread_at old t).next

  abbrev count : ℕ
  count = length (ops_of script t)

  -- Take or Tag
  begins_turn : (op : Op) → op_at script t n ≡ Some op → (thread_at old t).state ≡ Ready → Begins script t op None old new → HasTurned script t old new
  begins_turn (Access task cpu addr) is at tags =
      let tag : Tag = tag_of script.machine (tree_after script old.journals.tree) (length old.journals.tree) task cpu in
      let floor = floor_free script old (slice_of_line script.machine tag.domain (line_of addr)) free so_far in
      let same : floor_for script new tag addr ≡ floor_for script old tag addr = ap (λ (j : JournalsValue). floor_of (slice_at j (slice_of_line script.machine tag.domain (line_of addr)))) tags.journals in
      let fresh : nat_lt tag.epoch (floor_for script new tag addr) ≡ false = le-ltb tag.epoch (floor_for script new tag addr) (omega (arith, same, floor)) in
      let before : turns_left script old t ≡ 3 * (count - n) + 2 = turns_by script old t (Some (Access task cpu addr)) Ready at is in
      let now : turns_left script new t ≡ 3 * (count - n) + turns_from script new (Some (Access task cpu addr)) (Tagged tag) = turns_at script new t (record { next = n; state = Tagged tag }) (Some (Access task cpu addr)) tags.moves.there is in
      inr (tags.holder ∙ free, omega (arith, before, now, turns_fresh script new task cpu addr tag fresh))
  begins_turn op is at takes =
      let before = turns_by script old t (Some op) Ready at is in
      inl (takes.holder, ap (λ (v : Thread). v.next) takes.moves.there, before)

  -- a touch
  reaches_turn : (tag : Tag) (task cpu addr : ℕ) → op_at script t n ≡ Some (Access task cpu addr) → (thread_at old t).state ≡ Tagged tag → Reaches script t tag task cpu addr old new → HasTurned script t old new
  reaches_turn tag task cpu addr is at reaches =
      let before : turns_left script old t ≡ 3 * (count - n) + turns_from script old (Some (Access task cpu addr)) (Tagged tag) = turns_by script old t (Some (Access task cpu addr)) (Tagged tag) at is in
      let below : n < count = slice_get_within (ops_of script t) n (Access task cpu addr) is in
      elim (cases_Bool (nat_lt tag.epoch (floor_for script old tag addr))) [
        | inl less ↦
            let again = MatchBool-at_true (TagsAgain t old new) (Touches script t tag task cpu addr old new) less reaches in
            let now : turns_left script new t ≡ 3 * (count - n) + 2 = turns_at script new t (record { next = n; state = Ready }) (Some (Access task cpu addr)) again.moves.there is in
            inr (again.holder ∙ free, omega (arith, before, now, turns_stale script old task cpu addr tag less))
        | inr fresh ↦
            let touches = MatchBool-at_false (TagsAgain t old new) (Touches script t tag task cpu addr old new) fresh reaches in
            let now : turns_left script new t ≡ 3 * (count - (n + 1)) + turns_from script new (op_at script t (n + 1)) Ready = turns_at script new t (record { next = n + 1; state = Ready }) (op_at script t (n + 1)) touches.moves.there refl in
            inr (touches.holder ∙ free, omega (arith, before, now, turns_fresh script old task cpu addr tag fresh, turns_ready script new (op_at script t (n + 1)), below))
      ]

  -- with a tag
  tagged_turn : (op : Op) (tag : Tag) → IsIn (Tagged tag) (Some op) → op_at script t n ≡ Some op → (thread_at old t).state ≡ Tagged tag → StepFrom script t op (Tagged tag) old new → HasTurned script t old new
  tagged_turn (Access task cpu addr) tag inside is at reaches = reaches_turn tag task cpu addr is at reaches
  tagged_turn op tag inside is at same = absurd inside

  -- a step of a thread that is not at its end
  pub free_step : AreWithin script old → (op : Op) → phase_in script.phases t ≡ old.phase → op_at script t n ≡ Some op → Steps script t old new → HasTurned script t old new
  free_step within op here is step = at (thread_at old t).state refl
    where
      idle : (made : ℕ) (place : ThreadState) → (thread_at old t).state ≡ place → IsSome (progress_in old t).made → HasTurned script t old new
      idle made place at some = absurd (nobody_holds old so_far.held free t some)

      at : (place : ThreadState) → (thread_at old t).state ≡ place → HasTurned script t old new
      at Ready place = begins_turn op is place (subst (λ o. Begins script t op o old new) free (step_from_place script t op Ready old new here is place step))
      at (Looking made) place = idle made (Looking made) place (subst (λ p. IsSome p.made) (sym (place_of old t (Looking made) place)) refl)
      at (Following made) place = idle made (Following made) place (subst (λ p. IsSome p.made) (sym (place_of old t (Following made) place)) refl)
      at (Tagged tag) place = tagged_turn op tag (subst (λ o. IsIn (Tagged tag) o) is (subst (λ p. IsIn p (op_at script t n)) place (within t).1)) is place (step_from_place script t op (Tagged tag) old new here is place step)

  -- after its command the thread is nearer to its end too
  pub turns_left-after_command : (last : MachineValue) → turns_left script old t ≡ 3 * (count - n) + 2 → n < count → thread_at last t ≡ (record { next = n + 1; state = Ready }) → turns_left script last t < turns_left script old t
  turns_left-after_command last before below there =
      let now : turns_left script last t ≡ 3 * (count - (n + 1)) + turns_from script last (op_at script t (n + 1)) Ready = turns_at script last t (record { next = n + 1; state = Ready }) (op_at script t (n + 1)) there refl in
      omega (arith, before, now, turns_ready script last (op_at script t (n + 1)), below)

-- a thread before an op that has come further is nearer to its end
pub turns_left-further : (script : ScriptValue) (t m : ℕ) (old new : MachineValue) → (thread_at old t).state ≡ Ready → (thread_at old t).next < length (ops_of script t) → (thread_at old t).next < m
    → thread_at new t ≡ (record { next = m; state = Ready }) → turns_left script new t < turns_left script old t
turns_left-further script t m old new place below further there =
    let n : ℕ = (thread_at old t).next in
    let before = turns_by script old t (op_at script t n) Ready place refl in
    let now = turns_at script new t (record { next = m; state = Ready }) (op_at script t m) there refl in
    omega (arith, before, now, turns_ready script old (op_at script t n), turns_ready script new (op_at script t m), below, further)
