-- The parts of live threads before the first step.
use Rattle.std.proofs.Common.{◌≡◌, ℕ, zero, suc, ◌+◌, ◌%◌, ◌==◌, true, false, Bool, [], length, None, refl, ◌∙◌, ap, subst, arith}
use Rattle.std.specs.Prelude.{if◌then◌else◌}
use Rattle.std.proofs.Math.Path.{fun_ext}
use Rattle.std.proofs.lemmas.Bool.{cond-false, cond-true, eq-eqb, ne_eqb}
use Rattle.machine.specs.Slices.{slice_count}
use Rattle.script_ops.specs.Values.{ScriptValue, threads_of}
use Rattle.step_world.specs.Machine.{opening_thread}
use Rattle.schedule_law.specs.LiveParts.{first, first_slices, first_threads, part_of, reached, shown}
use Rattle.schedule_law.specs.Parts as p
use Rattle.schedule_law.specs.Parts.{AreReached, number_of_slice, number_of_thread}
use Rattle.schedule_law.specs.declared.part.Part.{Part}
use Rattle.schedule_law.specs.declared.part.Part.TheVariants as parts
use Rattle.schedule_law.proofs.ReachedParts.{first_part, AreReached-first_part}
use Rattle.shared_parts.specs.Parts.{Fits}
use Rattle.shared_parts.proofs.laws.Parts.{Fits-append}

-- the part with each number
live_first : ℕ → Part
live_first k = if k == 0 then parts.Tree [] None else if k == 1 then parts.Phase 0 0 else if k % 2 == 0 then parts.Slice [] else parts.Worker opening_thread false [] None

live_first-slice : (i : ℕ) → live_first (number_of_slice i) ≡ parts.Slice []
unfolding live_first
live_first-slice i =
    let k : ℕ = number_of_slice i in
    cond-false (k == 0) (parts.Tree [] None) (if k == 1 then parts.Phase 0 0 else if k % 2 == 0 then parts.Slice [] else parts.Worker opening_thread false [] None) (ne_eqb k 0 (λ h. omega (arith, h)))
    ∙ (cond-false (k == 1) (parts.Phase 0 0) (if k % 2 == 0 then parts.Slice [] else parts.Worker opening_thread false [] None) (ne_eqb k 1 (λ h. omega (arith, h)))
    ∙ cond-true (k % 2 == 0) (parts.Slice []) (parts.Worker opening_thread false [] None) (eq-eqb (k % 2) 0 (omega arith)))

live_first-thread : (t : ℕ) → live_first (number_of_thread t) ≡ parts.Worker opening_thread false [] None
unfolding live_first
live_first-thread t =
    let k : ℕ = number_of_thread t in
    cond-false (k == 0) (parts.Tree [] None) (if k == 1 then parts.Phase 0 0 else if k % 2 == 0 then parts.Slice [] else parts.Worker opening_thread false [] None) (ne_eqb k 0 (λ h. omega (arith, h)))
    ∙ (cond-false (k == 1) (parts.Phase 0 0) (if k % 2 == 0 then parts.Slice [] else parts.Worker opening_thread false [] None) (ne_eqb k 1 (λ h. omega (arith, h)))
    ∙ cond-false (k % 2 == 0) (parts.Slice []) (parts.Worker opening_thread false [] None) (ne_eqb (k % 2) 0 (λ h. omega (arith, h))))

live_first-tree : live_first 0 ≡ parts.Tree [] None
unfolding live_first
live_first-tree = refl

live_first-phase : live_first 1 ≡ parts.Phase 0 0
unfolding live_first
live_first-phase = refl

Fits-slices : (i n : ℕ) → Fits live_first (first_slices i n)
Fits-slices i zero = tt
Fits-slices i (suc n) = (live_first-slice i, Fits-slices (i + 1) n)

Fits-threads : (t n : ℕ) → Fits live_first (first_threads t n)
Fits-threads t zero = tt
Fits-threads t (suc n) = (live_first-thread t, Fits-threads (t + 1) n)

-- its parts are those of the law
first_part-live_first : (k : ℕ) → first_part k ≡ part_of (live_first k)
unfolding first_part live_first
first_part-live_first k = chosen (k == 0) (parts.Tree [] None) (if k == 1 then parts.Phase 0 0 else if k % 2 == 0 then parts.Slice [] else parts.Worker opening_thread false [] None)
    (chosen (k == 1) (parts.Phase 0 0) (if k % 2 == 0 then parts.Slice [] else parts.Worker opening_thread false [] None)
    (chosen (k % 2 == 0) (parts.Slice []) (parts.Worker opening_thread false [] None) refl))
  where
    chosen : (b : Bool) (x y : Part) {z : p.PartValue} → z ≡ part_of y → (if b then part_of x else z) ≡ part_of (if b then x else y)
    chosen true x y same = refl
    chosen false x y same = same

-- so the state is reached
reached-live_first : (script : ScriptValue) → reached script live_first
reached-live_first script = subst (λ (f : ℕ → p.PartValue). AreReached script f) (fun_ext first_part-live_first) (AreReached-first_part script)

pub live_opens : (script : ScriptValue) → (at : ℕ → Part) × reached script at × Fits at (first script) × (shown (at 0) ≡ 0)
live_opens script = (
  live_first,
  reached-live_first script,
  (live_first-tree, (live_first-phase, Fits-append live_first (first_slices 0 (slice_count script.machine)) (first_threads 0 (length (threads_of script))) (Fits-slices 0 (slice_count script.machine)) (Fits-threads 0 (length (threads_of script))))),
  ap shown live_first-tree,
)
