-- There is room in a slice for the entry that comes next.
use Rattle.std.proofs.Common.{◌≡◌, ℕ, ◌+◌, ◌-◌, ◌<◌, ◌≤◌, inl, inr, List, [], ◌∷◌, ◌++◌, length, filter, take, drop, Option, Some, None, refl, sym, ap, ◌∙◌, subst, arith}
use Rattle.std.specs.Prelude.{◌==◌, IsSome, if◌then◌else◌}
use Rattle.std.proofs.lemmas.Bool.{cases_Bool, eq-eqb}
use Rattle.std.proofs.lemmas.List.{length-append, length-map, length_push, take-append-drop}
use Rattle.std.proofs.lemmas.List.Elements.{filter-append}
use Rattle.std.proofs.lemmas.Option.{same_Some}
use Rattle.cache_core.specs.declared.entry.SliceEntry.{SliceEntry}
use Rattle.cache_core.specs.declared.entry.What.TheVariants as whats
use Rattle.machine.specs.Maps.{domain_of, line_of}
use Rattle.machine.specs.Slices.{slice_count, slice_of_line}
use Rattle.run_law.proofs.laws.CountedOps.{length-quotas}
use Rattle.run_law.proofs.laws.JobLists.{in_slice_append, in_slice_more, owed_are}
use Rattle.run_law.proofs.laws.Pairs.{both_eqb-true}
use Rattle.run_law.proofs.laws.Positions.{At-append, At-one}
use Rattle.run_law.proofs.laws.FreeTrees.{idle_not_begun}
use Rattle.run_law.specs.Growth.{HasMade, IsKept}
use Rattle.run_law.specs.Jobs.{Job, in_slice, jobs_of}
use Rattle.run_law.specs.Journals.{At, slice_at}
use Rattle.run_law.specs.Owed.{paid_by}
use Rattle.run_law.specs.Quotas.{quota, room_of}
use Rattle.run_law.specs.TreeHistory.{TreeEntryValue}
use Rattle.run_law.specs.Truth.{is_made_by}
use Rattle.script_ops.specs.Values.{IsLawful, ScriptValue, op_at}
use Rattle.script_ops.specs.declared.op.Op.{Op}
use Rattle.script_ops.specs.declared.op.Op.TheVariants as ops
use Rattle.step_world.proofs.laws.AccessSteps.{some_can_be}
use Rattle.step_world.specs.Machine.{MachineValue}
use Rattle.step_world.specs.Moments.{CanBe, IsRunSoFar, progress_in}
use Rattle.step_world.proofs.laws.EntryRooms.{none_yet, op-few, owed-few}

module _ (script : ScriptValue) (s : MachineValue) (lawful : IsLawful script) (so_far : IsRunSoFar script s) where
  module _ (all : List TreeEntryValue) (can : CanBe s s.holder all) (i : ℕ) (there : i < slice_count script.machine) where
    kept : IsKept script (record { tree = all; slices = s.journals.slices }) (progress_in s) s.phase
    kept = so_far.kept all can

    -- the entries of an op
    abbrev entries : ℕ → ℕ → List SliceEntry
    entries t o = filter (is_made_by t o) (slice_at s.journals i)

    -- the command that holds the tree has made less than its quota where a job in this slice is still to be done
    job-less : (t made k : ℕ) (c : Op) (job : Job) → op_at script t (progress_in s t).next ≡ Some c → (progress_in s t).made ≡ Some made → k + 1 ≡ length all → At (jobs_of script all k c) made job → i ≡ job.slice
        → length (entries t (progress_in s t).next) < quota script.machine i c
    job-less t made k c job is holds last at same =
        let n : ℕ = (progress_in s t).next in
        let some : IsSome (progress_in s t).made = subst (λ (o : Option ℕ). IsSome o) (sym holds) refl in
        let has : HasMade script (record { tree = all; slices = s.journals.slices }) i t n k c made = kept.in_order.under_way i t k made c there is holds last in
        let jobs = jobs_of script all k c in
        let one : in_slice i (take made jobs) ++ (if i == job.slice then job.owed ∷ [] else []) ≡ in_slice i (take made jobs) ++ job.owed ∷ [] = rw (eq-eqb i job.slice same) refl in
        let more : in_slice i (take (made + 1) jobs) ≡ in_slice i (take made jobs) ++ job.owed ∷ [] = in_slice_more i jobs made job at ∙ one in
        let parts : in_slice i jobs ≡ in_slice i (take (made + 1) jobs) ++ in_slice i (drop (made + 1) jobs) =
        ap (in_slice i) (sym (take-append-drop (made + 1) jobs)) ∙ in_slice_append i (take (made + 1) jobs) (drop (made + 1) jobs) in
        let count : length (in_slice i jobs) ≡ length (in_slice i (take (made + 1) jobs)) + length (in_slice i (drop (made + 1) jobs)) = ap length parts ∙ length-append (in_slice i (take (made + 1) jobs)) (in_slice i (drop (made + 1) jobs)) in
        omega (
          arith,
          length-map (entries t n) paid_by,
          ap length has,
          ap length more,
          length_push (in_slice i (take made jobs)) job.owed,
          count,
          ap length (owed_are script all i k c lawful.in_range.some_slice),
          owed-few script s lawful so_far all can i k t n c (omega (arith, last)) is,
        )

    -- where some op has made less than its quota, there is room
    module _ (t n : ℕ) (c : Op) (is : op_at script t n ≡ Some c) (few : length (entries t n) < quota script.machine i c) where
      -- an entry of it more
      abbrev more_entry : SliceEntry
      more_entry = record { thread = t; op = n; epoch = 0; what = whats.Raise }

      each_op : (p : ℕ) (e : SliceEntry) → At (slice_at s.journals i ++ more_entry ∷ []) p e → IsSome (op_at script e.thread e.op)
      each_op p e at = elim (At-append (slice_at s.journals i) (more_entry ∷ []) p e at) [
        | inl front ↦ kept.in_order.no_others i p e front
        | inr back ↦
            let same : e ≡ more_entry = (At-one more_entry (p - length (slice_at s.journals i)) e back.1).1 in
            subst (λ (x : SliceEntry). IsSome (op_at script x.thread x.op)) (sym same) (subst (λ (o : Option Op). IsSome o) (sym is) refl)
      ]

      each_few : (u o : ℕ) (d : Op) → op_at script u o ≡ Some d → length (filter (is_made_by u o) (slice_at s.journals i ++ more_entry ∷ [])) ≤ quota script.machine i d
      each_few u o d at =
          let split : length (filter (is_made_by u o) (slice_at s.journals i ++ more_entry ∷ [])) ≡ length (entries u o) + length (filter (is_made_by u o) (more_entry ∷ [])) =
          ap length (filter-append (is_made_by u o) (slice_at s.journals i) (more_entry ∷ [])) ∙ length-append (entries u o) (filter (is_made_by u o) (more_entry ∷ [])) in
          elim (cases_Bool (is_made_by u o more_entry)) [
            | inl mine ↦
                let both = both_eqb-true t u n o mine in
                let one : length (filter (is_made_by u o) (more_entry ∷ [])) ≡ 1 = rw mine refl in
                let same : c ≡ d = same_Some c d (sym is ∙ subst (λ x. op_at script t x ≡ Some d) (sym both.1) (subst (λ v. op_at script v o ≡ Some d) (sym both.0) at)) in
                let less : length (entries u o) < quota script.machine i d =
                subst (λ x. length (entries u o) < quota script.machine i x) same (subst (λ x. length (entries u x) < quota script.machine i c) both.1 (subst (λ v. length (entries v n) < quota script.machine i c) both.0 few)) in
                omega (arith, split, one, less)
            | inr other ↦
                let none : length (filter (is_made_by u o) (more_entry ∷ [])) ≡ 0 = rw other refl in
                omega (arith, split, none, op-few script s lawful so_far all can i there u o d at)
          ]

      room-more : length (slice_at s.journals i) < room_of script i
      unfolding room_of
      room-more =
          let all_few = length-quotas (λ (e : SliceEntry). e.thread) (λ (e : SliceEntry). e.op) script (quota script.machine i) (slice_at s.journals i ++ more_entry ∷ []) each_op each_few in
          omega (arith, all_few, length_push (slice_at s.journals i) more_entry)

  -- there is room for the next job of the command that holds the tree
  pub room-job : (all : List TreeEntryValue) → CanBe s s.holder all → (t made k : ℕ) (c : Op) (job : Job) → job.slice < slice_count script.machine → op_at script t (progress_in s t).next ≡ Some c
      → (progress_in s t).made ≡ Some made → k + 1 ≡ length all → At (jobs_of script all k c) made job → length (slice_at s.journals job.slice) < room_of script job.slice
  room-job all can t made k c job there is holds last at = room-more all can job.slice there t (progress_in s t).next c is (job-less all can job.slice there t made k c job is holds last at refl)

  -- there is room for the access of a thread that holds nothing
  pub room-access : (i t task cpu addr : ℕ) → i < slice_count script.machine → op_at script t (progress_in s t).next ≡ Some (ops.Access task cpu addr) → (progress_in s t).made ≡ None
      → i ≡ slice_of_line script.machine (domain_of script.machine cpu) (line_of addr) → length (slice_at s.journals i) < room_of script i
  room-access i t task cpu addr there is idle slice =
      let (all, can) = some_can_be s s.holder in
      let n : ℕ = (progress_in s t).next in
      let none : filter (is_made_by t n) (slice_at s.journals i) ≡ [] = none_yet script s lawful so_far all can i there t n (idle_not_begun (progress_in s t) n refl idle) in
      let one : quota script.machine i (ops.Access task cpu addr) ≡ 1 = rw (eq-eqb i (slice_of_line script.machine (domain_of script.machine cpu) (line_of addr)) slice) refl in
      room-more all can i there t n (ops.Access task cpu addr) is (omega (arith, ap length none, one))
