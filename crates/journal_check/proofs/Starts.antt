-- Ops that end before others begin, phase by phase.
use Rattle.std.proofs.Common.{◌≡◌, ℕ, ◌+◌, ◌<◌, ◌≤◌, ◌⊎◌, ◌↔◌, inl, inr, max, List, length, Some, refl, ◌∙◌, subst, arith}
use Rattle.std.proofs.lemmas.Bool.{cases_lt}
use Rattle.std.proofs.lemmas.Option.{slice_get_within}
use Rattle.journal_check.proofs.laws.Told.{IsSome-some, number_at-op, op_at-number, some-IsSome}
use Rattle.journal_check.specs.Marks.{AreInOrderUpTo, AreStarts, BeforePhase, EndsAt, IsEndOf, IsThreadEnd, OfPhase, PhaseInOrder, StartsInOrder, stop_of}
use Rattle.journal_check.specs.Tables.{IsTableOf, number_at, row_of}
use Rattle.run_law.specs.Growth.{MarksInOrder}
use Rattle.run_law.specs.Journals.{At, JournalsValue}
use Rattle.run_law.specs.Ops.{Precedes, phase_in}
use Rattle.script_ops.specs.Values.{ScriptValue, op_at, ops_of}

module _ (script : ScriptValue) (table : List (List ℕ)) (barrier : ℕ) where
  -- no threads
  pub IsEndOf-none : (Passes : ℕ → Type 0) → ((t : ℕ) → Passes t → ⊥) → IsEndOf script table Passes barrier barrier
  IsEndOf-none Passes none = record {
    after_barrier = omega arith;
    after_ops = λ t o stop passes ended. absurd (none t passes);
    there = inl refl;
  }

  -- other words for the same threads
  pub IsEndOf-same : (P Q : ℕ → Type 0) (end : ℕ) → ((t : ℕ) → P t → Q t) → ((t : ℕ) → Q t → P t) → IsEndOf script table P barrier end → IsEndOf script table Q barrier end
  IsEndOf-same P Q end to back is = record {
    after_barrier = is.after_barrier;
    after_ops = λ t o stop passes ended. is.after_ops t o stop (back t passes) ended;
    there = elim is.there [ inl none ↦ inl none | inr it ↦ inr (it.0, it.1, to it.0 it.2, it.3) ];
  }

  -- one thread more
  pub IsEndOf-more : (P Q : ℕ → Type 0) (end own thread : ℕ) → ((t : ℕ) → P t → Q t) → Q thread → ((t : ℕ) → Q t → P t ⊎ (t ≡ thread)) → IsTableOf script table
      → IsEndOf script table P barrier end → IsThreadEnd (ops_of script thread) (row_of table thread) barrier (length (ops_of script thread)) own → IsEndOf script table Q barrier (max end own)
  IsEndOf-more P Q end own thread to here cases_of table_of is ended = record {
    after_barrier = (let bound = is.after_barrier in omega arith);
    after_ops = λ t o stop passes it. elim (cases_of t passes) [
      | inl old ↦ (let bound = is.after_ops t o stop old it in omega arith)
      | inr new ↦
          let there : At (ops_of script thread) o it.command = subst (λ u. op_at script u o ≡ Some it.command) new it.is in
          let began : At (row_of table thread) o it.start = subst (λ u. number_at table u o ≡ Some it.start) new it.began in
          let within : o < length (ops_of script thread) = slice_get_within (ops_of script thread) o it.command there in
          let bound = ended.after_ops o it.start it.command within there began in
          let is_stop = it.ended in
          omega arith
    ];
    there = elim (cases_lt end own) [
      | inl less ↦ elim ended.there [
        | inl none ↦ absurd (let bound = is.after_barrier in omega arith)
        | inr it ↦ inr (thread, it.0, here, record { start = it.1; command = it.2; is = it.4; began = it.5; ended = (let last = it.6 in omega arith) })
      ]
      | inr more ↦ elim is.there [
        | inl none ↦ inl (omega arith)
        | inr it ↦
            let ended_at = it.3 in
            inr (it.0, it.1, to it.0 it.2, record { start = ended_at.start; command = ended_at.command; is = ended_at.is; began = ended_at.began; ended = (let last = ended_at.ended in omega arith) })
      ]
    ];
  }

-- ---- phases

-- before the first
pub AreInOrderUpTo-zero : (script : ScriptValue) (table : List (List ℕ)) → AreInOrderUpTo script table 0
AreInOrderUpTo-zero script table = λ thread op later_thread later_op stop start before ended began precedes. absurd (omega (arith, before))

pub IsEndOf-zero : (script : ScriptValue) (table : List (List ℕ)) → IsEndOf script table (BeforePhase script 0) 0 0
IsEndOf-zero script table = IsEndOf-none script table 0 (BeforePhase script 0) (λ t before. omega (arith, before))

module _ (script : ScriptValue) (table : List (List ℕ)) (phase barrier : ℕ) (before_end : IsEndOf script table (BeforePhase script phase) 0 barrier) where
  -- one phase more, each thread of which is in order
  pub AreInOrderUpTo-suc : PhaseInOrder script table phase barrier → AreInOrderUpTo script table phase → AreInOrderUpTo script table (phase + 1)
  AreInOrderUpTo-suc order earlier = λ thread op later_thread later_op stop start before ended began precedes.
      elim (cases_lt (phase_in script.phases later_thread) phase) [
        | inl old ↦ earlier thread op later_thread later_op stop start old ended began precedes
        | inr new ↦
            let here : phase_in script.phases later_thread ≡ phase = omega (arith, before) in
            own thread op later_thread later_op stop start here ended began precedes
      ]
    where
      own : (thread op later_thread later_op stop start : ℕ) → phase_in script.phases later_thread ≡ phase → EndsAt script table thread op stop → number_at table later_thread later_op ≡ Some start
          → Precedes script thread op later_thread later_op → stop ≤ start
      own thread op later_thread later_op stop start here ended began (inl same) =
          let there : At (ops_of script later_thread) op ended.command = subst (λ u. op_at script u op ≡ Some ended.command) same.0 ended.is in
          let its : At (row_of table later_thread) op ended.start = subst (λ u. number_at table u op ≡ Some ended.start) same.0 ended.began in
          let bound = (order later_thread here).chain op later_op ended.start start ended.command same.1 there its began in
          let last = ended.ended in
          omega arith
      own thread op later_thread later_op stop start here ended began (inr sooner) =
          let bound = before_end.after_ops thread op stop (omega (arith, sooner, here)) ended in
          let after = (order later_thread here).after_barrier later_op start began in
          omega arith

  -- where all are in order, so is each phase
  pub PhaseInOrder-all : StartsInOrder script table → IsTableOf script table → PhaseInOrder script table phase barrier
  PhaseInOrder-all order table_of = λ thread here. record {
    after_barrier = λ o n at. elim before_end.there [
      | inl none ↦ omega arith
      | inr it ↦ (let ended : EndsAt script table it.0 it.1 barrier = it.3 in order it.0 it.1 thread o barrier n ended at (inr (let sooner = it.2 in omega (arith, sooner, here))))
    ];
    chain = λ o p n m c less is at there. order thread o thread p (stop_of c n) m (record { start = n; command = c; is = is; began = at; ended = refl }) there (inl (refl, less));
  }

  -- the last mark of one phase more
  pub IsEndOf-phase : (end : ℕ) → IsEndOf script table (OfPhase script phase) barrier end → IsEndOf script table (BeforePhase script (phase + 1)) 0 end
  IsEndOf-phase end own = record {
    after_barrier = omega arith;
    after_ops = λ t o stop passes ended. elim (cases_lt (phase_in script.phases t) phase) [
      | inl old ↦ (let bound = before_end.after_ops t o stop old ended in let after = own.after_barrier in omega arith)
      | inr new ↦ own.after_ops t o stop (omega (arith, passes)) ended
    ];
    there = elim own.there [
      | inl none ↦ elim before_end.there [
        | inl zero_end ↦ inl (none ∙ zero_end)
        | inr it ↦
            let ended_at = it.3 in
            inr (it.0, it.1, (let sooner = it.2 in omega arith), record { start = ended_at.start; command = ended_at.command; is = ended_at.is; began = ended_at.began; ended = none ∙ ended_at.ended })
      ]
      | inr it ↦ inr (it.0, it.1, (let here = it.2 in omega arith), it.3)
    ];
  }

-- all phases
pub StartsInOrder-all : (script : ScriptValue) (table : List (List ℕ)) (count : ℕ) → ((t o n : ℕ) → number_at table t o ≡ Some n → phase_in script.phases t < count) → AreInOrderUpTo script table count → StartsInOrder script table
StartsInOrder-all script table count all order = λ thread op later_thread later_op stop start ended began precedes. order thread op later_thread later_op stop start (all later_thread later_op start began) ended began precedes

-- ---- the marks of the journals

-- by the table of starts
pub StartsInOrder-marks : (script : ScriptValue) (j : JournalsValue) (table : List (List ℕ)) → AreStarts script j table → StartsInOrder script table ↔ MarksInOrder script j
StartsInOrder-marks script j table starts = (to, back)
  where
    to : StartsInOrder script table → MarksInOrder script j
    to order t o u p start stop later_start later_stop c d is_c is_d before marks later_marks =
        let first = number_at-op script table t o starts.table_of (IsSome-some (op_at script t o) c is_c) in
        let second = number_at-op script table u p starts.table_of (IsSome-some (op_at script u p) d is_d) in
        let own = starts.only t o first.0 start stop c is_c first.1 marks in
        let its = starts.only u p second.0 later_start later_stop d is_d second.1 later_marks in
        let bound = order t o u p (stop_of c first.0) second.0 (record { start = first.0; command = c; is = is_c; began = first.1; ended = refl }) second.1 before in
        let a = own.1 in
        let b = its.0 in
        omega arith

    back : MarksInOrder script j → StartsInOrder script table
    back order t o u p stop start ended began before =
        let it = some-IsSome (op_at script u p) (op_at-number script table u p start starts.table_of began) in
        let own = starts.has t o ended.start ended.command ended.is ended.began in
        let its = starts.has u p start it.0 it.1 began in
        let bound = order t o u p ended.start (stop_of ended.command ended.start) start (stop_of it.0 start) ended.command it.0 ended.is it.1 before own its in
        let last = ended.ended in
        omega arith
