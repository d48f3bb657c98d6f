-- The share of who starts the phases, with three threads of which the first is alone in the first of two phases.
use Rattle.std.proofs.Common.{◌≡◌, ℕ, ◌+◌, ◌<◌, ◌≤◌, [], ◌∷◌, length, sym, ap, ◌∙◌, subst, arith}
use Rattle.atomic_table.specs.Seated.{TableId}
use Rattle.live_run.proofs.laws.Phases.{in_phase-before, phase_in-before}
use Rattle.live_run.specs.Names.{PassesValue}
use Rattle.live_run.specs.Openings.{IsFirst}
use Rattle.live_run.specs.Phases.{HaveEnded, IsAtEnd, IsEndedIn, IsOfPhase}
use Rattle.live_run.specs.Sharing.{IsAtPhase, IsShareOf}
use Rattle.live_tests.proofs.Threads.{first_earlier, second_phase, third_phase}
use Rattle.live_tests.specs.Turns.{IsInTurns, IsReady}
use Rattle.run_law.specs.Ops.{phase_in}
use Rattle.schedule_law.specs.LiveParts.{after, live_phase}
use Rattle.schedule_law.specs.LivePhases.{MayPass}
use Rattle.schedule_law.specs.declared.part.Happening.TheVariants as happenings
use Rattle.schedule_law.specs.declared.part.Part.{Part}
use Rattle.script_ops.specs.Values.{ScriptValue, first_thread}
use Rattle.shared_parts.specs.Parts.{parts_after}
use Rattle.shared_parts.specs.Shares.{ShareValue}
use Rattle.shared_parts.specs.Words.{word_of}

-- ---- the ends of threads

-- a thread is at its end, and all before it are
pub IsEndedIn-next : (script : ScriptValue) (table : TableId) (phase t : ℕ) (p : PassesValue) (turn : ShareValue Part) → IsShareOf table (live_phase phase t ∷ []) turn → p.seen.thread ≡ t → IsAtEnd script p → IsEndedIn script table p turn
IsEndedIn-next script table phase t p turn is thread at_end = record {
  phase = phase;
  share = subst (λ n. IsShareOf table (live_phase phase n ∷ []) turn) (sym thread) is;
  at_end = at_end;
}

-- one more is
pub IsShareOf-ended : (table : TableId) (phase t : ℕ) (old new : ShareValue Part) → IsShareOf table (live_phase phase t ∷ []) old → HaveEnded 1 old new → IsShareOf table (live_phase phase (t + 1) ∷ []) new
IsShareOf-ended table phase t old new is ended =
    let now = ended phase t is.parts_are in
    record { table_is = now.0 ∙ is.table_is; words = is.words; parts_are = now.1 }

-- ---- the end of a phase

module _ (script : ScriptValue) (table : TableId) (phase : ℕ) (turn : ShareValue Part) (there : phase < length script.phases) (is : IsShareOf table (live_phase phase (first_thread script (phase + 1)) ∷ []) turn) where
  -- the tree's lock has a word of the table
  pub lock_there : word_of 32 < turn.table.words
  lock_there = omega (arith, is.words, ap (λ (t : TableId). t.words) is.table_is)

  -- the next phase may begin
  pub may_pass : MayPass script turn.parts
  may_pass = record {
    p = phase;
    ended = first_thread script (phase + 1);
    phase_is = is.parts_are;
    all = λ t own. in_phase-before script.phases phase t there own;
  }

  -- and then it has
  pub has_passed : (new : ShareValue Part) → new.table ≡ turn.table → new.parts ≡ parts_after after happenings.Pass turn.parts → IsAtPhase script table (phase + 1) new
  has_passed new same stepped = record {
    table_is = same ∙ is.table_is;
    words = is.words;
    parts_are = stepped ∙ ap (parts_after after happenings.Pass) is.parts_are;
  }

-- ---- a script whose threads take turns

module _ (script : ScriptValue) (sweeps sweep : ℕ) (turns : IsInTurns script sweeps sweep) (table : TableId) where
  second_is : first_thread script 1 ≡ 1
  second_is = second_phase script turns.phases turns.first turns.others

  third_is : first_thread script 2 ≡ 3
  third_is = third_phase script turns.phases turns.first turns.others

  -- the first thread is of the first phase
  pub first_of_phase : (p : PassesValue) (turn : ShareValue Part) → IsFirst 0 p → IsAtPhase script table 0 turn → IsOfPhase script table p turn
  first_of_phase p turn first at =
      let within : 0 < first_thread script 1 = omega (arith, second_is) in
      record {
        phase = 0;
        ended = first_thread script 0;
        share = at;
        low = subst (λ t. phase_in script.phases t ≤ 0) (sym first.thread) (phase_in-before script.phases 0 0 within);
        earlier = first_earlier script sweeps sweep turns p first;
      }

  -- and the others are of the second
  pub other_of_phase : (t : ℕ) (p : PassesValue) (turn : ShareValue Part) → t < 3 → IsReady script t p → IsAtPhase script table 1 turn → IsOfPhase script table p turn
  other_of_phase t p turn few ready at =
      let within : t < first_thread script 2 = omega (arith, third_is, few) in
      record {
        phase = 1;
        ended = first_thread script 1;
        share = at;
        low = subst (λ t. phase_in script.phases t ≤ 1) (sym ready.first_is.thread) (phase_in-before script.phases 1 t within);
        earlier = ready.earlier;
      }

  -- the first of the first phase
  pub at_first : (turn : ShareValue Part) → IsAtPhase script table 0 turn → IsShareOf table (live_phase 0 0 ∷ []) turn
  at_first turn at = at

  -- and of the second
  pub at_second : (turn : ShareValue Part) → IsAtPhase script table 1 turn → IsShareOf table (live_phase 1 1 ∷ []) turn
  at_second turn at = subst (λ n. IsShareOf table (live_phase 1 n ∷ []) turn) second_is at

  -- all of the first phase are at their ends
  pub first_over : (old new : ShareValue Part) → IsAtPhase script table 0 old → HaveEnded 1 old new → IsShareOf table (live_phase 0 (first_thread script 1) ∷ []) new
  first_over old new at ended = subst (λ n. IsShareOf table (live_phase 0 n ∷ []) new) (sym second_is) (IsShareOf-ended table 0 0 old new (at_first old at) ended)

  -- and all of the second are
  pub second_over : (old mid new : ShareValue Part) → IsAtPhase script table 1 old → HaveEnded 1 old mid → HaveEnded 1 mid new → IsShareOf table (live_phase 1 (first_thread script 2) ∷ []) new
  second_over old mid new at one two =
      let second : IsShareOf table (live_phase 1 2 ∷ []) mid = IsShareOf-ended table 1 1 old mid (at_second old at) one in
      subst (λ n. IsShareOf table (live_phase 1 n ∷ []) new) (sym third_is) (IsShareOf-ended table 1 2 mid new second two)
