-- Three threads, of which the first is alone in the first of two phases.
use Rattle.std.proofs.Common.{◌≡◌, ℕ, zero, suc, ◌+◌, ◌*◌, ◌<◌, true, List, [], ◌∷◌, ◌++◌, length, refl, sym, ap, ◌∙◌, subst, arith}
use Rattle.std.proofs.lemmas.List.{length-append}
use Rattle.atomic_table.specs.Seated.{TableId}
use Rattle.live_law.specs.DoneOps.{AreEnded, HasEnded}
use Rattle.live_run.proofs.laws.Phases.{AreBefore-end, AreEnded-in_phase, first_thread-next}
use Rattle.live_run.specs.Names.{PassesValue, seen_by}
use Rattle.live_run.specs.Openings.{IsFirst}
use Rattle.live_run.specs.Phases.{AreBefore, IsAtEnd, passes_at}
use Rattle.live_run.specs.Sharing.{IsAtPhase}
use Rattle.live_run.specs.Steps.{HasTaken}
use Rattle.live_tests.specs.Turns.{AreAtFirst, HasMade, HaveMade, IsInTurns, IsReady}
use Rattle.run_law.specs.Journals.{JournalsValue}
use Rattle.schedule_law.specs.declared.part.Part.{Part}
use Rattle.script_ops.specs.Values.{ScriptValue, first_thread, ops_of, phase_at}
use Rattle.shared_parts.specs.Shares.{ShareValue}

-- what holds of each of three
each_of_three : (P : ℕ → PassesValue → Type 0) (a b c : PassesValue) → P 0 a → P 1 b → P 2 c → (t : ℕ) → t < length (a ∷ b ∷ c ∷ []) → P t (passes_at (a ∷ b ∷ c ∷ []) t)
each_of_three P a b c first second third zero within = first
each_of_three P a b c first second third (suc zero) within = second
each_of_three P a b c first second third (suc (suc zero)) within = third
each_of_three P a b c first second third (suc (suc (suc t))) within = absurd (omega (arith, within))

-- three that are taken from the end, one after the other
pub taken_three : (ps two one none : List PassesValue) (a b c : PassesValue) → ps ≡ two ++ c ∷ [] → two ≡ one ++ b ∷ [] → one ≡ none ++ a ∷ [] → length ps ≡ 3 → ps ≡ a ∷ b ∷ c ∷ []
taken_three ps two one [] a b c last middle front count = last ∙ ap (λ xs. xs ++ c ∷ []) (middle ∙ ap (λ xs. xs ++ b ∷ []) front)
taken_three ps two one (x ∷ xs) a b c last middle front count =
    absurd (omega (arith, count, ap length last, length-append two (c ∷ []), ap length middle, length-append one (b ∷ []), ap length front, length-append xs (a ∷ [])))

-- ---- numbers of threads

-- with two phases, of one thread and of two
module _ (script : ScriptValue) (phases : length script.phases ≡ 2) (one : length (phase_at script 0).threads ≡ 1) (two : length (phase_at script 1).threads ≡ 2) where
  pub second_phase : first_thread script 1 ≡ 1
  second_phase = omega (arith, first_thread-next script 0 (omega (arith, phases)), one)

  pub third_phase : first_thread script 2 ≡ 3
  third_phase = omega (arith, first_thread-next script 1 (omega (arith, phases)), second_phase, two)

  -- no thread stands before the first
  pub none_before : (v : JournalsValue) → AreEnded script v 0
  none_before v = AreEnded-in_phase script v 0 0 (omega (arith, phases)) (omega (arith, second_phase)) (λ u early. absurd (omega (arith, early)))

  -- the first stands before the others
  pub first_before : (v : JournalsValue) (t : ℕ) → t < 3 → HasEnded script v 0 → AreEnded script v t
  first_before v t within ended = AreEnded-in_phase script v 1 t (omega (arith, phases)) (omega (arith, within, third_phase)) (λ u early.
      let none : 0 ≡ u = omega (arith, early, second_phase) in
      subst (HasEnded script v) none ended)

-- ---- before the first op

-- three threads
pub AreAtFirst-three : (script : ScriptValue) (table : TableId) (turn : ShareValue Part) (ps : List PassesValue) (a b c : PassesValue) → ps ≡ a ∷ b ∷ c ∷ [] → AreBefore script 0 ps → ((t : ℕ) → t < length ps → (passes_at ps t).shown ≡ [])
    → IsAtPhase script table 0 turn → AreAtFirst script table turn a b c
AreAtFirst-three script table turn ps a b c is before shown at =
    let all : List PassesValue = a ∷ b ∷ c ∷ [] in
    let opened : AreBefore script 0 all = subst (AreBefore script 0) is before in
    let blank : (t : ℕ) → t < length all → (passes_at all t).shown ≡ [] = subst (λ (xs : List PassesValue). (t : ℕ) → t < length xs → (passes_at xs t).shown ≡ []) is shown in
    record {
      turn_is = at;
      first_is = record { thread = opened.threads 0 (omega arith); fresh = opened.fresh 0 (omega arith) (omega arith); shown = blank 0 (omega arith) };
      second_is = record { thread = opened.threads 1 (omega arith); fresh = opened.fresh 1 (omega arith) (omega arith); shown = blank 1 (omega arith) };
      third_is = record { thread = opened.threads 2 (omega arith); fresh = opened.fresh 2 (omega arith) (omega arith); shown = blank 2 (omega arith) };
    }

-- the phase of one has begun
pub IsFirst-begun : (t : ℕ) (old new : PassesValue) → new ≡ (record old { begun = true }) → IsFirst t old → HasMade t 0 new
IsFirst-begun t old new same is = record {
  thread_is = ap (λ (p : PassesValue). p.seen.thread) same ∙ is.thread;
  next = ap (λ (p : PassesValue). p.next) same ∙ is.fresh;
  begun = ap (λ (p : PassesValue). p.begun) same;
}

-- ---- at its end

-- a thread that has made all its ops
pub IsAtEnd-made : (script : ScriptValue) (t n : ℕ) (p : PassesValue) → HasMade t n p → length (ops_of script t) ≡ n → IsAtEnd script p
IsAtEnd-made script t n p made count = made.next ∙ (sym count ∙ ap (λ u. length (ops_of script u)) (sym made.thread_is))

-- ---- a script whose threads take turns

module _ (script : ScriptValue) (sweeps sweep : ℕ) (turns : IsInTurns script sweeps sweep) where
  -- the first thread has seen all that it has to see
  pub first_earlier : (p : PassesValue) → IsFirst 0 p → AreEnded script (seen_by p.seen) p.seen.thread
  first_earlier p is = subst (AreEnded script (seen_by p.seen)) (sym is.thread) (none_before script turns.phases turns.first turns.others (seen_by p.seen))

  -- and another when the first has made its ops and handed on to it
  pub other_ready : (t n : ℕ) (first old new : PassesValue) → t < 3 → HasMade 0 n first → n ≡ length (ops_of script 0) → IsFirst t old → HasTaken old.seen new.seen → new.next ≡ old.next → new.shown ≡ old.shown
      → (IsAtEnd script first → HasEnded script (seen_by new.seen) first.seen.thread) → IsReady script t new
  other_ready t n first old new within made all is taken same blank ended = record {
    first_is = record { thread = taken.thread ∙ is.thread; fresh = same ∙ is.fresh; shown = blank ∙ is.shown };
    earlier =
        let at_end : IsAtEnd script first = IsAtEnd-made script 0 n first made (sym all) in
        let early : AreEnded script (seen_by new.seen) t =
        first_before script turns.phases turns.first turns.others (seen_by new.seen) t within (subst (HasEnded script (seen_by new.seen)) made.thread_is (ended at_end)) in
        subst (AreEnded script (seen_by new.seen)) (sym (taken.thread ∙ is.thread)) early;
  }

  -- all have made their ops
  pub AreBefore-made : (table : TableId) (turn : ShareValue Part) (ps : List PassesValue) (a b c a' b' c' : PassesValue) → a' ≡ a → b' ≡ b → c' ≡ c → ps ≡ a' ∷ b' ∷ c' ∷ []
      → HaveMade script table (sweeps + 2) (sweeps * sweep) turn a b c → AreBefore script (length script.phases) ps
  AreBefore-made table turn ps a b c a' b' c' first second third are made =
      let all : List PassesValue = a ∷ b ∷ c ∷ [] in
      let same : (a' ∷ b' ∷ c' ∷ []) ≡ all = λ j. first j ∷ second j ∷ third j ∷ [] in
      let is : ps ≡ all = are ∙ same in
      let at_end = IsAtEnd-made script in
      subst (AreBefore script (length script.phases)) (sym is)
      (AreBefore-end script all (sym turns.threads)
      (each_of_three (λ t p. p.seen.thread ≡ t) a b c made.first_made.thread_is made.second_made.thread_is made.third_made.thread_is)
      (each_of_three (λ t p. IsAtEnd script p) a b c (at_end 0 (length (ops_of script 0)) a made.first_made refl) (at_end 1 (sweeps + 2) b made.second_made turns.second_ops) (at_end 2 (sweeps * sweep) c made.third_made turns.third_ops)))

-- the same passes
pub HaveMade-same : (script : ScriptValue) (table : TableId) (m n : ℕ) (turn turn' : ShareValue Part) (a b c a' b' c' : PassesValue) → turn' ≡ turn → a' ≡ a → b' ≡ b → c' ≡ c
    → HaveMade script table m n turn a b c → HaveMade script table m n turn' a' b' c'
HaveMade-same script table m n turn turn' a b c a' b' c' same first second third made = record {
  turn_is = subst (IsAtPhase script table 1) (sym same) made.turn_is;
  first_made = subst (HasMade 0 (length (ops_of script 0))) (sym first) made.first_made;
  second_made = subst (HasMade 1 m) (sym second) made.second_made;
  third_made = subst (HasMade 2 n) (sym third) made.third_made;
}

-- ---- the ops of a turn

-- one more
pub HasMade-next : (thread n : ℕ) (old new : PassesValue) → HasMade thread n old → new.seen.thread ≡ old.seen.thread → new.next ≡ old.next + 1 → new.begun ≡ true → HasMade thread (n + 1) new
HasMade-next thread n old new made same next begun = record {
  thread_is = same ∙ made.thread_is;
  next = next ∙ ap (λ m. m + 1) made.next;
  begun = begun;
}

-- it has handed on
pub HasMade-handed : (thread n : ℕ) (old new : PassesValue) → HasMade thread n old → HasTaken old.seen new.seen → new.next ≡ old.next → new.begun ≡ old.begun → HasMade thread n new
HasMade-handed thread n old new made taken same begun = record {
  thread_is = taken.thread ∙ made.thread_is;
  next = same ∙ made.next;
  begun = begun ∙ made.begun;
}
