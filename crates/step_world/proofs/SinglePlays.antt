-- The play of a script is one: two plays have the same journals.
use Rattle.std.proofs.Common.{◌≡◌, ℕ, zero, suc, ◌<◌, List, [], ◌∷◌, length, get_or, replicate, Option, Some, None, sym, ap, ◌∙◌, subst, arith}
use Rattle.run_law.specs.Journals.{JournalsValue, slice_at}
use Rattle.run_law.specs.Slices.{shape_in}
use Rattle.script_ops.specs.Values.{IsLawful, ScriptValue}
use Rattle.step_world.proofs.EndedThreads.{ended_rests}
use Rattle.step_world.proofs.HeldLines.{HoldsOnce, HoldsOnce-legal}
use Rattle.step_world.proofs.KeptSteps.{step_keeps}
use Rattle.step_world.proofs.laws.Schedules.{next_so_far, opening_so_far}
use Rattle.step_world.proofs.SingleSteps.{step-agree}
use Rattle.step_world.proofs.AgreeingStates.{Agree, same_journals}
use Rattle.step_world.specs.Machine.{MachineValue, Steps, opening_thread, thread_at}
use Rattle.step_world.specs.Schedules.{GoesOn, HasEnded, IsOpening}
use Rattle.step_world.specs.Moments.{IsRunSoFar}
use Rattle.step_world.specs.Play.{EndInTurn, IsPlayBy, LetsGo, PlaysPhaseBy, PlaysPhasesBy, StepsHolding, StepsOf, threads_of_phase}

module _ (script : ScriptValue) (lawful : IsLawful script) where
  -- two states agree, and their journals are those of a run so far
  record AreOne (a b : MachineValue) : Type 0 where
    pub agree : Agree a b
    pub so_far : IsRunSoFar script a

  -- of two states that are each the same as one of these
  same-one : (a b x y : MachineValue) → x ≡ a → y ≡ b → AreOne a b → AreOne x y
  same-one a b x y is its one = subst (λ s. AreOne s y) (sym is) (subst (λ s. AreOne a s) (sym its) one)

  -- in each slice no line is in two ways
  once : (s : MachineValue) → IsRunSoFar script s → (i : ℕ) → i < length s.journals.slices → HoldsOnce (shape_in script.machine i) (slice_at s.journals i)
  once s so_far i there = HoldsOnce-legal (shape_in script.machine i) (slice_at s.journals i) lawful.in_range.some_set (so_far.legal.slices_legal i (omega (arith, there, so_far.legal.all_slices)))

  -- ---- steps

  -- one step
  step-one : (t : ℕ) (a b x y : MachineValue) → AreOne a b → Steps script t a x → Steps script t b y → AreOne x y
  step-one t a b x y one step its = record { agree = step-agree script t a b x y (once a one.so_far) one.agree step its; so_far = step_keeps script t a x lawful.in_range.some_slice step one.so_far }

  -- steps of these threads
  steps-one : (ts : List ℕ) (a b x y : MachineValue) → AreOne a b → StepsOf script ts a x → StepsOf script ts b y → AreOne x y
  steps-one [] a b x y one is its = same-one a b x y is its one
  steps-one (t ∷ ts) a b x y one (between, step, rest) (amid, stride, more) = steps-one ts between amid x y (step-one t a b between amid one step stride) rest more

  -- none holds the tree that somebody holds
  none-some : (o q : Option ℕ) (t : ℕ) → o ≡ q → o ≡ None → q ≡ Some t → ⊥
  none-some o q t same none some = absurd cc

  -- the one that holds the tree, until it lets go
  holding-one : (t n m : ℕ) (a b c d x y : MachineValue) → AreOne a b → StepsHolding script t n a c → Steps script t c x → x.holder ≡ None → StepsHolding script t m b d → Steps script t d y → y.holder ≡ None → AreOne x y
  holding-one t zero zero a b c d x y one is step free its stride lets = step-one t c d x y (same-one a b c d is its one) step stride
  holding-one t zero (suc m) a b c d x y one is step free (amid, first, holds, more) stride lets =
      let both = step-one t a b x amid one (subst (λ s. Steps script t s x) is step) first in absurd (none-some x.holder amid.holder t both.agree.holder free holds)
  holding-one t (suc n) zero a b c d x y one (between, first, holds, rest) step free its stride lets =
      let both = step-one t a b between y one first (subst (λ s. Steps script t s y) its stride) in absurd (none-some y.holder between.holder t (sym both.agree.holder) lets holds)
  holding-one t (suc n) (suc m) a b c d x y one (between, first, holds, rest) step free (amid, second, keeps, more) stride lets =
      holding-one t n m between amid c d x y (step-one t a b between amid one first second) rest step free more stride lets

  lets_go-one : (holder : Option ℕ) (a b x y : MachineValue) → AreOne a b → LetsGo script holder a x → LetsGo script holder b y → AreOne x y
  lets_go-one None a b x y one is its = same-one a b x y is its one
  lets_go-one (Some t) a b x y one (n, c, holding, step, free) (m, d, keeping, stride, lets) = holding-one t n m a b c d x y one holding step free keeping stride lets

  -- a thread at its end stays there, however often it steps
  rests : (t n : ℕ) (s x : MachineValue) → HasEnded script t (thread_at s t) → StepsOf script (replicate n t) s x → x ≡ s
  rests t zero s x ended is = is
  rests t (suc n) s x ended (between, step, rest) =
      let still : between ≡ s = ended_rests script t s between ended step in
      rests t n between x (subst (λ z. HasEnded script t (thread_at z t)) (sym still) ended) rest ∙ still

  -- a thread to its end
  ends-one : (t n m : ℕ) (a b x y : MachineValue) → AreOne a b → StepsOf script (replicate n t) a x → HasEnded script t (thread_at x t) → StepsOf script (replicate m t) b y → HasEnded script t (thread_at y t) → AreOne x y
  ends-one t zero m a b x y one is ended steps done =
      let at_a : HasEnded script t (thread_at a t) = subst (λ s. HasEnded script t (thread_at s t)) is ended in
      same-one a b x y is (rests t m b y (subst (λ v. HasEnded script t v) (one.agree.threads t) at_a) steps) one
  ends-one t (suc n) zero a b x y one steps ended its done =
      let at_b : HasEnded script t (thread_at b t) = subst (λ s. HasEnded script t (thread_at s t)) its done in
      same-one a b x y (rests t (suc n) a x (subst (λ v. HasEnded script t v) (sym (one.agree.threads t)) at_b) steps) its one
  ends-one t (suc n) (suc m) a b x y one (between, step, rest) ended (amid, stride, more) done = ends-one t n m between amid x y (step-one t a b between amid one step stride) rest ended more done

  -- each in turn
  turns-one : (ts : List ℕ) (a b x y : MachineValue) → AreOne a b → EndInTurn script ts a x → EndInTurn script ts b y → AreOne x y
  turns-one [] a b x y one is its = same-one a b x y is its one
  turns-one (t ∷ ts) a b x y one (n, between, steps, ended, rest) (m, amid, strides, done, more) = turns-one ts between amid x y (ends-one t n m a b between amid one steps ended strides done) rest more

  -- ---- phases

  -- the next one begins
  next-one : (a b x y : MachineValue) → AreOne a b → GoesOn script a x → GoesOn script b y → AreOne x y
  next-one a b x y one goes its = record {
    agree = record {
      journals = goes.journals ∙ (one.agree.journals ∙ sym its.journals);
      phase = omega (arith, goes.phase, its.phase, one.agree.phase);
      holder = goes.holder ∙ (one.agree.holder ∙ sym its.holder);
      threads = λ u. ap (λ vs. get_or vs u opening_thread) goes.threads ∙ (one.agree.threads u ∙ sym (ap (λ vs. get_or vs u opening_thread) its.threads));
    };
    so_far = next_so_far script a x goes one.so_far;
  }

  -- one is played
  phase-one : (order : List ℕ) (a b x y : MachineValue) → AreOne a b → PlaysPhaseBy script order a x → PlaysPhaseBy script order b y → AreOne x y
  phase-one order a b x y one plays its =
      let ordered : AreOne plays.ordered its.ordered = steps-one order a b plays.ordered its.ordered one plays.order its.order in
      let free : AreOne plays.free its.free =
      lets_go-one plays.ordered.holder plays.ordered its.ordered plays.free its.free ordered plays.lets_go (subst (λ h. LetsGo script h its.ordered its.free) (sym ordered.agree.holder) its.lets_go) in
      let ended : AreOne plays.ended its.ended =
      turns-one (threads_of_phase script a.phase) plays.free its.free plays.ended its.ended free plays.rest (subst (λ p. EndInTurn script (threads_of_phase script p) its.free its.ended) (sym one.agree.phase) its.rest) in
      next-one plays.ended its.ended x y ended plays.next its.next

  -- so many are
  phases-one : (orders : List (List ℕ)) (a b x y : MachineValue) → AreOne a b → PlaysPhasesBy script orders a x → PlaysPhasesBy script orders b y → AreOne x y
  phases-one [] a b x y one is its = same-one a b x y is its one
  phases-one (order ∷ orders) a b x y one (between, plays, rest) (amid, phase, more) = phases-one orders between amid x y (phase-one order a b between amid one plays phase) rest more

  -- ---- the play

  -- the state before the first step
  opening-one : (a b : MachineValue) → IsOpening script a → IsOpening script b → AreOne a b
  opening-one a b first second = record {
    agree = record {
      journals = same_journals a.journals b.journals (first.tree ∙ sym second.tree) (first.count ∙ sym second.count) (λ i. first.slices i ∙ sym (second.slices i));
      phase = first.phase ∙ sym second.phase;
      holder = first.holder ∙ sym second.holder;
      threads = λ u. first.threads u ∙ sym (second.threads u);
    };
    so_far = opening_so_far script a first;
  }

  -- two plays by the same order lists have the same journals
  pub plays-one : (orders : List (List ℕ)) (one other : JournalsValue) → IsPlayBy script orders one → IsPlayBy script orders other → one ≡ other
  plays-one orders one other plays its =
      let last = phases-one orders plays.first its.first plays.last its.last (opening-one plays.first its.first plays.opening its.opening) plays.plays its.plays in
      sym plays.are ∙ (last.agree.journals ∙ its.are)
