-- The parts at the start, their room, and the end.
use Rattle.std.proofs.Common.{◌≡◌, inl, inr, ℕ, zero, suc, ◌+◌, ◌%◌, ◌<◌, ◌≤◌, ◌==◌, false, [], length, get_or, None, refl, sym, ◌∙◌, ap, subst, arith}
use Rattle.std.specs.Prelude.{if◌then◌else◌, replicate}
use Rattle.std.proofs.lemmas.Bool.{cases_lt, cond-true, cond-false, eq-eqb, ne_eqb, true≢false}
use Rattle.std.proofs.lemmas.List.{ext_get_or, get_or-replicate, get_or_past, length-replicate}
use Rattle.machine.specs.Slices.{slice_count}
use Rattle.run_law.specs.Journals.{slice_at}
use Rattle.script_ops.specs.Values.{ScriptValue, threads_of}
use Rattle.run_law.specs.Quotas.{room_of}
use Rattle.step_world.proofs.laws.EntryRooms.{entries-few}
use Rattle.step_world.specs.Machine.{MachineValue, opening_thread, thread_at}
use Rattle.step_world.specs.declared.thread_state.Thread.{Thread}
use Rattle.schedule_law.specs.Law.{SlicesHaveRoom, StatesClose, StatesOpen}
use Rattle.schedule_law.specs.Parts.{AreReached, PartValue, Phase, Slice, Tree, Worker, number_of_slice, number_of_thread, slice_parts, thread_parts}
use Rattle.schedule_law.proofs.StepStates.{so_far}
use Rattle.shared_parts.specs.Parts.{Fits}
use Rattle.shared_parts.proofs.laws.Parts.{Fits-append}

-- a list of one thing everywhere
get_or-replicate_same : {A : Type 0} (n i : ℕ) (x : A) → get_or (replicate n x) i x ≡ x
get_or-replicate_same n i x = elim (cases_lt i n) [
  | inl low ↦ get_or-replicate n i x x low
  | inr past ↦ get_or_past (replicate n x) i x (omega (arith, length-replicate n x, past))
]

-- the state before the first step
first_state : ScriptValue → MachineValue
first_state script = record {
  journals = record { tree = []; slices = replicate (slice_count script.machine) [] };
  phase = 0;
  holder = None;
  threads = replicate (length (threads_of script)) opening_thread;
}

-- and its parts
unfoldable pub first_part : ℕ → PartValue
first_part k = if k == 0 then Tree [] None else if k == 1 then Phase 0 0 else if k % 2 == 0 then Slice [] else Worker opening_thread false [] None

first_part-slice : (i : ℕ) → first_part (number_of_slice i) ≡ Slice []
unfolding first_part
first_part-slice i =
    let k : ℕ = number_of_slice i in
    cond-false (k == 0) (Tree [] None) (if k == 1 then Phase 0 0 else if k % 2 == 0 then Slice [] else Worker opening_thread false [] None) (ne_eqb k 0 (λ h. omega (arith, h)))
    ∙ (cond-false (k == 1) (Phase 0 0) (if k % 2 == 0 then Slice [] else Worker opening_thread false [] None) (ne_eqb k 1 (λ h. omega (arith, h)))
    ∙ cond-true (k % 2 == 0) (Slice []) (Worker opening_thread false [] None) (eq-eqb (k % 2) 0 (omega arith)))

first_part-thread : (t : ℕ) → first_part (number_of_thread t) ≡ Worker opening_thread false [] None
unfolding first_part
first_part-thread t =
    let k : ℕ = number_of_thread t in
    cond-false (k == 0) (Tree [] None) (if k == 1 then Phase 0 0 else if k % 2 == 0 then Slice [] else Worker opening_thread false [] None) (ne_eqb k 0 (λ h. omega (arith, h)))
    ∙ (cond-false (k == 1) (Phase 0 0) (if k % 2 == 0 then Slice [] else Worker opening_thread false [] None) (ne_eqb k 1 (λ h. omega (arith, h)))
    ∙ cond-false (k % 2 == 0) (Slice []) (Worker opening_thread false [] None) (ne_eqb (k % 2) 0 (λ h. omega (arith, h))))

first_part-tree : first_part 0 ≡ Tree [] None
unfolding first_part
first_part-tree = refl

first_part-phase : first_part 1 ≡ Phase 0 0
unfolding first_part
first_part-phase = refl

-- the first state is reached
pub AreReached-first_part : (script : ScriptValue) → AreReached script first_part
unfolding first_state
AreReached-first_part script =
    let s : MachineValue = first_state script in
    let slice : (i : ℕ) → slice_at s.journals i ≡ [] = λ i. get_or-replicate_same (slice_count script.machine) i [] in
    let thread : (t : ℕ) → thread_at s t ≡ opening_thread = λ t. get_or-replicate_same (length (threads_of script)) t opening_thread in
    record {
      state = s;
      reached = record {
        events = [];
        first = s;
        opening = record { tree = refl; count = length-replicate (slice_count script.machine) []; slices = slice; phase = refl; holder = refl; threads = thread };
        plays = refl;
      };
      count = length-replicate (length (threads_of script)) opening_thread;
      begun = λ t. false;
      found = λ t. [];
      given = λ t. None;
      ended = 0;
      tree = first_part-tree;
      phase = first_part-phase;
      slices = λ i. first_part-slice i ∙ ap Slice (sym (slice i));
      threads = λ t. first_part-thread t ∙ ap (λ (v : Thread). Worker v false [] None) (sym (thread t));
      begins = λ t wrong. absurd (true≢false (sym wrong));
      ends = λ t low. absurd (omega (arith, low));
      gave = λ t g is. absurd (let none = is in cc);
      looked = λ t made op place is. absurd (let there = thread t in cc);
    }

Fits-slices : (i n : ℕ) → Fits first_part (slice_parts i n)
Fits-slices i zero = tt
Fits-slices i (suc n) = (first_part-slice i, Fits-slices (i + 1) n)

Fits-threads : (t n : ℕ) → Fits first_part (thread_parts t n)
Fits-threads t zero = tt
Fits-threads t (suc n) = (first_part-thread t, Fits-threads (t + 1) n)

pub states_open : StatesOpen
states_open script = (
  first_part,
  AreReached-first_part script,
  (first_part-tree, (first_part-phase, Fits-append first_part (slice_parts 0 (slice_count script.machine)) (thread_parts 0 (length (threads_of script))) (Fits-slices 0 (slice_count script.machine)) (Fits-threads 0 (length (threads_of script))))),
)

pub slices_have_room : SlicesHaveRoom
slices_have_room script i list at lawful low r fit =
    let is = r.slices i in
    let its = fit.0 in
    let same : slice_at r.state.journals i ≡ list = cc in
    subst (λ l. length l ≤ room_of script i) same (entries-few script r.state lawful (so_far script r.state lawful.in_range.some_slice r.reached) i low)

pub states_close : StatesClose
states_close script journals holder p ended at some over count r fit each =
    let s = r.state in
    let tree : s.journals.tree ≡ journals.tree = (let is = r.tree in let its = fit.0 in cc) in
    let phase : s.phase ≡ p = (let is = r.phase in let its = fit.1.0 in cc) in
    let all : length s.journals.slices ≡ slice_count script.machine = (so_far script s some r.reached).legal.all_slices in
    let slices : s.journals.slices ≡ journals.slices = ext_get_or [] s.journals.slices journals.slices (all ∙ sym count) (λ i low.
    let its = (each i (subst (λ n. i < n) all low)).0 in
    let is = r.slices i in
    cc) in
    record {
      events = r.reached.events;
      first = r.reached.first;
      last = s;
      opening = r.reached.opening;
      plays = r.reached.plays;
      over = omega (arith, over, phase);
      are = λ j. record { tree = tree j; slices = slices j };
    }
