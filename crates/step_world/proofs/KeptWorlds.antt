-- A step that keeps the parts of a world keeps the world.
use Rattle.std.proofs.Common.{◌≡◌, ◌≢◌, ℕ, ◌<◌, ◌≤◌, inl, inr, List, [], ◌∷◌, ◌++◌, length, map, take, get_or, set, get_or-set_same, get_or-set_other, length-set, Some, refl, sym, ap, ◌∙◌, subst, arith}
use Rattle.std.specs.Prelude.{◌==◌, vec_capacity}
use Rattle.std.proofs.lemmas.Bool.{cases_Bool, eqb-false, eqb-true}
use Rattle.std.proofs.Math.Seq.{get_or-append_seam, take-append_seam}
use Rattle.std.proofs.lemmas.List.{get_or-map, length-map, length_push, map-set}
use Rattle.cache_core.specs.declared.entry.SliceEntry.{SliceEntry}
use Rattle.cache_core.specs.History.{EntryMayFollow, IsLegal}
use Rattle.machine.specs.Slices.{slice_count}
use Rattle.machine.specs.declared.parameters.Parameters.{Parameters}
use Rattle.rc_base.proofs.laws.Histories.{EachFollows-at}
use Rattle.rc_base.specs.Buffers.{Looks}
use Rattle.run_law.specs.Entries.{entry_value}
use Rattle.run_law.specs.Journals.{slice_at}
use Rattle.run_law.specs.Quotas.{room_of}
use Rattle.run_law.specs.Slices.{shape_in}
use Rattle.run_law.specs.TreeHistory.{TreeEntryValue, tree_after}
use Rattle.script_ops.specs.Values.{ScriptValue, op_at}
use Rattle.script_ops.specs.declared.op.Op.{Op}
use Rattle.run_law.specs.Caches.{IsCacheOf}
use Rattle.step_world.specs.Machine.{MachineValue, Moves, Notes, Steps, thread_at}
use Rattle.step_world.specs.Moments.{IsRunSoFar}
use Rattle.step_world.specs.Slices.{Grows, SliceValue}
use Rattle.step_world.specs.Worlds.{AreInPlay, HasList, HasLists, IsAtWork, IsFollowing, IsTreeOf, IsWorldOf, journals_of, machine_of}
use Rattle.step_world.specs.declared.thread_state.ThreadState.{ThreadState}
use Rattle.step_world.specs.declared.thread_state.ThreadState.TheVariants.{Ready, Looking, Following, Tagged}
use Rattle.step_world.specs.declared.thread_state.Thread.{Thread}
use Rattle.step_world.specs.declared.work.Work.{Work}
use Rattle.step_world.specs.declared.world.World.{World}
use Rattle.tree_law.specs.Steps.{needs}
use Rattle.step_world.proofs.KeptSteps.{step_keeps}
use Rattle.step_world.proofs.laws.LookedCounts.{IsOtherStep, other_step, others_looked}
use Rattle.step_world.proofs.WithinThreads.{AreWithin-step}
use Rattle.step_world.proofs.laws.StepRows.{adds_set, moves_set}

-- ---- threads

-- what a step of thread t leaves of a world besides its journals
pub record Leaves (t : ℕ) (now : Thread) (old new : World) : Type 0 where
  pub phase : new.phase ≡ old.phase
  pub threads : new.threads.items ≡ set old.threads.items t now
  pub capacity : vec_capacity new.commands ≡ vec_capacity old.commands
  pub closing : new.closing ≡ old.closing
  pub lists_count : length new.lists.items ≡ length old.lists.items
  pub others : (u : ℕ) (d : List Looks) → u ≢ t → get_or new.lists.items u d ≡ get_or old.lists.items u d
  pub work : (u : ℕ) → u ≢ t → new.holder ≡ Some u → (old.holder ≡ Some u) × (new.work ≡ old.work)

-- the thread has moved
pub moves-leaves : (t : ℕ) (now : Thread) (old new : World) → t < length old.threads.items → Leaves t now old new → Moves t now (machine_of old) (machine_of new)
moves-leaves t now old new within leaves = moves_set (machine_of old) (machine_of new) t now within leaves.threads leaves.phase

-- ---- the work of another thread

-- it is as it was
IsAtWork-other : (script : ScriptValue) (old new : MachineValue) (t u : ℕ) (op : Op) (lists : List Looks) (work : Work) (place : ThreadState) → u ≢ t → IsRunSoFar script old → Steps script t old new → old.holder ≡ Some u
    → (thread_at old u).state ≡ place → IsAtWork script old u op lists work place → IsAtWork script new u op lists work place
IsAtWork-other script old new t u op lists work Ready apart so_far step held at is = tt
IsAtWork-other script old new t u op lists work (Tagged tag) apart so_far step held at is = tt
IsAtWork-other script old new t u op lists work (Looking made) apart so_far step held at is =
    let other : IsOtherStep u t old new = other_step script u t old new apart held so_far step in
    let tree : new.journals.tree ≡ old.journals.tree = other.tree in
    record {
      found = is.found;
      looked = others_looked script u t op old new is.found apart so_far step is.looked;
      counts = λ some. is.counts some ∙ ap (λ hs. Some (needs script.machine (tree_after script hs) op)) (sym tree);
      number = subst (λ hs. work.count ≡ length (needs script.machine (tree_after script hs) op)) (sym tree) is.number;
      few = is.few;
      made = is.made;
      within = subst (λ hs. work.at ≤ length (needs script.machine (tree_after script hs) op)) (sym tree) is.within;
      slice = is.slice;
      last = subst (λ hs. work.at ≡ length (needs script.machine (tree_after script hs) op) → work.slice ≡ 0) (sym tree) is.last;
      numbers = is.numbers;
      list = subst (λ (v : Thread). HasList script u v.next is.numbers lists) (sym other.there) is.list;
      count = is.count;
      each = is.each;
      lines = is.lines;
      bound = is.bound;
    }
IsAtWork-other script old new t u op lists work (Following made) apart so_far step held at is =
    let other : IsOtherStep u t old new = other_step script u t old new apart held so_far step in
    subst (λ hs. IsFollowing script hs made op work) (sym other.tree) is

-- ---- the world

-- A step of thread t that leaves the rest of a world keeps it.
pub IsWorldOf-step : (script : ScriptValue) (old new : World) (t : ℕ) (now : Thread) → IsWorldOf script old → t < length old.threads.items → Steps script t (machine_of old) (machine_of new) → Leaves t now old new
    → IsTreeOf script (map entry_value new.commands.items) new.tree → AreInPlay script new.slices.items
    → ((d : List Looks) → HasLists script t now.next now.state (get_or new.lists.items t d))
    → ((op : Op) (d : List Looks) → new.holder ≡ Some t → op_at script t now.next ≡ Some op → IsAtWork script (machine_of new) t op (get_or new.lists.items t d) new.work now.state)
    → IsWorldOf script new
IsWorldOf-step script old new t now world within step leaves tree slices lists work =
    let moves = moves-leaves t now old new within leaves in
    let count : length new.threads.items ≡ length old.threads.items = ap length leaves.threads ∙ length-set old.threads.items t now in
    record {
      lawful = world.lawful;
      so_far = step_keeps script t (machine_of old) (machine_of new) world.lawful.in_range.some_slice step world.so_far;
      phase = omega (arith, leaves.phase, world.phase);
      tree = tree;
      slices = slices;
      room = omega (arith, leaves.capacity, world.room);
      closing = subst (λ c. (c.items ≡ []) × (slice_count script.machine ≤ vec_capacity c)) (sym leaves.closing) world.closing;
      threads = count ∙ world.threads;
      within = AreWithin-step script t (machine_of old) (machine_of new) step world.within;
      lists_count = leaves.lists_count ∙ world.lists_count;
      lists = λ u d below. elim (cases_Bool (u == t)) [
        | inl here ↦
            let same = eqb-true u t here in
            subst (λ x. HasLists script x (thread_at (machine_of new) x).next (thread_at (machine_of new) x).state (get_or new.lists.items x d)) (sym same)
            (subst (λ (v : Thread). HasLists script t v.next v.state (get_or new.lists.items t d)) (sym moves.there) (lists d))
        | inr away ↦
            let apart = eqb-false u t away in
            subst (λ ls. HasLists script u (thread_at (machine_of new) u).next (thread_at (machine_of new) u).state ls) (sym (leaves.others u d apart))
            (subst (λ (v : Thread). HasLists script u v.next v.state (get_or old.lists.items u d)) (sym (moves.others u apart)) (world.lists u d (omega (arith, below, count))))
      ];
      work = λ u op d held is. elim (cases_Bool (u == t)) [
        | inl here ↦
            let same = eqb-true u t here in
            let mine : new.holder ≡ Some t = held ∙ ap (λ x. Some x) same in
            let its : op_at script t now.next ≡ Some op = subst (λ (v : Thread). op_at script t v.next ≡ Some op) moves.there (subst (λ x. op_at script x (thread_at (machine_of new) x).next ≡ Some op) same is) in
            subst (λ x. IsAtWork script (machine_of new) x op (get_or new.lists.items x d) new.work (thread_at (machine_of new) x).state) (sym same)
            (subst (λ (v : Thread). IsAtWork script (machine_of new) t op (get_or new.lists.items t d) new.work v.state) (sym moves.there) (work op d mine its))
        | inr away ↦
            let apart = eqb-false u t away in
            let was = leaves.work u apart held in
            let its : op_at script u (thread_at (machine_of old) u).next ≡ Some op = subst (λ (v : Thread). op_at script u v.next ≡ Some op) (moves.others u apart) is in
            let before = world.work u op d was.0 its in
            let place = (thread_at (machine_of old) u).state in
            let after : IsAtWork script (machine_of new) u op (get_or old.lists.items u d) old.work place =
            IsAtWork-other script (machine_of old) (machine_of new) t u op (get_or old.lists.items u d) old.work place apart world.so_far step was.0 refl before in
            subst (λ (v : Thread). IsAtWork script (machine_of new) u op (get_or new.lists.items u d) new.work v.state) (sym (moves.others u apart))
            (subst (λ ls. IsAtWork script (machine_of new) u op ls new.work place) (sym (leaves.others u d apart))
            (subst (λ w. IsAtWork script (machine_of new) u op (get_or old.lists.items u d) w place) (sym was.1) after))
      ];
    }

-- ---- one slice makes an entry

-- the slices are still in play
pub AreInPlay-set : (script : ScriptValue) (slices : List SliceValue) (i : ℕ) (e : SliceEntry) (s : SliceValue) → i < length slices → Grows e (get_or slices i s) s → AreInPlay script slices → AreInPlay script (set slices i s)
AreInPlay-set script slices i e s within grows play = record {
  count = length-set slices i s ∙ play.count;
  caches = λ k d below. elim (cases_Bool (k == i)) [
    | inl here ↦
        let same = eqb-true k i here in
        let was = play.caches i s within in
        let now : IsCacheOf script.machine i s.entries s.cache = record { shape = grows.shape ∙ was.shape; rmids = grows.rmids ∙ was.rmids; stands = grows.stands was.stands } in
        subst (λ x. IsCacheOf script.machine x (get_or (set slices i s) x d).entries (get_or (set slices i s) x d).cache) (sym same)
        (subst (λ (x : SliceValue). IsCacheOf script.machine i x.entries x.cache) (sym (get_or-set_same slices i s d within)) now)
    | inr away ↦
        subst (λ (x : SliceValue). IsCacheOf script.machine k x.entries x.cache) (sym (get_or-set_other slices i k s d (eqb-false k i away))) (play.caches k d (omega (arith, below, length-set slices i s)))
  ];
  rooms = λ k d below. elim (cases_Bool (k == i)) [
    | inl here ↦
        let same = eqb-true k i here in
        subst (λ x. room_of script x ≤ (get_or (set slices i s) x d).room) (sym same)
        (subst (λ (x : SliceValue). room_of script i ≤ x.room) (sym (get_or-set_same slices i s d within)) (omega (arith, grows.room, play.rooms i s within)))
    | inr away ↦
        subst (λ (x : SliceValue). room_of script k ≤ x.room) (sym (get_or-set_other slices i k s d (eqb-false k i away))) (play.rooms k d (omega (arith, below, length-set slices i s)))
  ];
}

-- what a legal history ends with may follow what is before it
may-last : (script : ScriptValue) (m : Parameters) (i : ℕ) (es : List SliceEntry) (e : SliceEntry) → IsLegal (shape_in m i) (es ++ e ∷ []) → EntryMayFollow (shape_in m i) es e
may-last script m i es e legal =
    let last : get_or (es ++ e ∷ []) (length es) e ≡ e = get_or-append_seam es e [] e in
    let front : take (length es) (es ++ e ∷ []) ≡ es = take-append_seam es (e ∷ []) in
    subst (λ x. EntryMayFollow (shape_in m i) es x) last (subst (λ xs. EntryMayFollow (shape_in m i) xs (get_or (es ++ e ∷ []) (length es) e)) front
    (EachFollows-at (EntryMayFollow (shape_in m i)) (es ++ e ∷ []) (length es) e legal (omega (arith, length_push es e))))

-- the entries of a slice, in the journals
pub slice_at-journals : (commands : List TreeEntryValue) (slices : List SliceValue) (i : ℕ) (d : SliceValue) → i < length slices → slice_at (journals_of commands slices) i ≡ (get_or slices i d).entries
slice_at-journals commands slices i d within = get_or-map (λ (s : SliceValue). s.entries) slices i d [] within

-- the machine has noted it
pub notes-grows : (script : ScriptValue) (old new : World) (i : ℕ) (e : SliceEntry) (s : SliceValue) → i < length old.slices.items → new.commands.items ≡ old.commands.items → new.slices.items ≡ set old.slices.items i s
    → Grows e (get_or old.slices.items i s) s → IsWorldOf script old → Notes script.machine i e (machine_of old) (machine_of new)
notes-grows script old new i e s within commands slices grows world =
    let entries : SliceValue → List SliceEntry = λ (x : SliceValue). x.entries in
    let before = journals_of (map entry_value old.commands.items) old.slices.items in
    let was = world.slices.caches i s within in
    let list : slice_at before i ≡ (get_or old.slices.items i s).entries = slice_at-journals (map entry_value old.commands.items) old.slices.items i s within in
    let legal : IsLegal (shape_in script.machine i) ((get_or old.slices.items i s).entries ++ e ∷ []) =
    subst (λ es. IsLegal (shape_in script.machine i) es) grows.entries (subst (λ shape. IsLegal shape s.entries) (grows.shape ∙ was.shape) (grows.stands was.stands).legal) in
    let count : length before.slices ≡ length old.slices.items = length-map old.slices.items entries in
    let now : map entries new.slices.items ≡ set before.slices i (slice_at before i ++ e ∷ []) =
    ap (map entries) slices ∙ (map-set entries old.slices.items i s ∙ ap (λ es. set before.slices i es) (grows.entries ∙ ap (λ es. es ++ e ∷ []) (sym list))) in
    record {
      tree = ap (map entry_value) commands;
      count = ap length now ∙ length-set before.slices i (slice_at before i ++ e ∷ []);
      within = omega (arith, count, within);
      may = subst (λ es. EntryMayFollow (shape_in script.machine i) es e) (sym list) (may-last script script.machine i (get_or old.slices.items i s).entries e legal);
      slices = adds_set before (map entries new.slices.items) i e (omega (arith, count, within)) now;
    }
