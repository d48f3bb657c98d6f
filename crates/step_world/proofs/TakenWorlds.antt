-- A command takes the tree of a world.
use Rattle.std.proofs.Common.{◌≡◌, ◌≢◌, ℕ, ◌+◌, ◌*◌, ◌<◌, ◌≤◌, true, List, [], ◌∷◌, length, map, get_or, set, Option, Some, None, refl, sym, ap, ◌∙◌, subst, arith}
use Rattle.std.specs.Prelude.{◌^◌, IsSome, vec_capacity}
use Rattle.std.proofs.lemmas.Option.{same_Some}
use Rattle.rc_base.specs.Buffers.{Looks}
use Rattle.run_law.specs.Entries.{entry_value}
use Rattle.run_law.specs.Journals.{JournalsValue}
use Rattle.run_law.specs.Ops.{is_command}
use Rattle.run_law.specs.Quotas.{most_counts}
use Rattle.run_law.specs.TreeHistory.{tree_after}
use Rattle.script_ops.specs.Values.{ScriptValue, op_at, ops_of, threads_of}
use Rattle.script_ops.specs.declared.op.Op.{Op}
use Rattle.script_ops.specs.declared.op.Op.TheVariants as ops
use Rattle.run_law.proofs.laws.CountedOps.{thread_within}
use Rattle.step_world.proofs.KeptWorlds.{IsWorldOf-step, Leaves, moves-leaves}
use Rattle.step_world.proofs.laws.LookedCounts.{take_looked}
use Rattle.step_world.proofs.laws.StepRows.{step_takes}
use Rattle.step_world.specs.Answers.{HasNext, HasTaken}
use Rattle.run_law.proofs.laws.ReadyLists.{drop-at}
use Rattle.run_law.specs.FoundLooks.{found_at}
use Rattle.run_law.specs.LookLists.{AreReady, rooms_of}
use Rattle.step_world.specs.Looked.{HasLooked}
use Rattle.step_world.specs.Machine.{Moves, Steps, Takes, thread_at}
use Rattle.step_world.specs.Worlds.{AreInPlay, HasList, HasLists, IsLookingAt, IsTreeOf, IsWorldOf, journals_of, machine_of, rooms_from}
use Rattle.step_world.specs.declared.thread_state.ThreadState.{ThreadState}
use Rattle.step_world.specs.declared.thread_state.ThreadState.TheVariants.{Ready, Looking}
use Rattle.step_world.specs.declared.thread_state.Thread.{Thread}
use Rattle.step_world.specs.declared.world.World.{World}
use Rattle.tree_law.specs.Steps.{needs}

-- ---- lists

-- the rooms from a command on
pub rooms-command : (script : ScriptValue) (t n : ℕ) (op : Op) → op_at script t n ≡ Some op → is_command op ≡ true → rooms_from script t n ≡ most_counts script.machine op ∷ rooms_from script t (n + 1)
rooms-command script t n op is command = ap (rooms_of script.machine) (drop-at (ops_of script t) n op is) ∙ (rw command refl)

-- an access needs none
pub rooms-access : (script : ScriptValue) (t n task cpu addr : ℕ) → op_at script t n ≡ Some (ops.Access task cpu addr) → rooms_from script t n ≡ rooms_from script t (n + 1)
rooms-access script t n task cpu addr is = ap (rooms_of script.machine) (drop-at (ops_of script t) n (ops.Access task cpu addr) is)

-- a thread with a next op is there
pub within-next : (script : ScriptValue) (w : World) (t : ℕ) (op : Op) → IsWorldOf script w → HasNext script (machine_of w) t op → t < length w.threads.items
within-next script w t op world next =
    omega (arith, world.threads, thread_within (threads_of script) t (thread_at (machine_of w) t).next (subst (λ (o : Option Op). IsSome o) (sym next.is) refl))

-- ---- steps that leave the journals

-- what a step changes that leaves the tree, its history and the lists
pub record IsQuiet (t : ℕ) (now : Thread) (old new : World) : Type 0 where
  pub tree : new.tree ≡ old.tree
  pub commands : new.commands ≡ old.commands
  pub lists : new.lists ≡ old.lists
  pub closing : new.closing ≡ old.closing
  pub phase : new.phase ≡ old.phase
  pub threads : new.threads.items ≡ set old.threads.items t now

module _ (script : ScriptValue) (t : ℕ) (now : Thread) (old new : World) (world : IsWorldOf script old) (within : t < length old.threads.items) (quiet : IsQuiet t now old new) where
  -- the journals are as they were
  pub journals-quiet : new.slices.items ≡ old.slices.items → (machine_of new).journals ≡ (machine_of old).journals
  journals-quiet slices = ap (λ cs. journals_of (map entry_value cs.items) new.slices.items) quiet.commands ∙ ap (λ ss. journals_of (map entry_value old.commands.items) ss) slices

  -- the rest too
  pub leaves-quiet : ((u : ℕ) → u ≢ t → new.holder ≡ Some u → (old.holder ≡ Some u) × (new.work ≡ old.work)) → Leaves t now old new
  leaves-quiet work = record {
    phase = quiet.phase;
    threads = quiet.threads;
    capacity = ap vec_capacity quiet.commands;
    closing = quiet.closing;
    lists_count = ap (λ ls. length ls.items) quiet.lists;
    others = λ u d apart. ap (λ ls. get_or ls.items u d) quiet.lists;
    work = work;
  }

  -- the tree is the one of its history
  pub tree-quiet : IsTreeOf script (map entry_value new.commands.items) new.tree
  tree-quiet = subst (λ cs. IsTreeOf script (map entry_value cs.items) new.tree) (sym quiet.commands) (subst (λ tree. IsTreeOf script (map entry_value old.commands.items) tree) (sym quiet.tree) world.tree)

  -- the lists of the thread are as they were
  pub lists-quiet : (place : ThreadState) (d : List Looks) → (thread_at (machine_of old) t).state ≡ place → HasLists script t (thread_at (machine_of old) t).next place (get_or new.lists.items t d)
  lists-quiet place d is = subst (λ ls. HasLists script t (thread_at (machine_of old) t).next place (get_or ls.items t d)) (sym quiet.lists) (subst (λ p. HasLists script t (thread_at (machine_of old) t).next p (get_or old.lists.items t d)) is (world.lists t d within))

-- ---- Take

-- the new work of a command that has taken the tree
pub record BeginsWork (op : Op) (old new : World) : Type 0 where
  pub counts : 0 < new.work.count → new.work.counts ≡ Some (needs old.tree.machine old.tree.state op)
  pub number : new.work.count ≡ length (needs old.tree.machine old.tree.state op)
  pub few : new.work.count < 2 ^ 32
  pub at : new.work.at ≡ 0
  pub slice : new.work.slice ≡ 0
  pub lines : new.work.lines ≡ 0

-- a list for the command stands last
list-taken : (script : ScriptValue) (t n : ℕ) (op : Op) (lists : List Looks) → op_at script t n ≡ Some op → is_command op ≡ true → AreReady (rooms_from script t n) lists → HasList script t n [] lists
list-taken script t n op lists is command ready =
    let its : AreReady (most_counts script.machine op ∷ rooms_from script t (n + 1)) lists = subst (λ rooms. AreReady rooms lists) (rooms-command script t n op is command) ready in
    record {
      front = its.0;
      last = its.1;
      is = its.2;
      numbers_are = its.3;
      room = λ other there. subst (λ c. most_counts script.machine c ≤ 0 + its.1.spare) (same_Some op other (sym is ∙ there)) (omega (arith, its.4));
      ready = its.5;
    }

pub IsWorldOf-taken : (script : ScriptValue) (t n : ℕ) (op : Op) (old new : World) → IsWorldOf script old → HasNext script (machine_of old) t op → n ≡ (thread_at (machine_of old) t).next
    → (thread_at (machine_of old) t).state ≡ Ready → old.holder ≡ None → is_command op ≡ true → IsQuiet t (record { next = n; state = Looking 0 }) old new → new.slices.items ≡ old.slices.items → new.holder ≡ Some t → BeginsWork op old new
    → IsWorldOf script new × HasTaken t op (machine_of old) (machine_of new)
IsWorldOf-taken script t n op old new world next number place free command quiet slices holder work =
    let now : Thread = record { next = n; state = Looking 0 } in
    let within = within-next script old t op world next in
    let leaves : Leaves t now old new = leaves-quiet script t now old new world within quiet (λ u apart held. absurd (apart (same_Some u t (sym held ∙ holder)))) in
    let journals = journals-quiet script t now old new world within quiet slices in
    let moves : Moves t now (machine_of old) (machine_of new) = moves-leaves t now old new within leaves in
    let takes : Takes t (machine_of old) (machine_of new) = record {
      journals = journals;
      holder = holder;
      moves = subst (λ k. Moves t (record { next = k; state = Looking 0 }) (machine_of old) (machine_of new)) number moves;
    } in
    let step : Steps script t (machine_of old) (machine_of new) = step_takes script t op (machine_of old) (machine_of new) next.present next.is command place free takes in
    let looked : HasLooked script (machine_of new) t op [] = take_looked script t op (machine_of old) (machine_of new) place free takes world.so_far in
    let list : (d : List Looks) → HasList script t n [] (get_or new.lists.items t d) = λ d.
    subst (λ k. HasList script t k [] (get_or new.lists.items t d)) (sym number)
    (list-taken script t (thread_at (machine_of old) t).next op (get_or new.lists.items t d) next.is command (lists-quiet script t now old new world within quiet Ready d place)) in
    let same : needs old.tree.machine old.tree.state op ≡ needs script.machine (tree_after script (machine_of new).journals.tree) op =
    ap (λ m. needs m old.tree.state op) world.tree.machine ∙ (ap (λ s. needs script.machine s op) world.tree.state ∙ ap (λ (j : JournalsValue). needs script.machine (tree_after script j.tree) op) (sym journals)) in (
      IsWorldOf-step script old new t now world within step leaves (tree-quiet script t now old new world within quiet) (subst (λ ss. AreInPlay script ss) (sym slices) world.slices) (λ d. ([], list d))
          (λ other d held is.
          let its : op ≡ other = same_Some op other (sym next.is ∙ subst (λ k. op_at script t k ≡ Some other) number is) in
          subst (λ c. IsLookingAt script (machine_of new) t c (get_or new.lists.items t d) new.work) its (record {
            found = [];
            looked = looked;
            counts = λ some. work.counts some ∙ ap (λ ns. Some ns) same;
            number = work.number ∙ ap length same;
            few = work.few;
            made = let zero_times : 0 * script.machine.slices ≡ 0 = omega arith in let none : new.work.at * script.machine.slices ≡ 0 = ap (λ k. k * script.machine.slices) work.at ∙ zero_times in omega (arith, none, work.slice);
            within = omega (arith, work.at);
            slice = omega (arith, work.slice, world.lawful.in_range.some_slice);
            last = λ end. work.slice;
            numbers = [];
            list = subst (λ (v : Thread). HasList script t v.next [] (get_or new.lists.items t d)) (sym moves.there) (list d);
            count = sym work.at;
            each = λ q less. absurd (omega (arith, less, work.at));
            lines = work.lines ∙ (ap (λ k. found_at script.machine.slices [] new.work.at k) (sym work.slice));
            bound = omega (arith, work.lines);
          })),
      record { command = command; place = place; free = free; row = takes },
    )
