-- A world before its first step is one of its script, in the opening state.
use Rattle.std.proofs.Common.{◌≡◌, ℕ, ◌<◌, inl, inr, List, [], ◌∷◌, length, map, get_or, Some, None, sym, ap, ◌∙◌, subst, arith}
use Rattle.std.specs.Prelude.{vec_capacity}
use Rattle.std.proofs.lemmas.Bool.{cases_lt}
use Rattle.std.proofs.lemmas.List.{get_or-map, get_or_past, length-map}
use Rattle.machine.specs.Slices.{slice_count}
use Rattle.run_law.specs.Caches.{IsCacheOf}
use Rattle.run_law.specs.Entries.{entry_value}
use Rattle.run_law.specs.Journals.{slice_at}
use Rattle.run_law.specs.Quotas.{command_count}
use Rattle.run_law.specs.TreeHistory.{TreeEntryValue, tree_after}
use Rattle.script_ops.specs.Values.{IsLawful, ScriptValue, threads_of}
use Rattle.step_world.proofs.laws.Schedules.{opening_so_far}
use Rattle.step_world.specs.Machine.{opening_thread}
use Rattle.step_world.specs.Schedules.{IsOpening}
use Rattle.step_world.specs.Openings.{AreFirst, AreFresh, AreListed, HasRooms}
use Rattle.step_world.specs.Slices.{SliceValue}
use Rattle.step_world.specs.Worlds.{AreInPlay, HasLists, IsTreeOf, IsWithin, IsWorldOf, journals_of, machine_of}
use Rattle.step_world.specs.declared.thread_state.Thread.{Thread}
use Rattle.step_world.specs.declared.world.World.{World}
use Rattle.tree_law.specs.State.{opening}

-- the slices are in play
AreInPlay-fresh : (script : ScriptValue) (slices : List SliceValue) → AreFresh script (slice_count script.machine) slices → AreInPlay script slices
AreInPlay-fresh script slices fresh = record {
  count = fresh.count;
  caches = λ i d within.
      let one = fresh.each i d (omega (arith, within, fresh.count)) in
      subst (λ es. IsCacheOf script.machine i es (get_or slices i d).cache) (sym one.empty) one.cache;
  rooms = λ i d within. omega (arith, fresh.rooms i d (omega (arith, within, fresh.count)));
}

-- and have no entries
no_entries : (script : ScriptValue) (commands : List TreeEntryValue) (slices : List SliceValue) → AreFresh script (slice_count script.machine) slices → (i : ℕ) → slice_at (journals_of commands slices) i ≡ []
no_entries script commands slices fresh i = elim (cases_lt i (length slices)) [
  | inl within ↦ there slices i within (λ d. (fresh.each i d (omega (arith, within, fresh.count))).empty)
  | inr past ↦ get_or_past (map (λ (s : SliceValue). s.entries) slices) i [] (omega (arith, past, length-map slices (λ (s : SliceValue). s.entries)))
]
  where
    there : (slices : List SliceValue) (i : ℕ) → i < length slices → ((d : SliceValue) → (get_or slices i d).entries ≡ []) → get_or (map (λ (s : SliceValue). s.entries) slices) i [] ≡ []
    there [] i within empty = absurd (omega (arith, within))
    there (s ∷ slices) i within empty = get_or-map (λ (s : SliceValue). s.entries) (s ∷ slices) i s [] within ∙ empty s

-- what is made of the parts of a world before its first step
pub record IsMade (script : ScriptValue) (w : World) : Type 0 where
  pub lawful : IsLawful script
  pub machine : w.tree.machine ≡ script.machine
  pub state : w.tree.state ≡ opening script.machine script.tasks
  pub epoch : w.tree.epoch ≡ 0
  pub commands : w.commands.items ≡ []
  pub room : vec_capacity w.commands ≡ command_count script
  pub slices : AreFresh script (slice_count script.machine) w.slices.items
  pub threads : AreFirst (length (threads_of script)) w.threads.items
  pub lists : AreListed script (length (threads_of script)) w.lists.items
  pub phase : w.phase ≡ 0
  pub holder : w.holder ≡ None
  pub closing : w.closing.items ≡ []
  pub closing_room : vec_capacity w.closing ≡ length w.slices.items

module _ (script : ScriptValue) (w : World) (made : IsMade script w) where
  -- its state is the opening one
  pub IsOpening-made : IsOpening script (machine_of w)
  IsOpening-made = record {
    tree = ap (map entry_value) made.commands;
    count = length-map w.slices.items (λ (s : SliceValue). s.entries) ∙ made.slices.count;
    slices = no_entries script (map entry_value w.commands.items) w.slices.items made.slices;
    phase = made.phase;
    holder = made.holder;
    threads = made.threads.each;
  }

  -- it has just the rooms that the script needs
  pub HasRooms-made : HasRooms script w
  HasRooms-made = record {
    commands = made.room;
    count = made.slices.count;
    slices = made.slices.rooms;
    closing = made.closing_room ∙ made.slices.count;
    lists = made.lists;
  }

  -- each thread is at its beginning
  first_within : (t : ℕ) → IsWithin script t opening_thread
  first_within t = (omega arith, tt)

  tree_made : IsTreeOf script (map entry_value w.commands.items) w.tree
  unfolding tree_after
  tree_made = record {
    machine = made.machine;
    state = made.state ∙ ap (tree_after script) (sym (ap (map entry_value) made.commands));
    epoch = made.epoch ∙ sym (ap (λ cs. length (map entry_value cs)) made.commands);
  }

  -- it is one of the script
  pub IsWorldOf-made : IsWorldOf script w
  IsWorldOf-made = record {
    lawful = made.lawful;
    so_far = opening_so_far script (machine_of w) IsOpening-made;
    phase = omega (arith, made.phase);
    tree = tree_made;
    slices = AreInPlay-fresh script w.slices.items made.slices;
    room = omega (arith, made.room);
    closing = (made.closing, omega (arith, made.closing_room, made.slices.count));
    threads = made.threads.count;
    within = λ t. subst (λ v. IsWithin script t v) (sym (made.threads.each t)) (first_within t);
    lists_count = made.lists.count;
    lists = λ t d within.
        subst (λ (v : Thread). HasLists script t v.next v.state (get_or w.lists.items t d)) (sym (made.threads.each t)) (made.lists.each t d (omega (arith, within, made.threads.count)));
    work = λ t op d held is. absurd (let wrong : None ≡ Some t = sym made.holder ∙ held in cc);
  }
