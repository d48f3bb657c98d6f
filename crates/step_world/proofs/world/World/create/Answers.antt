use Rattle.std.proofs.Common.{ap, refl, ◌∙◌, None}
use Rattle.step_world.proofs.OpeningWorlds.{HasRooms-made, IsOpening-made, IsWorldOf-made}
use Rattle.step_world.proofs.world.World.create.Goals as goal
use Rattle.tree_law.specs.State.{opening}

pub returns-clause-world : goal.returns-clause-world
returns-clause-world c = IsWorldOf-made c.args.script.now _ (record {
  lawful = c.first_threads.ensures.lawful;
  machine = c.in_ok-tree.ensures.machine ∙ c.machine.ensures;
  state = c.in_ok-tree.ensures.state ∙ (ap (λ p. opening p c.tasks.result.now) c.machine.ensures ∙ ap (opening c.args.script.now.machine) c.tasks.ensures.tasks);
  epoch = c.in_ok-tree.ensures.epoch;
  commands = c.in_ok-commands.ensures.commands;
  room = c.in_ok-commands.ensures.room;
  slices = c.in_ok-commands.ensures.slices;
  threads = c.in_ok-threads.ensures.first;
  lists = c.in_ok-lists.ensures;
  phase = refl;
  holder = refl;
  closing = c.in_ok-commands.ensures.closing;
  closing_room = c.in_ok-commands.ensures.closing_room;
})

pub returns-clause-opening : goal.returns-clause-opening
returns-clause-opening c = IsOpening-made c.args.script.now (record { tree = c.in_ok-tree.tree; commands = c.in_ok-commands.field-0.commands; slices = c.in_ok-commands.field-0.slices; threads = c.in_ok-threads.threads; lists = c.in_ok-lists.lists; phase = 0; holder = None; work = c.none.result; closing = c.in_ok-commands.field-0.closing }) (record {
  lawful = c.first_threads.ensures.lawful;
  machine = c.in_ok-tree.ensures.machine ∙ c.machine.ensures;
  state = c.in_ok-tree.ensures.state ∙ (ap (λ p. opening p c.tasks.result.now) c.machine.ensures ∙ ap (opening c.args.script.now.machine) c.tasks.ensures.tasks);
  epoch = c.in_ok-tree.ensures.epoch;
  commands = c.in_ok-commands.ensures.commands;
  room = c.in_ok-commands.ensures.room;
  slices = c.in_ok-commands.ensures.slices;
  threads = c.in_ok-threads.ensures.first;
  lists = c.in_ok-lists.ensures;
  phase = refl;
  holder = refl;
  closing = c.in_ok-commands.ensures.closing;
  closing_room = c.in_ok-commands.ensures.closing_room;
})

pub returns-clause-rooms : goal.returns-clause-rooms
returns-clause-rooms c = HasRooms-made c.args.script.now (record { tree = c.in_ok-tree.tree; commands = c.in_ok-commands.field-0.commands; slices = c.in_ok-commands.field-0.slices; threads = c.in_ok-threads.threads; lists = c.in_ok-lists.lists; phase = 0; holder = None; work = c.none.result; closing = c.in_ok-commands.field-0.closing }) (record {
  lawful = c.first_threads.ensures.lawful;
  machine = c.in_ok-tree.ensures.machine ∙ c.machine.ensures;
  state = c.in_ok-tree.ensures.state ∙ (ap (λ p. opening p c.tasks.result.now) c.machine.ensures ∙ ap (opening c.args.script.now.machine) c.tasks.ensures.tasks);
  epoch = c.in_ok-tree.ensures.epoch;
  commands = c.in_ok-commands.ensures.commands;
  room = c.in_ok-commands.ensures.room;
  slices = c.in_ok-commands.ensures.slices;
  threads = c.in_ok-threads.ensures.first;
  lists = c.in_ok-lists.ensures;
  phase = refl;
  holder = refl;
  closing = c.in_ok-commands.ensures.closing;
  closing_room = c.in_ok-commands.ensures.closing_room;
})
