use Rattle.std.proofs.Common.{◌≡◌, ◌+◌, ◌<◌, length, map, get_or, All, refl, sym, ap, ◌∙◌, subst, arith}
use Rattle.std.proofs.lemmas.List.{length-map}
use Rattle.run_law.proofs.laws.SoundHistories.{Fits-tree_after}
use Rattle.run_law.specs.Entries.{entry_value}
use Rattle.script_ops.specs.Fits.{Fits}
use Rattle.run_law.proofs.laws.LightRooms.{commands-light}
use Rattle.step_world.proofs.CommandRooms.{commands-less}
use Rattle.step_world.proofs.DecidedCounts.{list-parts, numbers-all}
use Rattle.step_world.proofs.DecidedWorlds.{decided}
use Rattle.step_world.proofs.LookingWorlds.{looking}
use Rattle.step_world.proofs.RoomLeft.{op-few}
use Rattle.step_world.proofs.commands.decide.Goals as goal
use Rattle.run_law.specs.LookLists.{AreReady}
use Rattle.step_world.specs.Machine.{thread_at}
use Rattle.step_world.specs.Worlds.{machine_of, rooms_from}
use Rattle.tree_core.specs.Follows.{IsReady}
use Rattle.tree_law.specs.State.{tasks_of}
use Rattle.tree_law.specs.Steps.{follow_domain, needs, next}

pub apply-reply-requires-clause-fits : goal.apply-reply-requires-clause-fits
apply-reply-requires-clause-fits c =
    let w = c.args.world.now in
    let tree = c.requires.world.tree in
    subst (λ m. Fits m (tasks_of w.tree.state) c.args.op.now) (sym tree.machine) (subst (λ s. Fits c.args.script.now.machine (tasks_of s) c.args.op.now) (sym tree.state)
    (Fits-tree_after c.args.script.now (map entry_value w.commands.items) c.args.turn.thread (thread_at (machine_of w) c.args.turn.thread).next c.args.op.now c.requires.world.lawful c.requires.next.is))

pub apply-reply-requires-clause-looks : goal.apply-reply-requires-clause-looks
apply-reply-requires-clause-looks c =
    let r = c.requires in
    let w = c.args.world.now in
    let script = c.args.script.now in
    let had = c.index_mut.result.now in
    let its = looking script c.args.turn.thread c.args.made c.args.op.now w r.world r.next r.place had in
    let parts = list-parts script c.args.turn.thread c.args.made c.args.op.now w r.world r.next r.place (get_or w.lists.items c.args.turn.thread had) its r.all c.take-looks.new.self c.take-looks.result (sym c.index_mut.ensures.value ∙ c.take-looks.ensures) in
    ap length (c.items.ensures ∙ parts.0)
    ∙ (numbers-all script c.args.turn.thread c.args.made c.args.op.now w r.world r.next r.place (get_or w.lists.items c.args.turn.thread had) its r.all
    ∙ sym (ap (λ m. length (needs m w.tree.state c.args.op.now)) r.world.tree.machine ∙ ap (λ s. length (needs script.machine s c.args.op.now)) r.world.tree.state))

pub apply-reply-requires-clause-epoch : goal.apply-reply-requires-clause-epoch
apply-reply-requires-clause-epoch c =
    let r = c.requires in
    omega (arith, r.world.tree.epoch, commands-less c.args.script.now (machine_of c.args.world.now) c.args.turn.thread c.args.made c.args.op.now r.world.so_far r.place r.next.is, commands-light c.args.script.now r.world.lawful)

pub push_reserved-requires : goal.push_reserved-requires
push_reserved-requires c =
    let r = c.requires in
    let w = c.args.world.now in
    omega (arith, length-map w.commands.items entry_value, commands-less c.args.script.now (machine_of w) c.args.turn.thread c.args.made c.args.op.now r.world.so_far r.place r.next.is, r.world.room)

pub settle-requires-clause-number : goal.settle-requires-clause-number
settle-requires-clause-number c =
    let r = c.requires in
    omega (arith, r.number, op-few c.args.script.now c.args.turn.thread (thread_at (machine_of c.args.world.now) c.args.turn.thread).next c.args.op.now r.world.lawful r.next.is)

pub returns : goal.returns
returns c =
    let r = c.requires in
    let w = c.args.world.now in
    let script = c.args.script.now in
    let op = c.args.op.now in
    let had = c.index_mut.result.now in
    let told = c.apply-reply.ensures in
    let begun = c.follow_with.ensures in
    let its = looking script c.args.turn.thread c.args.made op w r.world r.next r.place had in
    let parts = list-parts script c.args.turn.thread c.args.made op w r.world r.next r.place (get_or w.lists.items c.args.turn.thread had) its r.all c.take-looks.new.self c.take-looks.result (sym c.index_mut.ensures.value ∙ c.take-looks.ensures) in
    let numbers : c.items.result.now ≡ its.numbers = c.items.ensures ∙ parts.0 in
    let done = decided script c.args.turn.thread c.args.made op w r.world r.next r.place (get_or w.lists.items c.args.turn.thread had) its r.all c.args.turn.number
    (record { thread = c.args.turn.thread; op = c.args.turn.number; reply = c.apply-reply.result.0; looks = c.take-looks.result }) c.take-looks.new.self _ c.settle.new.world r.number refl refl parts.0
    (record {
      machine = told.machine;
      reply = told.reply ∙ ap (λ ns. (next w.tree.machine w.tree.state op ns).reply) numbers;
      state = told.state ∙ ap (λ ns. (next w.tree.machine w.tree.state op ns).state) numbers;
      epoch = told.epoch;
      after = begun.after ∙ told.after;
      domains = subst (λ fs. All (λ f. follow_domain f < w.tree.machine.domains) fs) (sym begun.after) told.domains;
      ready = subst (λ fs. All (IsReady w.tree.machine) fs) (sym begun.after) told.ready;
      at = begun.at;
      slice = begun.slice;
      commands = c.push_reserved.ensures.items;
      capacity = c.push_reserved.ensures.capacity;
      slices = refl;
      threads = refl;
      holder = refl;
      phase = refl;
      closing = refl;
      lists = refl;
    }) c.settle.ensures
    (subst (λ k. AreReady (rooms_from script c.args.turn.thread (k + 1)) c.take-looks.new.self) (sym r.number) parts.1) in
    record { world = done.0; decided = done.1 }
