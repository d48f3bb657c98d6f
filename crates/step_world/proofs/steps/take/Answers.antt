use Rattle.std.proofs.Common.{ap, length, map, refl, sym, subst, Some, ◌∙◌}
use Rattle.run_law.specs.Entries.{entry_value}
use Rattle.script_ops.specs.Fits.{Fits}
use Rattle.run_law.proofs.laws.SoundHistories.{Fits-tree_after}
use Rattle.step_world.proofs.TakenWorlds.{IsWorldOf-taken}
use Rattle.step_world.proofs.steps.take.Goals as goal
use Rattle.step_world.specs.Machine.{thread_at}
use Rattle.step_world.specs.Worlds.{machine_of}
use Rattle.tree_law.specs.State.{tasks_of}

pub counts-counts-requires : goal.counts-counts-requires
counts-counts-requires c =
    let w = c.args.world.now in
    let tree = c.requires.world.tree in
    record {
      fits =
          subst (λ m. Fits m (tasks_of w.tree.state) c.args.op.now) (sym tree.machine) (subst (λ s. Fits c.args.script.now.machine (tasks_of s) c.args.op.now) (sym tree.state)
          (Fits-tree_after c.args.script.now (map entry_value w.commands.items) c.args.turn.thread (thread_at (machine_of w) c.args.turn.thread).next c.args.op.now c.requires.world.lawful c.requires.next.is));
    }

pub returns-clause-world : goal.returns-clause-world
returns-clause-world c =
    let told = c.look_for.ensures in
    (IsWorldOf-taken c.args.script.now c.args.turn.thread c.args.turn.number c.args.op.now c.args.world.now _ c.requires.world c.requires.next c.requires.number c.requires.place c.requires.free c.requires.command
    (record { tree = refl; commands = refl; lists = refl; closing = refl; phase = refl; threads = c.move_to.ensures }) refl refl
    (record {
      counts = λ some. told.counts some ∙ ap (λ x. Some x) c.counts-counts.ensures.needs;
      number = told.count ∙ ap length c.counts-counts.ensures.needs;
      few = told.few;
      at = told.at;
      slice = told.slice;
      lines = told.lines;
    })).0
