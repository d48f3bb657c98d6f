-- A command that takes the tree.
use Rattle.std.proofs.Common.{◌≡◌, ℕ, List, ◌++◌, ap, sym, ◌∙◌, subst, arith}
use Rattle.live_run.proofs.TakenTrees.{command_looks}
use Rattle.live_run.proofs.Trees.{tree_tasks}
use Rattle.live_run.proofs.tree.TreeCell.command.Given.{Over}
use Rattle.live_run.specs.Cells.{TreeCellValue}
use Rattle.live_run.specs.Names.{history_of}
use Rattle.live_run.specs.Commands.{LooksAt}
use Rattle.machine.specs.declared.parameters.Parameters.{Parameters}
use Rattle.run_law.specs.TreeHistory.{tree_after}
use Rattle.run_law.proofs.laws.SoundHistories.{Fits-op_at}
use Rattle.schedule_law.specs.LiveParts.{after as after_event}
use Rattle.schedule_law.specs.LiveSteps.{MayTake}
use Rattle.schedule_law.specs.declared.part.Happening.TheVariants as happenings
use Rattle.script_ops.specs.Fits.{Fits}
use Rattle.seen_journal.proofs.laws.Entries.{length-list_of}
use Rattle.seen_journal.specs.Entries.{list_of}
use Rattle.shared_parts.specs.Parts.{parts_after}
use Rattle.tree_law.specs.State.{State, tasks_of}
use Rattle.tree_law.specs.Steps.{needs}
use Rattle.live_run.proofs.tree.TreeCell.command.Goals.{After-counts-counts, After-from, After-take, After-take-2}

-- the cell's state fits the op
pub op_fits_now : (g : Over) (c : After-take g) → Fits c.self.inside.tree.machine (tasks_of c.self.inside.tree.state) c.args.command.now.op.now
op_fits_now g c =
    let old : TreeCellValue = record { tree = c.self.inside.tree; journal = c.self.inside.journal; slices = c.self.inside.slices.items; share = c.self.inside.share } in
    let fits : Fits g.N.RunNames.script.machine g.N.RunNames.script.tasks c.args.command.now.op.now = Fits-op_at g.N.RunNames.script c.args.side.now.seen.thread c.args.command.now.number c.args.command.now.op.now c.self.invariant.lawful c.requires.op in
    subst (λ (m : Parameters). Fits m (tasks_of c.self.inside.tree.state) c.args.command.now.op.now) (sym c.self.invariant.machine)
    (subst (λ (ts : List ℕ). Fits g.N.RunNames.script.machine ts c.args.command.now.op.now) (sym (tree_tasks g.N.RunNames.script g.T.NamedTable.table g.N.RunNames.tree g.N.RunNames.slices old c.self.invariant)) fits)

-- the counts that the command needs
pub counts_are : (g : Over) (c : After-counts-counts g) → c.counts-counts.result ≡ needs g.N.RunNames.script.machine (tree_after g.N.RunNames.script (history_of c.self.inside.journal.entries)) c.args.command.now.op.now
counts_are g c =
    c.counts-counts.ensures.needs
    ∙ (ap (λ (m : Parameters). needs m c.self.inside.tree.state c.args.command.now.op.now) c.self.invariant.machine
    ∙ ap (λ (x : State). needs g.N.RunNames.script.machine x c.args.command.now.op.now) c.self.invariant.keeps.state_is)

-- by the parts at hand it may take the tree
pub may_take : (g : Over) (c : After-from g) → MayTake g.N.RunNames.script c.self.inside.share.parts c.args.side.now.share.parts c.from.result c.epoch-before.result
may_take g c =
    let taker : c.from.result ≡ c.args.side.now.seen.thread = c.from.ensures ∙ (c.thread.ensures.thread ∙ c.take.ensures.taken.thread) in
    subst (λ t. MayTake g.N.RunNames.script c.self.inside.share.parts c.args.side.now.share.parts t c.epoch-before.result) (sym taker)
    (record {
      some = c.self.invariant.lawful.in_range.some_slice;
      n = c.args.command.now.number;
      op = c.args.command.now.op.now;
      history = list_of c.self.inside.journal.entries;
      found = c.requires.worker.found;
      given = c.requires.worker.given;
      tree_is = c.self.invariant.share_is.parts_are;
      worker_is = c.requires.worker.is.parts_are;
      epoch_is = c.epoch-before.ensures ∙ (c.self.invariant.epoch ∙ sym (length-list_of c.self.inside.journal.entries));
      few = omega (arith, c.epoch-before.ensures, c.self.invariant.epoch, c.take.ensures.few);
      is = c.requires.op;
      command = c.requires.command;
    })

-- it has made no look yet
pub looks_at : (g : Over) (c : After-take-2 g) → LooksAt g.N.RunNames.script g.T.NamedTable.table c.args.command.now.number c.args.command.now.op.now 0 0 0 c.args.looks.numbers c.take.new.s c.take-2.new.worker
looks_at g c =
    let script = g.N.RunNames.script in
    let old : TreeCellValue = record { tree = c.self.inside.tree; journal = c.self.inside.journal; slices = c.self.inside.slices.items; share = c.self.inside.share } in
    let taker : c.from.result ≡ c.args.side.now.seen.thread = c.from.ensures ∙ (c.thread.ensures.thread ∙ c.take.ensures.taken.thread) in
    subst (λ (ns : List ℕ). LooksAt script g.T.NamedTable.table c.args.command.now.number c.args.command.now.op.now 0 0 0 ns c.take.new.s c.take-2.new.worker) (sym c.requires.looks)
    (command_looks script g.T.NamedTable.table g.N.RunNames.tree g.N.RunNames.slices old c.self.invariant c.take.new.slices.items c.take.ensures.passes c.take.ensures.grown c.args.side.now.seen c.take.new.s c.args.command.now.number c.args.command.now.op.now
    c.requires.op c.requires.command c.take.ensures.taken c.take.ensures.tree c.take.ensures.same c.requires.ready c.args.side.now.share c.take-2.new.worker c.requires.worker c.take-2.ensures.table.1
    (subst (λ t. c.take-2.new.worker.parts ≡ parts_after after_event (happenings.Take t) (c.self.inside.share.parts ++ c.args.side.now.share.parts)) taker c.take-2.ensures.worker))
