use Rattle.std.proofs.Common.{◌≡◌, ◌∙◌, sum, ap, sym, subst, arith}
use Rattle.live_run.proofs.Bridges.{tree_more}
use Rattle.live_run.proofs.Room.{sum-tree_quotas}
use Rattle.live_run.proofs.seen.see.Goals as goal
use Rattle.live_run.specs.Cells.{AreOfThreads, taken_from}
use Rattle.live_run.specs.Names.{SeenValue}
use Rattle.live_run.specs.Steps.{HasSeenTree, HasTaken}
use Rattle.run_law.specs.Quotas.{command_count}
use Rattle.seen_journal.specs.Journals.{JournalName}

pub invariant_of-s : goal.invariant_of-s
invariant_of-s g c = record {
  tree_name = c.show.ensures.seen.name ∙ c.s.invariant.tree_name;
  tree_number = c.show.ensures.seen.number ∙ c.s.invariant.tree_number;
  tree_threads = subst (λ xs. AreOfThreads taken_from xs) (sym c.show.ensures.seen.seen_are) c.requires.threads;
  count = c.s.invariant.count;
  names = c.s.invariant.names;
  numbers = c.s.invariant.numbers;
  threads = c.s.invariant.threads;
  quotas = c.s.invariant.quotas;
}

pub returns-clause-most : goal.returns-clause-most
returns-clause-most g c =
    let all : sum c.args.journal.now.name.quotas ≡ command_count g.N.RunNames.script = ap (λ (n : JournalName). sum n.quotas) c.requires.name ∙ sum-tree_quotas g.N.RunNames.script g.N.RunNames.tree g.N.RunNames.slices c.s.invariant.quotas in
    omega (arith, c.show.ensures.most, all)

pub returns-clause-taken : goal.returns-clause-taken
returns-clause-taken g c =
    let s : SeenValue = record { thread = c.s.inside.thread; tree = c.s.inside.tree; slices = c.s.inside.slices.items } in
    let now : SeenValue = record s { tree = c.show.new.pass } in
    let threads : AreOfThreads taken_from c.show.new.pass.seen = subst (λ xs. AreOfThreads taken_from xs) (sym c.show.ensures.seen.seen_are) c.requires.threads in
    let more : HasSeenTree s now = tree_more g.N.RunNames.script g.N.RunNames.tree g.N.RunNames.slices s c.show.new.pass c.args.journal.now.entries c.s.invariant c.show.ensures.seen threads in
    subst (λ (v : SeenValue). HasTaken v now) c.s.view_is (record { thread = more.thread; sees = more.sees })
