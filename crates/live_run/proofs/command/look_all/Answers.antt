use Rattle.std.proofs.Common.{◌≡◌, ℕ, ◌+◌, ◌<◌, ◌∙◌, List, length, ap, refl, sym, subst, arith}
use Rattle.std.proofs.lemmas.Option.{get_or_from_slice_get}
use Rattle.live_law.proofs.laws.SeenJournals.{HasGrown-self, HasGrown-through}
use Rattle.live_run.proofs.Bridges.{history_length}
use Rattle.live_run.proofs.Growth.{HasGrown-added}
use Rattle.live_run.proofs.Looked.{has_counted, has_looked, may_look, next_count}
use Rattle.live_run.proofs.command.look_all.Goals as goal
use Rattle.live_run.proofs.command.look_all.Goals.{After-at-domain, After-slice_number-i}
use Rattle.live_run.proofs.command.look_all.Given.{Over}
use Rattle.live_run.specs.Names.{SeenValue, history_of, seen_by}
use Rattle.live_run.specs.Commands.{LooksAt}
use Rattle.live_run.specs.Sharing.{IsNextCount}
use Rattle.live_run.specs.Steps.{HasAdded}
use Rattle.live_run.specs.Visits.{MayLook}
use Rattle.cache_core.specs.Stands.{entry}
use Rattle.cache_core.specs.declared.entry.What.TheVariants as whats
use Rattle.machine.specs.Slices.{slice_count, slice_number}
use Rattle.machine.specs.declared.parameters.Parameters.{Parameters}
use Rattle.run_law.specs.FoundLooks.{AreDistinct}
use Rattle.run_law.specs.Journals.{At}
use Rattle.run_law.specs.TreeHistory.{tree_after}
use Rattle.run_law.specs.declared.journals.TreeEntry.{TreeEntry}
use Rattle.script_ops.specs.Values.{ScriptValue}
use Rattle.seen_journal.specs.Journals.{JournalValue}
use Rattle.seen_journal.specs.Passes.{PassValue}
use Rattle.tree_law.specs.LawsCounts.{CanLook}
use Rattle.tree_law.specs.Steps.{needs}

-- the count is of a domain and an RMID that are there
can_look : (g : Over) (c : After-at-domain g) → CanLook g.N.RunNames.script.machine c.at-domain.result
can_look g c = subst (CanLook g.N.RunNames.script.machine) (get_or_from_slice_get c.args.counts.now c.loop-q.q c.at-domain.result c.at-domain.result c.at-domain.ensures) (c.requires.exist c.loop-q.q c.at-domain.result (omega (arith, c.loop-q-test.true, c.len-q-end.ensures)))

pub slice_number-i-requires-clause-domain_there : goal.slice_number-i-requires-clause-domain_there
slice_number-i-requires-clause-domain_there g c =
    let can = can_look g (goal.at.slice_number-i-requires-clause-domain_there g c).After-at-domain in
    omega (arith, can.0, ap (λ (m : Parameters). m.domains) (c.machine-m.ensures ∙ ap (λ (x : ScriptValue). x.machine) c.requires.script))

-- What is known at each look.
record AtLook (g : Over) (c : After-slice_number-i g) : Type 0 where
  is_need : At (needs g.N.RunNames.script.machine (tree_after g.N.RunNames.script (history_of c.loop-x.side.seen.tree.seen)) c.args.turn.now.op.now) c.loop-q.q c.at-domain.result
  distinct : AreDistinct (needs g.N.RunNames.script.machine (tree_after g.N.RunNames.script (history_of c.loop-x.side.seen.tree.seen)) c.args.turn.now.op.now)
  below : c.loop-x.x < g.N.RunNames.script.machine.slices
  number : c.slice_number-i.result ≡ slice_number g.N.RunNames.script.machine c.at-domain.result.0 c.loop-x.x
  within : slice_number g.N.RunNames.script.machine c.at-domain.result.0 c.loop-x.x < slice_count g.N.RunNames.script.machine
  whole : c.loop-x.side.seen.tree.seen ≡ c.loop-x.history.entries
  epoch : c.args.turn.now.epoch ≡ length c.loop-x.history.entries

at_look : (g : Over) (c : After-slice_number-i g) → AtLook g c
at_look g c =
    let script = g.N.RunNames.script in
    let machine = c.machine-m.ensures ∙ ap (λ (x : ScriptValue). x.machine) c.requires.script in
    let number : c.slice_number-i.result ≡ slice_number script.machine c.at-domain.result.0 c.loop-x.x = c.slice_number-i.ensures.number ∙ ap (λ (m : Parameters). slice_number m c.at-domain.result.0 c.loop-x.x) machine in
    let counts : c.args.counts.now ≡ needs script.machine (tree_after script (history_of c.loop-x.side.seen.tree.seen)) c.args.turn.now.op.now =
    c.requires.counts ∙ ap (λ (p : PassValue TreeEntry). needs script.machine (tree_after script (history_of p.seen)) c.args.turn.now.op.now) (sym c.loop-x.invariant.tree) in
    let entries : c.loop-x.history.entries ≡ c.args.history.now.entries = ap (λ (j : JournalValue TreeEntry). j.entries) c.loop-x.invariant.history in
    record {
      is_need = subst (λ (xs : List (ℕ × ℕ)). At xs c.loop-q.q c.at-domain.result) counts c.at-domain.ensures;
      distinct = subst (λ (xs : List (ℕ × ℕ)). AreDistinct xs) counts c.requires.distinct;
      below = omega (arith, c.loop-x-test.true, ap (λ (m : Parameters). m.slices) machine);
      number = number;
      within = omega (arith, c.slice_number-i.ensures.within, number, ap slice_count machine);
      whole = ap (λ (p : PassValue TreeEntry). p.seen) c.loop-x.invariant.tree ∙ (c.requires.whole ∙ sym entries);
      epoch = c.requires.epoch ∙ ap length (sym entries);
    }

pub look-lines-requires-clause-may : goal.look-lines-requires-clause-may
look-lines-requires-clause-may g c =
    let it = at_look g (goal.at.look-lines-requires-clause-may g c).After-slice_number-i in
    let can = can_look g (goal.at.look-lines-requires-clause-may g c).After-at-domain in
    let script = g.N.RunNames.script in
    let name = ap (λ (j : JournalValue TreeEntry). j.name) c.loop-x.invariant.history ∙ c.requires.name in
    subst (λ i. MayLook script g.N.RunNames.tree i c.args.turn.now.number c.args.turn.now.epoch c.at-domain.result.1 c.loop-x.history c.loop-x.side.seen) (sym it.number)
    (may_look script g.T.NamedTable.table g.N.RunNames.tree c.args.turn.now.number c.args.turn.now.op.now c.loop-q.q c.loop-x.x c.loop-x.lines c.loop-q.looks.numbers c.loop-x.side.seen c.loop-x.side.share c.loop-x.invariant.at c.at-domain.result it.is_need it.below it.within
    c.args.turn.now.epoch c.loop-x.history name it.whole it.epoch can.1)

pub look-lines-requires-clause-next : goal.look-lines-requires-clause-next
look-lines-requires-clause-next g c =
    let it = at_look g (goal.at.look-lines-requires-clause-next g c).After-slice_number-i in
    let script = g.N.RunNames.script in
    subst (λ i. IsNextCount script g.T.NamedTable.table i c.args.turn.now.number c.at-domain.result.1 c.loop-x.history c.loop-x.side.seen c.loop-x.side.share) (sym it.number)
    (next_count script g.T.NamedTable.table g.N.RunNames.tree c.args.turn.now.number c.args.turn.now.op.now c.loop-q.q c.loop-x.x c.loop-x.lines c.loop-q.looks.numbers c.loop-x.side.seen c.loop-x.side.share c.loop-x.invariant.at c.at-domain.result it.is_need it.below it.within
    c.loop-x.history it.whole it.distinct)

pub loop-q-init : goal.loop-q-init
loop-q-init g c = record {
  history = refl;
  tree = refl;
  thread = refl;
  grown = HasGrown-self (seen_by c.args.side.now.seen);
  room = omega (arith, c.requires.room);
  at = c.requires.at;
}

pub loop-x-preserved : goal.loop-x-preserved
loop-x-preserved g c =
    let it = at_look g (goal.at.loop-x-preserved g c).After-slice_number-i in
    let script = g.N.RunNames.script in
    let s : SeenValue = c.loop-x.side.seen in
    let added : HasAdded (slice_number script.machine c.at-domain.result.0 c.loop-x.x) (entry s.thread c.args.turn.now.number c.args.turn.now.epoch (whats.Look c.at-domain.result.1 c.look-lines.result)) s c.look-lines.new.side.seen =
    subst (λ i. HasAdded i (entry s.thread c.args.turn.now.number c.args.turn.now.epoch (whats.Look c.at-domain.result.1 c.look-lines.result)) s c.look-lines.new.side.seen) it.number c.look-lines.ensures.added in
    record {
      history = c.look-lines.ensures.history ∙ c.loop-x.invariant.history;
      tree = c.look-lines.ensures.tree ∙ c.loop-x.invariant.tree;
      thread = added.thread ∙ c.loop-x.invariant.thread;
      grown = HasGrown-through (seen_by c.args.side.now.seen) (seen_by s) (seen_by c.look-lines.new.side.seen) c.loop-x.invariant.grown (HasGrown-added _ _ s c.look-lines.new.side.seen added);
      at = has_looked script g.T.NamedTable.table g.N.RunNames.tree c.args.turn.now.number c.args.turn.now.op.now c.loop-q.q c.loop-x.x c.loop-x.lines c.loop-q.looks.numbers s c.loop-x.side.share c.loop-x.invariant.at c.at-domain.result it.is_need it.below it.within
          c.args.turn.now.epoch c.look-lines.result c.look-lines.new.side.seen c.look-lines.new.side.share (omega (arith, it.epoch, ap length it.whole, history_length s.tree.seen)) c.look-lines.ensures.few it.distinct added c.look-lines.ensures.tree c.look-lines.ensures.worker;
    }

pub loop-q-preserved : goal.loop-q-preserved
loop-q-preserved g c =
    let script = g.N.RunNames.script in
    let last : c.loop-x.x ≡ script.machine.slices = omega (arith, c.loop-x-test.false, c.loop-x.auto.x-end, ap (λ (m : Parameters). m.slices) (c.machine-m.ensures ∙ ap (λ (x : ScriptValue). x.machine) c.requires.script)) in
    let whole : LooksAt script g.T.NamedTable.table c.args.turn.now.number c.args.turn.now.op.now c.loop-q.q script.machine.slices c.loop-x.lines c.loop-q.looks.numbers c.loop-x.side.seen c.loop-x.side.share =
    subst (λ x. LooksAt script g.T.NamedTable.table c.args.turn.now.number c.args.turn.now.op.now c.loop-q.q x c.loop-x.lines c.loop-q.looks.numbers c.loop-x.side.seen c.loop-x.side.share) last c.loop-x.invariant.at in
    record {
      history = c.loop-x.invariant.history;
      tree = c.loop-x.invariant.tree;
      thread = c.loop-x.invariant.thread;
      grown = c.loop-x.invariant.grown;
      room = omega (arith, c.loop-q.invariant.room, c.push.ensures.spare);
      at = subst (λ (ns : List ℕ). LooksAt script g.T.NamedTable.table c.args.turn.now.number c.args.turn.now.op.now (c.loop-q.q + 1) 0 0 ns c.loop-x.side.seen c.loop-x.side.share) (sym c.push.ensures.numbers)
          (has_counted script g.T.NamedTable.table c.args.turn.now.number c.args.turn.now.op.now c.loop-q.q c.loop-x.lines c.loop-q.looks.numbers c.loop-x.side.seen c.loop-x.side.share c.requires.range.slice_limit whole);
    }

pub returns-clause-done : goal.returns-clause-done
returns-clause-done g c =
    let last : c.loop-q.q ≡ length c.args.counts.now = omega (arith, c.loop-q-test.false, c.loop-q.auto.q-end, c.len-q-end.ensures) in
    subst (λ q. LooksAt g.N.RunNames.script g.T.NamedTable.table c.args.turn.now.number c.args.turn.now.op.now q 0 0 c.loop-q.looks.numbers c.loop-q.side.seen c.loop-q.side.share) last c.loop-q.invariant.at
