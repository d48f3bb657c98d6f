-- A command up to its decision.
use Rattle.std.proofs.Common.{◌≡◌, ℕ, ◌*◌, List, [], ◌∷◌, ◌++◌, length, ap, ap₂, refl, sym, ◌∙◌, subst}
use Rattle.std.specs.Prelude.{nat_lt, not}
use Rattle.live_run.proofs.Bridges.{history_length}
use Rattle.live_run.proofs.Decisions.{IsDecided, IsToDecide, none_follows}
use Rattle.live_run.proofs.tree.TreeCell.command.Goals.{After-decide, After-is_empty}
use Rattle.live_run.proofs.tree.TreeCell.command.Given.{Over}
use Rattle.live_run.specs.Names.{history_of}
use Rattle.live_run.specs.Commands.{LooksAt}
use Rattle.machine.specs.declared.parameters.Parameters.{Parameters}
use Rattle.run_law.specs.Jobs.{jobs_of}
use Rattle.run_law.specs.TreeHistory.{tree_after}
use Rattle.run_law.specs.declared.journals.TreeEntry.{TreeEntry}
use Rattle.script_ops.specs.Values.{ScriptValue}
use Rattle.seen_journal.specs.Journals.{JournalValue}
use Rattle.seen_journal.specs.Passes.{PassValue}
use Rattle.tree_law.specs.State.{State}
use Rattle.tree_law.specs.Steps.{after, needs, next}

-- What is known when the command has made all its looks.
pub record HasLooked (g : Over) (c : After-is_empty g) : Type 0 where
  pub counts : c.counts-counts.result ≡ needs g.N.RunNames.script.machine (tree_after g.N.RunNames.script (history_of c.self.inside.journal.entries)) c.args.command.now.op.now
  pub looks :
      IsToDecide g.N.RunNames.script g.T.NamedTable.table (record { tree = c.self.inside.tree; journal = c.self.inside.journal; slices = c.self.inside.slices.items; share = c.self.inside.share }) c.args.side.now.seen c.look_all.new.side.seen c.args.command.now.number c.args.command.now.op.now
      (record { thread = c.thread-2.result; op = c.args.command.now.number; reply = c.apply-reply.result.0; looks = c.look_all.new.looks }) c.look_all.new.side.share
  -- how many looks it has made
  pub made : c.len.result * c.from-2.result ≡ length (needs g.N.RunNames.script.machine (tree_after g.N.RunNames.script (history_of c.self.inside.journal.entries)) c.args.command.now.op.now) * g.N.RunNames.script.machine.slices
  -- whether nothing follows it
  pub last : c.is_empty.result ≡ not (nat_lt (c.len.result * c.from-2.result) (length (jobs_of g.N.RunNames.script (history_of c.self.inside.journal.entries) (length (history_of c.self.inside.journal.entries)) c.args.command.now.op.now)))

pub has_looked : (g : Over) (c : After-is_empty g) → HasLooked g c
has_looked g c =
    let script = g.N.RunNames.script in
    let history = history_of c.self.inside.journal.entries in
    let counts : c.counts-counts.result ≡ needs g.N.RunNames.script.machine (tree_after g.N.RunNames.script (history_of c.self.inside.journal.entries)) c.args.command.now.op.now =
    c.counts-counts.ensures.needs
    ∙ (ap (λ (m : Parameters). needs m c.self.inside.tree.state c.args.command.now.op.now) c.self.invariant.machine
    ∙ ap (λ (x : State). needs script.machine x c.args.command.now.op.now) c.self.invariant.keeps.state_is) in
    let thread : c.look_all.new.side.seen.thread ≡ c.args.side.now.seen.thread = c.look_all.ensures.thread ∙ c.take.ensures.taken.thread in
    let made : c.len.result * c.from-2.result ≡ length (needs g.N.RunNames.script.machine (tree_after g.N.RunNames.script (history_of c.self.inside.journal.entries)) c.args.command.now.op.now) * script.machine.slices =
    ap₂ (λ x y. x * y) (c.len.ensures ∙ ap length counts) (c.from-2.ensures ∙ ap (λ (m : Parameters). m.slices) (c.machine-m.ensures ∙ ap (λ (x : ScriptValue). x.machine) c.requires.script)) in
    let place : c.self.inside.tree.epoch ≡ length history = c.self.invariant.epoch ∙ sym (history_length c.self.inside.journal.entries) in
    let follows : c.apply-reply.result.1.items ≡ after script.machine (tree_after script history) (length history) c.args.command.now.op.now =
    c.apply-reply.ensures.after
    ∙ (ap (λ (m : Parameters). after m c.self.inside.tree.state c.self.inside.tree.epoch c.args.command.now.op.now) c.self.invariant.machine
    ∙ (ap (λ (x : State). after script.machine x c.self.inside.tree.epoch c.args.command.now.op.now) c.self.invariant.keeps.state_is
    ∙ ap (λ x. after script.machine (tree_after script history) x c.args.command.now.op.now) place)) in
    record {
      counts = counts;
      looks = record {
        same_thread = thread;
        whole = ap (λ (p : PassValue TreeEntry). p.seen) c.look_all.ensures.tree ∙ c.take.ensures.tree;
        at = subst (λ (xs : List (ℕ × ℕ)). LooksAt script g.T.NamedTable.table c.args.command.now.number c.args.command.now.op.now (length xs) 0 0 c.look_all.new.looks.numbers c.look_all.new.side.seen c.look_all.new.side.share) counts c.look_all.ensures.done;
        thread = c.thread-2.ensures.thread ∙ thread;
        number = refl;
        reply = c.apply-reply.ensures.reply ∙ ap (λ (ns : List ℕ). (next c.self.inside.tree.machine c.self.inside.tree.state c.args.command.now.op.now ns).reply) c.items.ensures;
      };
      made = made;
      last = none_follows script history c.args.command.now.op.now c.apply-reply.result.1.items (c.len.result * c.from-2.result) c.is_empty.result c.self.invariant.lawful.in_range.some_slice follows made c.is_empty.ensures;
    }

-- what is known when it is decided
pub is_decided : (g : Over) (c : After-decide g) → IsToDecide g.N.RunNames.script g.T.NamedTable.table (record { tree = c.self.inside.tree; journal = c.self.inside.journal; slices = c.self.inside.slices.items; share = c.self.inside.share }) c.args.side.now.seen c.look_all.new.side.seen c.args.command.now.number c.args.command.now.op.now
    (record { thread = c.thread-2.result; op = c.args.command.now.number; reply = c.apply-reply.result.0; looks = c.look_all.new.looks }) c.look_all.new.side.share
    → c.len.result * c.from-2.result ≡ length (needs g.N.RunNames.script.machine (tree_after g.N.RunNames.script (history_of c.self.inside.journal.entries)) c.args.command.now.op.now) * g.N.RunNames.script.machine.slices
    → c.is_empty.result ≡ not (nat_lt (c.len.result * c.from-2.result) (length (jobs_of g.N.RunNames.script (history_of c.self.inside.journal.entries) (length (history_of c.self.inside.journal.entries)) c.args.command.now.op.now)))
    → IsDecided g.N.RunNames.script g.T.NamedTable.table (record { tree = c.self.inside.tree; journal = c.self.inside.journal; slices = c.self.inside.slices.items; share = c.self.inside.share }) c.args.side.now.seen c.look_all.new.side.seen c.decide.new.s c.args.command.now.number c.args.command.now.op.now c.apply-reply.new.self c.decide.new.journal
    (record { thread = c.thread-2.result; op = c.args.command.now.number; reply = c.apply-reply.result.0; looks = c.look_all.new.looks }) c.look_all.new.side.share c.decide-entry.new.worker
is_decided g c looks made_is ends =
    let entry : TreeEntry = record { thread = c.thread-2.result; op = c.args.command.now.number; reply = c.apply-reply.result.0; looks = c.look_all.new.looks } in
    let journal : c.look_all.new.history ≡ c.self.inside.journal = c.look_all.ensures.history ∙ c.take.ensures.journal in
    record {
      looks = looks;
      last = c.is_empty.result;
      made = c.len.result * c.from-2.result;
      made_is = made_is;
      ends = ends;
      stepped = (c.decide-entry.ensures.table, c.decide-entry.ensures.worker);
      machine = c.apply-reply.ensures.machine;
      state = c.apply-reply.ensures.state ∙ ap (λ (ns : List ℕ). (next c.self.inside.tree.machine c.self.inside.tree.state c.args.command.now.op.now ns).state) c.items.ensures;
      epoch = c.apply-reply.ensures.epoch;
      name = c.decide.ensures.name ∙ ap (λ (j : JournalValue TreeEntry). j.name) journal;
      list =
          c.decide.ensures.list
          ∙ (ap (λ (j : JournalValue TreeEntry). j.entries ++ (c.look_all.new.side.seen.thread, c.decide-entry.result) ∷ []) journal
          ∙ ap (λ (e : TreeEntry). c.self.inside.journal.entries ++ (c.look_all.new.side.seen.thread, e) ∷ []) c.decide-entry.ensures.command);
      threads = c.decide.ensures.threads;
      new_thread = c.decide.ensures.thread;
      seen = c.decide.ensures.seen;
      slices = c.decide.ensures.slices;
    }
