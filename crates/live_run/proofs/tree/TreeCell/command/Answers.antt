use Rattle.std.proofs.Common.{◌≡◌, ℕ, ◌+◌, ◌-◌, ◌*◌, ◌<◌, true, List, All, length, take, ap, sym, ◌∙◌, subst, arith}
use Rattle.std.proofs.lemmas.List.{length_push}
use Rattle.live_law.proofs.laws.OwnRoom.{command-room}
use Rattle.live_run.proofs.Bridges.{history_length}
use Rattle.live_run.proofs.Commands.{command_follows, decided_follows}
use Rattle.live_run.proofs.Decisions.{may_decide}
use Rattle.live_run.proofs.TakenTrees.{counts_few, ready-room, state_sound}
use Rattle.live_run.proofs.tree.TreeCell.command.Answers.Decided.{has_looked, is_decided}
use Rattle.live_run.proofs.tree.TreeCell.command.Answers.Released.{grown_now, has_let_go, kept_now, ready_now, replied_now}
use Rattle.live_run.proofs.tree.TreeCell.command.Answers.Shown.{are_named, has_counts, is_accepted}
use Rattle.live_run.proofs.tree.TreeCell.command.Answers.Taken.{counts_are, looks_at, may_take, op_fits_now}
use Rattle.live_run.proofs.tree.TreeCell.command.Goals as goal
use Rattle.live_run.specs.Cells.{AreOfThreads, TreeCellValue, taken_from}
use Rattle.live_run.specs.Names.{history_of, seen_by}
use Rattle.live_run.specs.Commands.{FollowsAt}
use Rattle.machine.specs.declared.parameters.Parameters.{Parameters}
use Rattle.run_law.proofs.laws.FoundSums.{AreDistinct-pairs}
use Rattle.run_law.specs.Jobs.{looks_of}
use Rattle.run_law.specs.TreeHistory.{tree_after}
use Rattle.run_law.specs.declared.journals.TreeEntry.{TreeEntry}
use Rattle.run_law.proofs.laws.LightRooms.{commands-light}
use Rattle.seen_journal.specs.Entries.{list_of}
use Rattle.seen_journal.specs.Journals.{JournalValue}
use Rattle.run_law.specs.FoundLooks.{AreDistinct}
use Rattle.shared_parts.specs.Parts.{rest_of}
use Rattle.tree_law.proofs.laws.DistinctCounts.{needs-distinct}
use Rattle.tree_law.specs.LawsCounts.{CanLook}
use Rattle.tree_core.specs.Follows.{IsReady}
use Rattle.tree_law.specs.Steps.{after, follow_domain, needs}
use Rattle.tree_law.specs.declared.follow.Follow.{Follow}
mod Decided
mod Released
mod Shown
mod Taken

pub counts-counts-requires : goal.counts-counts-requires
counts-counts-requires g c = record { fits = op_fits_now g (goal.at.counts-counts-requires g c).After-take }

pub look_all-requires : goal.look_all-requires
look_all-requires g c =
    let script = g.N.RunNames.script in
    let old : TreeCellValue = record { tree = c.self.inside.tree; journal = c.self.inside.journal; slices = c.self.inside.slices.items; share = c.self.inside.share } in
    let counts = counts_are g (goal.at.look_all-requires g c).After-counts-counts in
    let entries : c.take.new.journal.entries ≡ old.journal.entries = ap (λ (j : JournalValue TreeEntry). j.entries) c.take.ensures.journal in
    let sound = state_sound script g.T.NamedTable.table g.N.RunNames.tree g.N.RunNames.slices old c.self.invariant in
    let few = counts_few script g.T.NamedTable.table g.N.RunNames.tree g.N.RunNames.slices old c.self.invariant c.take.new.slices.items c.take.ensures.passes c.take.ensures.grown c.args.side.now.seen c.take.new.s c.args.command.now.number c.args.command.now.op.now
    c.requires.op c.requires.command c.take.ensures.taken c.take.ensures.tree c.take.ensures.same c.requires.ready in
    record {
      script = c.requires.script;
      range = c.self.invariant.lawful.in_range;
      name = ap (λ (j : JournalValue TreeEntry). j.name) c.take.ensures.journal ∙ c.self.invariant.journal_is;
      whole = c.take.ensures.tree ∙ sym entries;
      epoch = c.epoch-before.ensures ∙ (c.self.invariant.epoch ∙ ap length (sym entries));
      counts = counts ∙ ap (λ xs. needs script.machine (tree_after script (history_of xs)) c.args.command.now.op.now) (sym c.take.ensures.tree);
      distinct = subst (λ (xs : List (ℕ × ℕ)). AreDistinct xs) (sym counts)
          (AreDistinct-pairs (needs script.machine (tree_after script (history_of old.journal.entries)) c.args.command.now.op.now) (needs-distinct script.machine (tree_after script (history_of old.journal.entries)) c.args.command.now.op.now sound));
      exist = subst (λ (m : Parameters). All (CanLook m) c.counts-counts.result) c.self.invariant.machine c.counts-counts.ensures.exist;
      room = omega (arith, few, ap length counts, c.requires.list);
      at = looks_at g (goal.at.look_all-requires g c).After-take-2;
    }

-- it takes the tree's part
pub take-requires-2-clause-table : goal.take-requires-2-clause-table
take-requires-2-clause-table g c = c.self.invariant.share_is.table_is ∙ sym c.requires.worker.is.table_is

pub take-requires-2-clause-may : goal.take-requires-2-clause-may
take-requires-2-clause-may g c = may_take g (goal.at.take-requires-2-clause-may g c).After-from

pub decide-entry-requires : goal.decide-entry-requires
decide-entry-requires g c =
    let old : TreeCellValue = record { tree = c.self.inside.tree; journal = c.self.inside.journal; slices = c.self.inside.slices.items; share = c.self.inside.share } in
    let looked = has_looked g (goal.at.decide-entry-requires g c).After-is_empty in
    let entry : TreeEntry = record { thread = c.thread-2.result; op = c.args.command.now.number; reply = c.apply-reply.result.0; looks = c.look_all.new.looks } in
    record {
      may = may_decide g.N.RunNames.script g.T.NamedTable.table g.N.RunNames.tree g.N.RunNames.slices old c.self.invariant c.args.side.now.seen c.look_all.new.side.seen c.args.command.now.number c.args.command.now.op.now entry c.look_all.new.side.share c.requires.op c.requires.command
          looked.looks c.is_empty.result (c.len.result * c.from-2.result) looked.made looked.last c.epoch-before.result (c.epoch-before.ensures ∙ c.self.invariant.epoch) (omega (arith, c.epoch-before.ensures, c.self.invariant.epoch, c.take.ensures.few));
    }

pub apply-reply-requires-clause-looks : goal.apply-reply-requires-clause-looks
apply-reply-requires-clause-looks g c =
    ap length c.items.ensures ∙ (c.look_all.ensures.done.count ∙ ap length c.counts-counts.ensures.needs)

pub decide-requires : goal.decide-requires
decide-requires g c =
    let at = c.look_all.ensures.done in
    let journal : c.look_all.new.history ≡ c.self.inside.journal = c.look_all.ensures.history ∙ c.take.ensures.journal in
    record {
      name = ap (λ (j : JournalValue TreeEntry). j.name) journal ∙ c.self.invariant.journal_is;
      threads = subst (λ (j : JournalValue TreeEntry). AreOfThreads taken_from j.entries) (sym journal) c.self.invariant.threads;
      thread = ap (λ (e : TreeEntry). e.thread) c.decide-entry.ensures.command ∙ c.thread-2.ensures.thread;
      room = command-room g.N.RunNames.script at.start c.look_all.new.side.seen.thread c.args.command.now.number c.args.command.now.op.now at.found (seen_by c.look_all.new.side.seen) at.is;
    }

pub apply-reply-requires-clause-fits : goal.apply-reply-requires-clause-fits
apply-reply-requires-clause-fits g c = op_fits_now g (goal.at.apply-reply-requires-clause-fits g c).After-take

pub follow_all-requires : goal.follow_all-requires
follow_all-requires g c =
    let script = g.N.RunNames.script in
    let old : TreeCellValue = record { tree = c.self.inside.tree; journal = c.self.inside.journal; slices = c.self.inside.slices.items; share = c.self.inside.share } in
    let entry : TreeEntry = record { thread = c.thread-2.result; op = c.args.command.now.number; reply = c.apply-reply.result.0; looks = c.look_all.new.looks } in
    let looked = has_looked g (goal.at.follow_all-requires g c).After-is_empty in
    let its = is_decided g (goal.at.follow_all-requires g c).After-decide looked.looks looked.made looked.last in
    let k : ℕ = length (history_of old.journal.entries) in
    let many : length c.decide.new.journal.entries ≡ length old.journal.entries + 1 = ap length its.list ∙ length_push old.journal.entries (c.look_all.new.side.seen.thread, entry) in
    let epoch : c.epoch-epoch.result ≡ length old.journal.entries + 1 = c.epoch-epoch.ensures ∙ (its.epoch ∙ ap (λ x. x + 1) c.self.invariant.epoch) in
    let position : k ≡ c.epoch-epoch.result - 1 = omega (arith, epoch, history_length old.journal.entries) in
    let follows = decided_follows script g.T.NamedTable.table g.N.RunNames.tree g.N.RunNames.slices old c.self.invariant c.take.new.slices.items c.take.ensures.passes c.take.ensures.grown c.args.side.now.seen c.look_all.new.side.seen c.decide.new.s c.args.command.now.number c.args.command.now.op.now c.apply-reply.new.self c.decide.new.journal entry c.look_all.new.side.share c.decide-entry.new.worker
    c.requires.op c.requires.command its c.apply-reply.result.1.items c.apply-reply.ensures.after in
    let all : c.as_slice.result.now ≡ c.apply-reply.result.1.items = c.as_slice.ensures.value in
    record {
      script = c.requires.script;
      range = c.self.invariant.lawful.in_range;
      name = its.name ∙ c.self.invariant.journal_is;
      whole = its.seen;
      epoch = (omega (arith, epoch), omega (arith, epoch, many));
      follows = subst (λ q. c.as_slice.result.now ≡ after script.machine (tree_after script (take q (history_of c.decide.new.s.tree.seen))) q c.args.command.now.op.now) position (all ∙ follows);
      domains = subst (λ (fs : List Follow). All (λ f. follow_domain f < script.machine.domains) fs) (sym all) (subst (λ (m : Parameters). All (λ f. follow_domain f < m.domains) c.apply-reply.result.1.items) c.self.invariant.machine c.apply-reply.ensures.domains);
      ready = subst (λ (fs : List Follow). All (IsReady script.machine) fs) (sym all) (subst (λ (m : Parameters). All (IsReady m) c.apply-reply.result.1.items) c.self.invariant.machine c.apply-reply.ensures.ready);
      at = subst (λ q. FollowsAt script g.T.NamedTable.table c.args.command.now.number q c.args.command.now.op.now (length (looks_of script (history_of c.decide.new.s.tree.seen) q c.args.command.now.op.now)) c.decide.new.s c.decide-entry.new.worker) position
          (command_follows script g.T.NamedTable.table g.N.RunNames.tree g.N.RunNames.slices old c.self.invariant c.take.new.slices.items c.take.ensures.passes c.take.ensures.grown c.args.side.now.seen c.look_all.new.side.seen c.decide.new.s c.args.command.now.number c.args.command.now.op.now c.apply-reply.new.self c.decide.new.journal entry c.look_all.new.side.share c.decide-entry.new.worker
          c.requires.op c.requires.command its);
    }

pub release-requires-2-clause-table : goal.release-requires-2-clause-table
release-requires-2-clause-table g c =
    let gone = has_let_go g (goal.at.release-requires-2-clause-table g c).After-follow_all in
    c.take-2.ensures.table.0 ∙ (c.self.invariant.share_is.table_is ∙ sym gone.is.table_is)

pub release-requires-2-clause-may : goal.release-requires-2-clause-may
release-requires-2-clause-may g c =
    let gone = has_let_go g (goal.at.release-requires-2-clause-may g c).After-follow_all in
    record {
      t = c.args.side.now.seen.thread;
      n = c.args.command.now.number + 1;
      begun = true;
      history = list_of c.follow_all.new.side.seen.tree.seen;
      found = gone.found;
      given = gone.given;
      tree_is = c.take-2.ensures.tree;
      worker_is = gone.is.parts_are;
    }

pub returns-clause-worker : goal.returns-clause-worker
returns-clause-worker g c =
    let gone = has_let_go g (goal.at.returns-clause-worker g c).After-follow_all in
    record {
      found = gone.found;
      given = gone.given;
      is = record { table_is = c.release-2.ensures.table.1 ∙ gone.is.table_is; words = gone.is.words; parts_are = c.release-2.ensures.worker ∙ ap rest_of gone.is.parts_are };
    }

pub invariant_of-self : goal.invariant_of-self
invariant_of-self g c =
    let at = goal.at.invariant_of-self g c in
    let looked = has_looked g at.After-is_empty in
    let gone = has_let_go g at.After-follow_all in
    kept_now g at.After-release-2 (is_decided g at.After-decide looked.looks looked.made looked.last) gone.found gone.given gone.is

pub returns-clause-seen : goal.returns-clause-seen
returns-clause-seen g c =
    let at = goal.at.returns-clause-seen g c in
    let looked = has_looked g at.After-is_empty in
    grown_now g at.After-release-2 (is_decided g at.After-decide looked.looks looked.made looked.last)

pub returns-clause-ready : goal.returns-clause-ready
returns-clause-ready g c =
    let at = goal.at.returns-clause-ready g c in
    let looked = has_looked g at.After-is_empty in
    ready_now g at.After-release-2 (is_decided g at.After-decide looked.looks looked.made looked.last)

pub returns-clause-reply : goal.returns-clause-reply
returns-clause-reply g c =
    let at = goal.at.returns-clause-reply g c in
    let looked = has_looked g at.After-is_empty in
    replied_now g at.After-release-2 (is_decided g at.After-decide looked.looks looked.made looked.last)

pub apply-reply-requires-clause-epoch : goal.apply-reply-requires-clause-epoch
apply-reply-requires-clause-epoch g c =
    let script = g.N.RunNames.script in
    let room = c.take.ensures.room (ready-room script c.args.side.now.seen.thread c.args.command.now.number c.args.command.now.op.now (seen_by c.args.side.now.seen) c.requires.op c.requires.command c.requires.ready) in
    omega (arith, room, c.self.invariant.epoch, commands-light script c.self.invariant.lawful)

pub show-requires-clause-accepted : goal.show-requires-clause-accepted
show-requires-clause-accepted g c = is_accepted g (goal.at.show-requires-clause-accepted g c).After-items-2

pub show-requires-clause-looks : goal.show-requires-clause-looks
show-requires-clause-looks g c = has_counts g (goal.at.show-requires-clause-looks g c).After-items-2

pub show-requires-clause-named : goal.show-requires-clause-named
show-requires-clause-named g c = are_named g (goal.at.show-requires-clause-named g c).After-items-2
