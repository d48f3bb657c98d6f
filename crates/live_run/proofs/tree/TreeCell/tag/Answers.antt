use Rattle.std.proofs.Common.{ℕ, ◌≤◌, Contains, List, length, ap, refl, sym, ◌∙◌, subst, arith}
use Rattle.live_law.proofs.laws.Prefixes.{IsPrefix-no_more}
use Rattle.seen_journal.proofs.laws.Prefixes.{length-prefix}
use Rattle.live_law.specs.SeenJournals.{is_from}
use Rattle.live_run.proofs.HeldTrees.{tree_lock_there}
use Rattle.live_run.proofs.CachedTags.{HoldsCached-current, given_tag, caches_given, current_given}
use Rattle.live_run.proofs.Trees.{tree_meets, tree_shares, tree_tasks}
use Rattle.live_run.proofs.Bridges.{history_length}
use Rattle.live_run.proofs.tree.TreeCell.tag.Goals as goal
use Rattle.live_run.specs.Cells.{TreeCellValue, TreeIsKept}
use Rattle.live_run.specs.Names.{history_of}
use Rattle.live_run.specs.Sharing.{given_in, noted_tag}
use Rattle.run_law.specs.Quotas.{command_count}
use Rattle.schedule_law.specs.LiveParts.{after as after_event}
use Rattle.schedule_law.specs.declared.part.Happening.TheVariants as happenings
use Rattle.shared_parts.specs.Parts.{parts_after}
use Rattle.run_law.specs.declared.journals.TreeEntry.{TreeEntry}
use Rattle.seen_journal.specs.Entries.{list_of}
use Rattle.seen_journal.specs.Journals.{JournalValue}
use Rattle.machine.specs.declared.parameters.Parameters.{Parameters}

pub tag_of-tag-requires-clause-task : goal.tag_of-tag-requires-clause-task
tag_of-tag-requires-clause-task g c =
    let old : TreeCellValue = record { tree = c.self.inside.tree; journal = c.self.inside.journal; slices = c.self.inside.slices.items; share = c.self.inside.share } in
    subst (λ (ts : List ℕ). Contains ts c.args.task) (sym (tree_tasks g.N.RunNames.script g.T.NamedTable.table g.N.RunNames.tree g.N.RunNames.slices old c.self.invariant)) c.requires.task

pub tag_of-tag-requires-clause-cpu : goal.tag_of-tag-requires-clause-cpu
tag_of-tag-requires-clause-cpu g c = omega (arith, c.requires.cpu, ap (λ (m : Parameters). m.cpus) c.self.invariant.machine)

pub tag_of-tag-requires-clause-current : goal.tag_of-tag-requires-clause-current
tag_of-tag-requires-clause-current g c =
    let old : TreeCellValue = record { tree = c.self.inside.tree; journal = c.self.inside.journal; slices = c.self.inside.slices.items; share = c.self.inside.share } in
    let known = HoldsCached-current g.N.RunNames.script c.args.side.now.seen c.args.side.now.cached c.current_tag-current.result c.current_tag-current.ensures.cached c.requires.cached in
    current_given g.N.RunNames.script g.T.NamedTable.table g.N.RunNames.tree g.N.RunNames.slices old c.self.invariant c.args.side.now.seen c.take_unless.new.s c.take_unless.ensures.taken c.take_unless.ensures.tree c.current_tag-current.result known c.current_tag-current.ensures.epoch

pub invariant_of-self : goal.invariant_of-self
invariant_of-self g c =
    let old : TreeCellValue = record { tree = c.self.inside.tree; journal = c.self.inside.journal; slices = c.self.inside.slices.items; share = c.self.inside.share } in
    let now = c.take_unless.new.slices.items in
    let mid : TreeCellValue = record { tree = c.self.inside.tree; journal = c.self.inside.journal; slices = now; share = c.self.inside.share } in
    subst (λ (j : JournalValue TreeEntry). TreeIsKept g.N.RunNames.script g.T.NamedTable.table g.N.RunNames.tree g.N.RunNames.slices (record { tree = c.self.inside.tree; journal = j; slices = now; share = c.tag.new.tree })) (sym c.take_unless.ensures.journal)
    (tree_shares g.N.RunNames.script g.T.NamedTable.table g.N.RunNames.tree g.N.RunNames.slices mid
    (tree_meets g.N.RunNames.script g.T.NamedTable.table g.N.RunNames.tree g.N.RunNames.slices old c.self.invariant now c.take_unless.ensures.passes c.take_unless.ensures.grown) c.tag.new.tree c.tag.ensures.table.0 c.tag.ensures.tree)

pub tag-requires-clause-table : goal.tag-requires-clause-table
tag-requires-clause-table g c = c.self.invariant.share_is.table_is ∙ sym c.requires.worker.resting.is.table_is

pub tag-requires-clause-lock : goal.tag-requires-clause-lock
tag-requires-clause-lock g c = tree_lock_there g.T.NamedTable.table c.args.side.now.share.parts c.args.side.now.share (record { table_is = c.requires.worker.resting.is.table_is; words = c.requires.worker.resting.is.words; parts_are = refl })

pub tag-requires-clause-may : goal.tag-requires-clause-may
tag-requires-clause-may g c =
    let old : TreeCellValue = record { tree = c.self.inside.tree; journal = c.self.inside.journal; slices = c.self.inside.slices.items; share = c.self.inside.share } in
    let its = c.requires.worker in
    record {
      some = c.self.invariant.lawful.in_range.some_slice;
      t = c.args.side.now.seen.thread;
      n = its.n;
      addr = its.addr;
      history = list_of c.self.inside.journal.entries;
      found = its.resting.found;
      given = its.resting.given;
      tree_is = c.self.invariant.share_is.parts_are;
      worker_is = its.resting.is.parts_are;
      is = its.is;
      tag_is = given_tag g.N.RunNames.script g.T.NamedTable.table g.N.RunNames.tree g.N.RunNames.slices old c.self.invariant c.args.task c.args.cpu c.tag_of-tag.result c.tag_of-tag.ensures;
    }

pub returns : goal.returns
returns g c =
    let old : TreeCellValue = record { tree = c.self.inside.tree; journal = c.self.inside.journal; slices = c.self.inside.slices.items; share = c.self.inside.share } in
    let now = c.take_unless.new.slices.items in
    let given = c.tag_of-tag.ensures in
    let epoch = ap (λ t. t.epoch) given.is in
    let before = c.args.side.now.seen.tree.seen in
    let after = c.take_unless.new.s.tree.seen in
    let longer = length-prefix (history_of before) (history_of after) (IsPrefix-no_more (is_from c.args.side.now.seen.thread) (history_of before) (history_of after) c.take_unless.ensures.taken.sees.tree) in
    let known = HoldsCached-current g.N.RunNames.script c.args.side.now.seen c.args.side.now.cached c.current_tag-current.result c.current_tag-current.ensures.cached c.requires.cached in
    let most : c.tag_of-tag.result.epoch ≤ command_count g.N.RunNames.script = omega (arith, c.take_unless.ensures.most, epoch, c.self.invariant.epoch) in
    let knows = caches_given g.N.RunNames.script g.T.NamedTable.table g.N.RunNames.tree g.N.RunNames.slices old c.self.invariant c.args.side.now.seen c.take_unless.new.s c.take_unless.ensures.taken c.take_unless.ensures.tree c.current_tag-current.result known c.current_tag-current.ensures.epoch
    now c.take_unless.ensures.passes c.take_unless.ensures.grown (λ none. c.take_unless.ensures.same (c.is_some.ensures ∙ none)) c.args.task c.args.cpu c.tag_of-tag.result given most in
    record {
      cached_now = knows;
      noted_now = ap given_in (c.tag.ensures.worker ∙ ap (parts_after after_event (happenings.Label (noted_tag c.args.task c.args.cpu c.tag_of-tag.result))) c.requires.worker.resting.is.parts_are);
      taken = c.take_unless.ensures.taken;
      tag = knows.holds;
      fresh = omega (arith, longer, history_length before, history_length after, ap length c.take_unless.ensures.tree, epoch, c.self.invariant.epoch);
      most = most;
      known = knows.rmid;
      worker = (c.tag.ensures.table.1, c.tag.ensures.worker);
      valid = knows.mask;
    }
