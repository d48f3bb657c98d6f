use Rattle.std.proofs.Common.{◌<◌, ◌∙◌, All, List, ap, arith, length, map, subst, sym}
use Rattle.live_run.proofs.RunEnds.{is_own, is_run, names_each}
use Rattle.live_run.proofs.TakenShares.{HaveAll-taken, MayCloseEach-taken, is_scheduled, lists_taken}
use Rattle.live_run.proofs.ThreadPasses.{may_close_each, may_close_tree}
use Rattle.live_run.proofs.live.Live.close.Goals as goal
use Rattle.live_run.specs.Cells.{SliceCellValue, TreeCellValue}
use Rattle.live_run.specs.Closings.{HaveAll, HaveTakenIn}
use Rattle.live_run.specs.Openings.{part_at}
use Rattle.run_law.specs.Entries.{entry_value}
use Rattle.run_law.specs.declared.journals.TreeEntry.{TreeEntry}
use Rattle.seen_journal.specs.Entries.{list_of}
use Rattle.seen_journal.specs.Journals.{JournalValue}
use Rattle.seen_journal.specs.Passes.{HasAll}

pub show_each-requires-clause-names : goal.show_each-requires-clause-names
show_each-requires-clause-names g c =
    let cell : TreeCellValue = record { tree = c.journal.inside.tree; journal = c.journal.inside.journal; slices = c.journal.inside.slices.items; share = c.journal.inside.share } in
    names_each g.N.RunNames.script g.T.NamedTable.table g.N.RunNames.tree g.N.RunNames.slices cell c.journal.invariant c.settle.new.into.items c.settle.ensures.after

pub close-commands-requires-clause-names : goal.close-commands-requires-clause-names
close-commands-requires-clause-names g c =
    let name = ap (λ (j : JournalValue TreeEntry). j.name) c.settle.ensures.history ∙ c.journal.invariant.journal_is in
    (may_close_tree g.N.RunNames.script g.N.RunNames.tree g.N.RunNames.slices c.self.invariant.quotas c.args.p.items c.gather.new.trees.items c.gather.new.lists.items c.gather.ensures c.requires.before c.settle.new.history name).names

pub close-commands-requires-clause-once : goal.close-commands-requires-clause-once
close-commands-requires-clause-once g c =
    let name = ap (λ (j : JournalValue TreeEntry). j.name) c.settle.ensures.history ∙ c.journal.invariant.journal_is in
    (may_close_tree g.N.RunNames.script g.N.RunNames.tree g.N.RunNames.slices c.self.invariant.quotas c.args.p.items c.gather.new.trees.items c.gather.new.lists.items c.gather.ensures c.requires.before c.settle.new.history name).once

pub absorb-requires : goal.absorb-requires
absorb-requires g c = record { table = c.requires.turn.table_is ∙ sym c.journal.invariant.share_is.table_is }

pub absorb_each-requires : goal.absorb_each-requires
absorb_each-requires g c = record {
  tables = λ i d within.
      let there : i < length c.settle.new.into.items = omega (arith, within, ap length c.show_each.ensures.same) in
      ap (λ (ps : List SliceCellValue). (part_at ps i d).share.table) c.show_each.ensures.same
      ∙ ((c.settle.ensures.after.kept i d there).share_is.table_is ∙ (sym c.journal.invariant.share_is.table_is ∙ sym c.absorb.ensures.table.0));
}

pub close_each-requires-clause-may : goal.close_each-requires-clause-may
close_each-requires-clause-may g c =
    let lists = c.gather.new.lists.items in
    let parts : List SliceCellValue = c.settle.new.into.items in
    let taken : HaveTakenIn (length parts) c.absorb.new.self c.absorb_each.new.all parts c.absorb_each.new.parts.items = subst (λ (ps : List SliceCellValue). HaveTakenIn (length ps) c.absorb.new.self c.absorb_each.new.all ps c.absorb_each.new.parts.items) c.show_each.ensures.same c.absorb_each.ensures.taken in
    MayCloseEach-taken c.absorb.new.self c.absorb_each.new.all parts c.absorb_each.new.parts.items taken lists
    (may_close_each g.N.RunNames.script g.N.RunNames.tree g.N.RunNames.slices c.self.invariant.quotas c.args.p.items c.gather.new.trees.items lists c.gather.ensures c.requires.before g.T.NamedTable.table c.journal.inside.journal.entries parts c.settle.ensures.after)

pub returns-clause-run : goal.returns-clause-run
returns-clause-run g c =
    let cell : TreeCellValue = record { tree = c.journal.inside.tree; journal = c.journal.inside.journal; slices = c.journal.inside.slices.items; share = c.journal.inside.share } in
    let parts : List SliceCellValue = c.settle.new.into.items in
    let trees = c.gather.new.trees.items in
    let lists = c.gather.new.lists.items in
    let all : All (HasAll c.settle.new.history.entries) trees = (λ t d within. record { prefix = c.close-commands.ensures.seen t d within; own_are = sym (c.close-commands.ensures.whole t d within) }) in
    let all_tree : All (HasAll cell.journal.entries) trees = subst (λ (j : JournalValue TreeEntry). All (HasAll j.entries) trees) c.settle.ensures.history all in
    let taken : HaveTakenIn (length parts) c.absorb.new.self c.absorb_each.new.all parts c.absorb_each.new.parts.items = subst (λ (ps : List SliceCellValue). HaveTakenIn (length ps) c.absorb.new.self c.absorb_each.new.all ps c.absorb_each.new.parts.items) c.show_each.ensures.same c.absorb_each.ensures.taken in
    let all_slices : HaveAll (length parts) parts lists = HaveAll-taken c.absorb.new.self c.absorb_each.new.all parts c.absorb_each.new.parts.items taken lists c.close_each.ensures.all in
    let tree_is = c.of.ensures.tree ∙ ap (map entry_value) (c.close-commands.ensures.list ∙ ap (λ (j : JournalValue TreeEntry). list_of j.entries) c.settle.ensures.history) in
    let slices_are = c.of.ensures.slices ∙ (c.close_each.ensures.lists ∙ lists_taken c.absorb.new.self c.absorb_each.new.all parts c.absorb_each.new.parts.items taken) in
    is_run g.N.RunNames.script g.T.NamedTable.table g.N.RunNames.tree g.N.RunNames.slices c.self.invariant.quotas cell c.journal.invariant parts c.settle.ensures.after c.show_each.new.passes.items c.show_each.ensures.seen c.args.p.items trees lists c.gather.ensures c.requires.before all_tree all_slices c.of.result tree_is slices_are

pub returns-clause-own : goal.returns-clause-own
returns-clause-own g c =
    let cell : TreeCellValue = record { tree = c.journal.inside.tree; journal = c.journal.inside.journal; slices = c.journal.inside.slices.items; share = c.journal.inside.share } in
    let parts : List SliceCellValue = c.settle.new.into.items in
    let trees = c.gather.new.trees.items in
    let lists = c.gather.new.lists.items in
    let all : All (HasAll c.settle.new.history.entries) trees = (λ t d within. record { prefix = c.close-commands.ensures.seen t d within; own_are = sym (c.close-commands.ensures.whole t d within) }) in
    let all_tree : All (HasAll cell.journal.entries) trees = subst (λ (j : JournalValue TreeEntry). All (HasAll j.entries) trees) c.settle.ensures.history all in
    let taken : HaveTakenIn (length parts) c.absorb.new.self c.absorb_each.new.all parts c.absorb_each.new.parts.items = subst (λ (ps : List SliceCellValue). HaveTakenIn (length ps) c.absorb.new.self c.absorb_each.new.all ps c.absorb_each.new.parts.items) c.show_each.ensures.same c.absorb_each.ensures.taken in
    let all_slices : HaveAll (length parts) parts lists = HaveAll-taken c.absorb.new.self c.absorb_each.new.all parts c.absorb_each.new.parts.items taken lists c.close_each.ensures.all in
    let tree_is = c.of.ensures.tree ∙ ap (map entry_value) (c.close-commands.ensures.list ∙ ap (λ (j : JournalValue TreeEntry). list_of j.entries) c.settle.ensures.history) in
    let slices_are = c.of.ensures.slices ∙ (c.close_each.ensures.lists ∙ lists_taken c.absorb.new.self c.absorb_each.new.all parts c.absorb_each.new.parts.items taken) in
    is_own g.N.RunNames.script g.T.NamedTable.table g.N.RunNames.tree g.N.RunNames.slices c.self.invariant.quotas cell c.journal.invariant parts c.settle.ensures.after c.show_each.new.passes.items c.show_each.ensures.seen c.args.p.items trees lists c.gather.ensures c.requires.before all_tree all_slices c.of.result tree_is slices_are

pub returns-clause-scheduled : goal.returns-clause-scheduled
returns-clause-scheduled g c =
    let cell : TreeCellValue = record { tree = c.journal.inside.tree; journal = c.journal.inside.journal; slices = c.journal.inside.slices.items; share = c.journal.inside.share } in
    let parts : List SliceCellValue = c.settle.new.into.items in
    let taken : HaveTakenIn (length parts) c.absorb.new.self c.absorb_each.new.all parts c.absorb_each.new.parts.items = subst (λ (ps : List SliceCellValue). HaveTakenIn (length ps) c.absorb.new.self c.absorb_each.new.all ps c.absorb_each.new.parts.items) c.show_each.ensures.same c.absorb_each.ensures.taken in
    let tree_is = c.of.ensures.tree ∙ ap (map entry_value) (c.close-commands.ensures.list ∙ ap (λ (j : JournalValue TreeEntry). list_of j.entries) c.settle.ensures.history) in
    let slices_are = c.of.ensures.slices ∙ (c.close_each.ensures.lists ∙ lists_taken c.absorb.new.self c.absorb_each.new.all parts c.absorb_each.new.parts.items taken) in
    is_scheduled g.N.RunNames.script g.T.NamedTable.table g.N.RunNames.tree g.N.RunNames.slices cell c.journal.invariant parts c.settle.ensures.after c.args.turn c.absorb.new.self c.absorb_each.new.all c.absorb_each.new.parts.items c.requires.turn c.absorb.ensures.parts taken c.close.ensures.scheduled c.of.result tree_is slices_are
