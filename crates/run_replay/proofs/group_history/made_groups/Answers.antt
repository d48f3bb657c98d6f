use Rattle.std.proofs.Common.{List, take, refl, sym, subst, arith}
use Rattle.std.proofs.lemmas.List.{length-map, length-take}
use Rattle.run_law.proofs.laws.RunSizes.{length-commands}
use Rattle.run_law.specs.Entries.{entry_value}
use Rattle.run_law.specs.TreeHistory.{IsLegalTree, TreeEntryValue}
use Rattle.run_replay.proofs.GroupHistories.{IsHistory-next, IsHistory-opening}
use Rattle.run_replay.proofs.laws.Playbacks.{length-entries}
use Rattle.run_replay.proofs.group_history.made_groups.Goals as goal

pub loop-entry-init : goal.loop-entry-init
loop-entry-init c = IsHistory-opening c.args.script.now _ c.new.ensures.items refl

pub note-requires-clause-room : goal.note-requires-clause-room
note-requires-clause-room c =
    let es = c.tree-tree.result.now in
    let i = c.loop-entry.entry-index in
    let few = length-commands c.args.script.now c.args.journals.now c.threads-threads.ensures.lawful c.requires in
    let within = c.loop-entry-test.true in
    let had = c.loop-entry.invariant.few in
    let count = length-map (take i es) entry_value in
    let first = length-take i es in
    let all = length-entries es c.args.journals.now.tree c.tree-tree.ensures in
    omega (arith, few, within, had, count, first, all)

pub loop-entry-preserved : goal.loop-entry-preserved
loop-entry-preserved c =
    let script = c.args.script.now in
    let es = c.tree-tree.result.now in
    let did = c.in_ok-note.ensures in
    IsHistory-next script es c.loop-entry.entry-index c.entry-item.result c.loop-entry.history c.note.new.history (subst (λ (t : List TreeEntryValue). IsLegalTree script t) (sym c.tree-tree.ensures) c.requires.tree_legal) c.loop-entry-test.true c.entry-item.is
    c.loop-entry.invariant did.made did.next did.known
