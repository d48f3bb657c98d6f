use Rattle.std.proofs.Common.{◌+◌, Option, None, Some, sym, subst, ap, ◌∙◌}
use Rattle.rc_base.specs.declared.names.Gid.{Gid}
use Rattle.run_law.specs.Entries.{entry_value}
use Rattle.run_windows.proofs.ChangeLists.{AreChanges-kept}
use Rattle.run_windows.proofs.ChangedGroups.{AreInOrder-latest, others-latest}
use Rattle.run_windows.proofs.Replays.{IsReplayed-at, IsReplayed-past}
use Rattle.run_windows.specs.Changes.{AreChanges, AreKeptBut, IsReplayed, logged}
use Rattle.run_windows.specs.OneGroup.{others}
use Rattle.run_windows.specs.Stays.{exclusive_in}
use Rattle.tree_core.specs.Values.{TreeValue}
use Rattle.run_windows.proofs.changes.step.Goals as goal

pub push_changed-requires-clause-replayed : goal.push_changed-requires-clause-replayed
push_changed-requires-clause-replayed c =
    let script = c.args.run.now.script.now in
    let j = c.args.run.now.journals.now in
    let did = c.take.ensures in
    subst (λ (t : TreeValue). IsReplayed script j t) (sym c.tree.ensures) (IsReplayed-past script j c.take.new.replay c.args.position (entry_value c.args.entry.now) did.taken did.epoch c.requires.entry)

pub push_changed-requires-clause-changes : goal.push_changed-requires-clause-changes
push_changed-requires-clause-changes c =
    let script = c.args.run.now.script.now in
    let j = c.args.run.now.journals.now in
    let epoch = ap (λ n. n + 1) c.requires.next ∙ sym (ap (λ (t : TreeValue). t.epoch) c.tree.ensures ∙ c.take.ensures.epoch) in
    subst (λ n. AreChanges script j n (logged c.args.log.now)) epoch c.requires.changes

pub push_changed-requires-clause-order : goal.push_changed-requires-clause-order
push_changed-requires-clause-order c =
    let script = c.args.run.now.script.now in
    let j = c.args.run.now.journals.now in
    let before = IsReplayed-at script j c.args.replay.now c.args.position (entry_value c.args.entry.now) c.requires.taken c.requires.next c.requires.entry in
    AreInOrder-latest script j c.requires.lawful c.requires.run c.args.replay.now c.args.log.now before c.requires.changes

pub push_changed-requires-clause-others : goal.push_changed-requires-clause-others
push_changed-requires-clause-others c =
    let script = c.args.run.now.script.now in
    let j = c.args.run.now.journals.now in
    let s = c.args.replay.now.state in
    let u = c.take.new.replay in
    let gid = c.in-Some.gid in
    let before = IsReplayed-at script j c.args.replay.now c.args.position (entry_value c.args.entry.now) c.requires.taken c.requires.next c.requires.entry in
    let kept : AreKeptBut (Some gid) s u.state = subst (λ (o : Option Gid). AreKeptBut o s u.state) c.in-Some.is c.take.ensures.kept in
    others-latest script j c.requires.lawful c.requires.run c.args.replay.now u c.args.log.now gid before c.requires.changes kept ∙ ap (λ (t : TreeValue). others gid (exclusive_in t.state.groups)) (sym c.tree.ensures)

pub returns-in-None-clause-changes : goal.returns-in-None-clause-changes
returns-in-None-clause-changes c =
    let script = c.args.run.now.script.now in
    let j = c.args.run.now.journals.now in
    let s = c.args.replay.now.state in
    let h = entry_value c.args.entry.now in
    let did = c.take.ensures in
    let u = c.take.new.replay in
    let kept : AreKeptBut None s u.state = subst (λ (o : Option Gid). AreKeptBut o s u.state) c.in-None.is did.kept in
    let before = IsReplayed-at script j c.args.replay.now c.args.position h c.requires.taken c.requires.next c.requires.entry in
    let after = IsReplayed-past script j u c.args.position h did.taken did.epoch c.requires.entry in
    AreChanges-kept script j c.args.replay.now u (logged c.args.log.now) before after (did.epoch ∙ sym (ap (λ n. n + 1) c.requires.next)) kept c.requires.changes
