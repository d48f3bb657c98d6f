use Rattle.std.proofs.Common.{Option, sym, subst, ap, ◌∙◌}
use Rattle.rc_base.specs.declared.names.Gid.{Gid}
use Rattle.run_law.specs.Entries.{entry_value}
use Rattle.run_windows.proofs.Replays.{AreKeptBut-taken}
use Rattle.run_windows.specs.Changes.{AreKeptBut, changed_by}
use Rattle.script_ops.specs.Values.{op_at}
use Rattle.tree_core.specs.Values.{TreeValue}
use Rattle.run_windows.proofs.changes.take.Goals as goal

pub returns-clause-kept : goal.returns-clause-kept
returns-clause-kept c =
    let script = c.args.run.now.script.now in
    let e = c.args.entry.now in
    let t = c.args.replay.now in
    let u = c.take_next.new.self in
    let did = c.take_next.ensures in
    let gid = c.changed_by-gid.ensures ∙ ap (λ (v : TreeValue). changed_by v.state (op_at script e.thread e.op)) c.tree.ensures in
    subst (λ (o : Option Gid). AreKeptBut o t.state u.state) (sym gid)
    (AreKeptBut-taken script c.args.run.now.journals.now t u c.args.position (entry_value e) c.requires.taken c.requires.next did.taken did.epoch c.requires.entry)
