use Rattle.std.proofs.Common.{length, subst, sym}
use Rattle.run_replay.proofs.GroupHistories.{AreKnownGroups-more, OnOk-map}
use Rattle.script_ops.specs.Canonical.{IsNamed}
use Rattle.script_ops.specs.declared.op.Op.{Op}
use Rattle.run_replay.proofs.group_history.note.Goals as goal

pub returns-in-Some-clause-known : goal.returns-in-Some-clause-known
returns-in-Some-clause-known c =
    let names = c.args.script.now.names in
    OnOk-map c.note_op.result (AreKnownGroups-more names c.args.history.now.made.items c.note_op.new.history.made.items c.args.history.now.next_gid c.get.result.now c.args.entry.now.reply c.requires.known
    (subst (λ (o : Op). IsNamed (length names) o) (sym c.get.ensures) c.in-Some.ensures.named)) c.note_op.ensures.made
