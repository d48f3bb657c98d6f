use Rattle.std.proofs.Common.{◌∙◌, List, ap, subst, arith}
use Rattle.live_run.proofs.Starts.{PassesAreKept-first}
use Rattle.live_run.proofs.first_passes.first.Goals as goal
use Rattle.live_run.specs.Names.{SeenValue}
use Rattle.machine.specs.Slices.{slice_count}
use Rattle.machine.specs.declared.parameters.Parameters.{Parameters}
use Rattle.run_law.specs.LookLists.{AreReady, rooms_of}
use Rattle.run_law.specs.declared.journals.TreeEntry.{TreeEntry}
use Rattle.script_ops.specs.Values.{ScriptValue, ops_of}
use Rattle.script_ops.specs.declared.op.Op.{Op}
use Rattle.seen_journal.specs.Passes.{PassValue}

pub invariant_of-result : goal.invariant_of-result
invariant_of-result g c =
    let script = g.N.RunNames.script in
    let s : SeenValue = record { thread = c.args.thread; tree = c.args.passes.tree; slices = c.args.passes.slices.items } in
    let lists = c.in_ok-looks.looks in
    let own : ScriptValue = c.args.script.now in
    let machine = c.machine.ensures ∙ ap (λ (x : ScriptValue). x.machine) c.requires.script in
    let ops = c.ops.ensures.ops ∙ ap (λ (x : ScriptValue). ops_of x c.args.thread) c.requires.script in
    PassesAreKept-first script g.T.NamedTable.table g.N.RunNames.slices (slice_count script.machine) s lists c.in_ok-shown.shown c.args.share (ap (λ (p : PassValue TreeEntry). p.seen) c.requires.tree) c.requires.slices
    (subst (λ (os : List Op). AreReady (rooms_of script.machine os) lists) ops (subst (λ (m : Parameters). AreReady (rooms_of m c.ops.result.now) lists) machine c.in_ok-looks.ensures))
    (omega (arith, c.in_ok-shown.ensures.room)) c.requires.share
