-- The text that a command shows.
use Rattle.std.proofs.Common.{◌≡◌, length, ap, sym, ◌∙◌, subst}
use Rattle.std.specs.Prelude.{IsTrue, None}
use Rattle.file_view.specs.Texts.{is_reading}
use Rattle.rc_base.specs.declared.replies.Reply.TheVariants.{Ok}
use Rattle.live_run.proofs.TakenTrees.{named-next}
use Rattle.live_run.proofs.Readings.{next-reading}
use Rattle.live_run.proofs.tree.TreeCell.command.Goals.{After-items-2}
use Rattle.live_run.proofs.tree.TreeCell.command.Given.{Over}
use Rattle.machine.specs.declared.parameters.Parameters.{Parameters}
use Rattle.script_ops.specs.Values.{ScriptValue}
use Rattle.tree_core.specs.Named.{AreNamed}
use Rattle.tree_law.proofs.laws.Refusals.{refusal-ok}
use Rattle.tree_law.specs.State.{State}
use Rattle.tree_law.specs.Steps.{needs, refusal}

-- the state that an accepted read or list leaves is the one that it found
same_state : (g : Over) (c : After-items-2 g) → IsTrue (is_reading c.args.command.now.op.now) → c.apply-reply.new.self.state ≡ c.self.inside.tree.state
same_state g c reads = c.apply-reply.ensures.state ∙ next-reading c.self.inside.tree.machine c.self.inside.tree.state c.args.command.now.op.now c.items.result.now reads

-- the machine of the script is the tree's
same_machine : (g : Over) (c : After-items-2 g) → c.args.around.now.script.now.machine ≡ c.self.inside.tree.machine
same_machine g c = ap (λ (x : ScriptValue). x.machine) c.requires.script ∙ sym c.self.invariant.machine

-- what was accepted is not refused
pub is_accepted : (g : Over) (c : After-items-2 g) → IsTrue (is_reading c.args.command.now.op.now) → c.apply-reply.result.0 ≡ Ok → refusal c.args.around.now.script.now.machine c.apply-reply.new.self.state c.args.command.now.op.now ≡ None
is_accepted g c reads ok =
    let m = c.self.inside.tree.machine in
    let s = c.self.inside.tree.state in
    let op = c.args.command.now.op.now in
    let none : refusal m s op ≡ None = refusal-ok m s op c.items.result.now (sym c.apply-reply.ensures.reply ∙ ok) in
    ap (λ (x : Parameters). refusal x c.apply-reply.new.self.state op) (same_machine g c) ∙ (ap (λ (x : State). refusal m x op) (same_state g c reads) ∙ none)

-- it was given the counts that it needs
pub has_counts : (g : Over) (c : After-items-2 g) → IsTrue (is_reading c.args.command.now.op.now) → length c.items-2.result.now ≡ length (needs c.args.around.now.script.now.machine c.apply-reply.new.self.state c.args.command.now.op.now)
has_counts g c reads =
    let m = c.self.inside.tree.machine in
    let op = c.args.command.now.op.now in
    let given : length c.items-2.result.now ≡ length (needs m c.self.inside.tree.state op) = ap length c.items-2.ensures ∙ (c.look_all.ensures.done.count ∙ ap length c.counts-counts.ensures.needs) in
    given ∙ (ap (λ (x : State). length (needs m x op)) (sym (same_state g c reads)) ∙ ap (λ (x : Parameters). length (needs x c.apply-reply.new.self.state op)) (sym (same_machine g c)))

-- the tree's groups have the script's names
pub are_named : (g : Over) (c : After-items-2 g) → AreNamed c.args.around.now.script.now.names c.apply-reply.new.self.state.groups
are_named g c =
    let script = g.N.RunNames.script in
    subst (λ (x : ScriptValue). AreNamed x.names c.apply-reply.new.self.state.groups) (sym c.requires.script)
    (named-next script c.self.inside.tree.machine c.self.inside.tree.state c.apply-reply.new.self.state c.args.side.now.seen.thread c.args.command.now.number c.args.command.now.op.now c.items.result.now c.self.invariant.lawful c.requires.op c.apply-reply.ensures.state c.self.invariant.named)
