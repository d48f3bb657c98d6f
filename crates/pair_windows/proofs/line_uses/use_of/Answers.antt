use Rattle.std.proofs.Common.{◌≡◌, ℕ, ap, ◌∙◌}
use Rattle.pair_windows.proofs.LineUses.{use_in-other, use_in-own}
use Rattle.machine.specs.Maps.{domain_of}
use Rattle.pair_text.specs.declared.side.Side.TheVariants.{Second}
use Rattle.pair_law.specs.LevelRuns.{domain_on}
use Rattle.pair_windows.proofs.line_uses.use_of.Goals as goal

pub returns-then-own-state : goal.returns-then-own-state
returns-then-own-state c = λ code.
    let script = c.args.state.now.script.now in
    let cpu : ℕ = c.args.cpu in
    let here : c.domain_of-own.result ≡ domain_on script Second cpu = c.domain_of-own.ensures.domain ∙ ap (λ p. domain_of p cpu) c.machine.ensures in
    use_in-other script c.args.state.now.tree.now.state c.args.state.now.domain c.args.task cpu c.args.line code c.domain_of-own.result here c.if-own-state.true

pub returns : goal.returns
returns c = λ code.
    let script = c.args.state.now.script.now in
    let cpu : ℕ = c.args.cpu in
    let here : c.domain_of-own.result ≡ domain_on script Second cpu = c.domain_of-own.ensures.domain ∙ ap (λ p. domain_of p cpu) c.machine.ensures in
    use_in-own script c.args.state.now.tree.now.state c.args.state.now.domain c.args.task cpu c.args.line code c.domain_of-own.result here c.resolve.result.owner (ap (λ t. t.owner) c.resolve.ensures) c.if-own-state.false
