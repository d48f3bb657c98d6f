use Rattle.std.proofs.Common.{◌≡◌, ℕ, ◌<◌, length, Some, sym, ap, ◌∙◌, arith}
use Rattle.pair_law.proofs.laws.Epochs.{Contains-tasks_of}
use Rattle.pair_windows.proofs.LineUses.{Fits-read, op_at-read, use_in-none}
use Rattle.pair_windows.specs.Segments.{use_in}
use Rattle.pair_text.specs.Values.{op_at}
use Rattle.pair_text.specs.declared.op.PairOp.{PairOp}
use Rattle.pair_text.specs.declared.op.PairOp.TheVariants as ops
use Rattle.pair_windows.proofs.line_uses.next_use.Goals as goal

pub use_of-requires-clause-task : goal.use_of-requires-clause-task
use_of-requires-clause-task c =
    let script = c.args.script.now in
    let i : ℕ = c.place.result in
    let inside = c.requires.within in
    let is = c.place.ensures in
    let within : i < length script.ops = omega (arith, inside, is) in
    let fits = Fits-read script i c.ops.result.now c.index-ops-place.result c.ops.ensures c.index-ops-place.is within c.requires.playable.lawful
    (ops.Use c.in-Use.task c.in-Use.cpu c.in-Use.line c.in-Use.code) c.in-Use.is in
    Contains-tasks_of script c.tree.result.now.state c.args.replay.now.tree.epoch c.in-Use.task (ap (λ t. t.state) c.tree.ensures ∙ c.requires.taken.state) fits.0

pub use_of-requires-clause-cpu : goal.use_of-requires-clause-cpu
use_of-requires-clause-cpu c =
    let script = c.args.script.now in
    let i : ℕ = c.place.result in
    let inside = c.requires.within in
    let is = c.place.ensures in
    let within : i < length script.ops = omega (arith, inside, is) in
    let fits = Fits-read script i c.ops.result.now c.index-ops-place.result c.ops.ensures c.index-ops-place.is within c.requires.playable.lawful
    (ops.Use c.in-Use.task c.in-Use.cpu c.in-Use.line c.in-Use.code) c.in-Use.is in
    fits.1

pub returns-in-Use : goal.returns-in-Use
returns-in-Use c =
    let script = c.args.script.now in
    let i : ℕ = c.place.result in
    let domain : ℕ = c.args.domain in
    let inside = c.requires.within in
    let is = c.place.ensures in
    let within : i < length script.ops = omega (arith, inside, is) in
    let op : PairOp = ops.Use c.in-Use.task c.in-Use.cpu c.in-Use.line c.in-Use.code in
    let at : op_at script c.args.replay.now.place ≡ Some op =
    ap (op_at script) (sym is) ∙ (op_at-read script i c.ops.result.now c.index-ops-place.result c.ops.ensures c.index-ops-place.is within ∙ ap (λ (o : PairOp). Some o) c.in-Use.is) in
    c.use_of.ensures c.in-Use.code ∙ (ap (λ t. use_in script t.state domain (Some op)) c.tree.ensures ∙ ap (use_in script c.args.replay.now.tree.state domain) (sym at))

pub returns-in_default : goal.returns-in_default
returns-in_default c =
    let script = c.args.script.now in
    let i : ℕ = c.place.result in
    let domain : ℕ = c.args.domain in
    let inside = c.requires.within in
    let is = c.place.ensures in
    let within : i < length script.ops = omega (arith, inside, is) in
    let op : PairOp = c.index-ops-place.result in
    let at : op_at script c.args.replay.now.place ≡ Some op = ap (op_at script) (sym is) ∙ op_at-read script i c.ops.result.now op c.ops.ensures c.index-ops-place.is within in
    use_in-none script c.args.replay.now.tree.state domain op c.in_default.not-Use ∙ ap (use_in script c.args.replay.now.tree.state domain) (sym at)
