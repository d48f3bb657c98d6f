use Rattle.std.proofs.Common.{◌≡◌, ◌+◌, ◌<◌, length, get_or, ap, ◌∙◌, arith}
use Rattle.machine.specs.Maps.{parameters_of}
use Rattle.run_law.proofs.laws.RoomSums.{sum-next}
use Rattle.script_ops.specs.Weights.{weight_of}
use Rattle.script_ops.specs.declared.op.Op.TheVariants.{Tick}
use Rattle.journal_text.proofs.weight.ops_weight.Goals as goal

pub loop-i-preserved : goal.loop-i-preserved
loop-i-preserved c =
    let m = parameters_of c.args.m.now in
    let ops = c.args.ops.now in
    let i = c.loop-i.i in
    let within : i < length ops = omega (arith, c.loop-i-test.true, c.len-i-end.ensures) in
    let one : c.weight_of-weight.result ≡ weight_of m (get_or ops i Tick) = c.weight_of-weight.ensures.value ∙ ap (weight_of m) (c.get.ensures ∙ c.at-op.ensures Tick) in
    ap (λ n. c.loop-i.weight + n) one ∙ sum-next (weight_of m) ops i c.loop-i.weight Tick within c.loop-i.invariant
