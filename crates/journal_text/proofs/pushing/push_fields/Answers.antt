use Rattle.std.proofs.Common.{get_or, refl}
use Rattle.journal_text.proofs.Pushes.{fields-none, fields-take_suc}
use Rattle.journal_text.proofs.pushing.push_fields.Goals as goal

pub loop-n-init : goal.loop-n-init
loop-n-init c = fields-none c.args.text.now

pub loop-n-preserved : goal.loop-n-preserved
loop-n-preserved c =
    let ns = c.args.numbers.now in
    let k = c.loop-n.n-index in
    fields-take_suc ns c.args.text.now c.loop-n.text c.push.new.self c.push_decimal.new.self k (get_or ns k 0) 0 c.loop-n-test.true refl c.loop-n.invariant c.in_ok-push.ensures c.in_ok-push_decimal.ensures
