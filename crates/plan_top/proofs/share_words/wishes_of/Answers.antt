use Rattle.std.proofs.Common.{◌<◌, length, sym, arith}
use Rattle.std.proofs.lemmas.Bool.{eqb-false}
use Rattle.plan_top.proofs.Wishes.{AreFirst-all}
use Rattle.plan_top.proofs.share_words.wishes_of.Goals as goal

pub returns-clause-said : goal.returns-clause-said
returns-clause-said c =
    let words = c.args.words.now in
    let other = eqb-false (length words) 0 (sym c.if-is_empty.ensures) in
    let some : 0 < length words = omega (arith, other) in
    AreFirst-all words c.loop-word.wishes.items c.loop-word.word-index some c.loop-word-test.false c.loop-word.invariant
