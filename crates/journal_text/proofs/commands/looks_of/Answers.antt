use Rattle.std.proofs.Common.{◌+◌, ◌∷◌, [], ℕ, length, ap, arith, rules, ◌∙◌, length-append}
use Rattle.journal_text.proofs.Looks.{all_taken, no_more, not_all}
use Rattle.journal_text.proofs.laws.Taken.{Takes-append, Takes-nothing}
use Rattle.journal_text.proofs.commands.looks_of.Goals as goal

pub loop-init : goal.loop-init
loop-init c = record {
  takes = rw c.in_ok-looks.ensures.empty (Takes-nothing c.args.text.now c.requires);
  taken = ap length c.in_ok-looks.ensures.empty;
  room = omega (arith, c.in_ok-looks.ensures.room);
}

pub returns-in_default : goal.returns-in_default
returns-in_default c = no_more c.loop.looks.numbers c.loop.left.now c.args.text.now c.loop.counter c.args.count c.loop.invariant.takes c.loop.invariant.taken c.loop-test.true (search rules)

pub push-requires : goal.push-requires
push-requires c =
    let room = c.loop.invariant.room in
    let more = c.loop-test.true in
    omega arith

pub loop-preserved : goal.loop-preserved
loop-preserved c =
    let ms = c.loop.looks.numbers in
    let last = c.in-Some.look ∷ [] in
    record {
      takes = rw c.push.ensures.numbers (Takes-append ms last c.loop.left.now c.in-Some.rest.now c.args.text.now c.loop.invariant.takes c.in-Some.ensures);
      taken = ap length c.push.ensures.numbers ∙ length-append ms last ∙ ap (λ (n : ℕ). n + 1) c.loop.invariant.taken;
      room = omega (arith, c.push.ensures.spare, c.loop.invariant.room);
    }

pub returns-then-is_empty : goal.returns-then-is_empty
returns-then-is_empty c =
    let below = c.loop.auto.counter-end in
    let above = c.loop-test.false in
    (omega (arith, c.loop.invariant.taken), all_taken c.loop.looks.numbers c.loop.left.now c.args.text.now c.loop.invariant.takes c.if-is_empty.ensures)

pub returns-else-is_empty : goal.returns-else-is_empty
returns-else-is_empty c =
    let below = c.loop.auto.counter-end in
    let above = c.loop-test.false in
    not_all c.loop.looks.numbers c.loop.left.now c.args.text.now c.args.count c.loop.invariant.takes (omega (arith, c.loop.invariant.taken)) c.if-is_empty.ensures
