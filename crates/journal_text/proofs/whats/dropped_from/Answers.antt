use Rattle.std.specs.Prelude.{codes}
use Rattle.machine.specs.Maps.{parameters_of}
use Rattle.journal_text.proofs.KindWords.{is_word}
use Rattle.journal_text.proofs.Drops.{no_way, way_says, way_word-number}
use Rattle.journal_text.proofs.whats.dropped_from.Goals as goal

pub returns-then-is_text : goal.returns-then-is_text
returns-then-is_text c = (tt, is_word (codes " -") c.args.rest.now c.if-is_text.ensures)

pub returns-in_err-place : goal.returns-in_err-place
returns-in_err-place c = rw c.from_residual.ensures (no_way (parameters_of c.args.machine.now) c.args.rest.now c.args.machine.now.in_range.way_limit c.if-is_text.ensures c.in_err-place.ensures)

pub returns-in_err-way : goal.returns-in_err-way
returns-in_err-way c =
    let a = c.in_ok-place in
    rw c.from_residual-in_err-way.ensures (λ way is same. c.in_err-way.ensures (way_says (parameters_of c.args.machine.now) c.args.rest.now a.place c.args.machine.now.in_range.way_limit c.if-is_text.ensures a.ensures way is same))

pub returns : goal.returns
returns c = (c.in_ok-way.ensures.1, way_word-number c.args.rest.now c.in_ok-place.place c.in_ok-way.way c.in_ok-place.ensures c.in_ok-way.ensures.0)
