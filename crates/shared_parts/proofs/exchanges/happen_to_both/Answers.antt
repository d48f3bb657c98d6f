use Rattle.std.proofs.Common.{◌++◌, ap, sym, ◌∙◌, subst}
use Rattle.std.proofs.lemmas.List.{append-nil}
use Rattle.shared_parts.specs.Parts.{AreApart, first_of, parts_after, rest_of}
use Rattle.shared_parts.proofs.Pairs.{AreApart-parts_after, first_of-parts_after, rest_of-parts_after}
use Rattle.shared_parts.proofs.exchanges.happen_to_both.Goals as goal

pub give_first_to-requires-clause-apart : goal.give_first_to-requires-clause-apart
give_first_to-requires-clause-apart g c =
    let now = c.happen.ensures.parts ∙ ap (parts_after g.M.Machine.after c.args.event.now) c.take_all.ensures.seat in
    subst (λ l. AreApart (first_of l) (rest_of l)) (sym now) (AreApart-parts_after g.M.Machine.after c.args.event.now c.args.other.now.me.0.parts c.args.seat.now.me.0.parts c.requires.one c.requires.apart)

pub returns-clause-seat : goal.returns-clause-seat
returns-clause-seat g c =
    let now = c.happen.ensures.parts ∙ ap (parts_after g.M.Machine.after c.args.event.now) c.take_all.ensures.seat in
    c.give_first_to.ensures.seat ∙ (ap rest_of now ∙ rest_of-parts_after g.M.Machine.after c.args.event.now c.args.other.now.me.0.parts c.args.seat.now.me.0.parts c.requires.one)

pub returns-clause-other : goal.returns-clause-other
returns-clause-other g c =
    let now = c.happen.ensures.parts ∙ ap (parts_after g.M.Machine.after c.args.event.now) c.take_all.ensures.seat in
    let first = ap first_of now ∙ first_of-parts_after g.M.Machine.after c.args.event.now c.args.other.now.me.0.parts c.args.seat.now.me.0.parts c.requires.one in
    c.give_first_to.ensures.other ∙ ((λ j. first j ++ c.take_all.ensures.other j) ∙ append-nil (parts_after g.M.Machine.after c.args.event.now c.args.other.now.me.0.parts))
