use Rattle.std.proofs.Common.{List, Option, ap, sym, ◌∙◌, arith}
use Rattle.std.specs.List.{position}
use Rattle.std.proofs.lemmas.List.{length-take-le}
use Rattle.way_curve.specs.Slots.{dropped, has_line, pushed}
use Rattle.way_curve.proofs.NotedSlots.{moved-filled, moved-in_front, position-in_front, position-in_rest}
use Rattle.way_curve.proofs.recent_lines.RecentLines.note.Goals as goal

pub returns-in-Found-clause-slot : goal.returns-in-Found-clause-slot
returns-in-Found-clause-slot c =
    let holes = c.self.inside.holes in
    let lines = c.self.inside.lines in
    let hole = c.first_hole-hole.result in
    let len = c.move_to_front.auto.lines ∙ length-take-le hole lines (omega (arith, c.first_hole-hole.ensures.within)) in
    sym (ap (position (has_line c.args.line)) (sym c.self.view_is) ∙ position-in_front holes hole c.args.line lines c.move_to_front.new.lines (omega arith) c.first_hole-hole.ensures.within c.first_hole-hole.ensures.lines len c.in-Found.slot c.in-Found.ensures)

pub returns-in-Found-clause-moved : goal.returns-in-Found-clause-moved
returns-in-Found-clause-moved c =
    let holes = c.self.inside.holes in
    let lines = c.self.inside.lines in
    let hole = c.first_hole-hole.result in
    let len = c.move_to_front.auto.lines ∙ length-take-le hole lines (omega (arith, c.first_hole-hole.ensures.within)) in
    moved-in_front holes hole c.args.line lines c.move_to_front.new.lines (omega arith) c.first_hole-hole.ensures.within c.first_hole-hole.ensures.lines len c.in-Found.slot c.in-Found.ensures
    ∙ ap (λ (l : List (Option _)). pushed c.args.line (dropped c.args.line l)) c.self.view_is

pub returns-in-Last-clause-slot : goal.returns-in-Last-clause-slot
returns-in-Last-clause-slot c =
    let holes = c.self.inside.holes in
    let lines = c.self.inside.lines in
    let hole = c.first_hole-hole.result in
    let len = c.move_to_front.auto.lines ∙ length-take-le hole lines (omega (arith, c.first_hole-hole.ensures.within)) in
    c.fill.ensures.slot
    ∙ (position-in_rest holes hole c.args.line lines c.move_to_front.new.lines (omega arith) c.first_hole-hole.ensures.within c.first_hole-hole.ensures.lines len c.in-Last.last c.in-Last.ensures
    ∙ ap (position (has_line c.args.line)) c.self.view_is)

pub returns-in-Last-clause-moved : goal.returns-in-Last-clause-moved
returns-in-Last-clause-moved c =
    let holes = c.self.inside.holes in
    let lines = c.self.inside.lines in
    let hole = c.first_hole-hole.result in
    let len = c.move_to_front.auto.lines ∙ length-take-le hole lines (omega (arith, c.first_hole-hole.ensures.within)) in
    c.fill.ensures.filled
    ∙ (moved-filled holes hole c.args.line lines c.move_to_front.new.lines (omega arith) c.first_hole-hole.ensures.within c.first_hole-hole.ensures.lines len c.in-Last.last c.in-Last.ensures c.first_hole-hole.ensures.hole
    ∙ ap (λ (l : List (Option _)). pushed c.args.line (dropped c.args.line l)) c.self.view_is)
