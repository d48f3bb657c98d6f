use Rattle.std.proofs.Common.{ℕ, ◌+◌, ◌++◌, ap, sym, subst}
use Rattle.lackey_text.specs.Uses.{uses_of}
use Rattle.way_curve.specs.Filters.{FilterValue, HasFiltered}
use Rattle.way_curve.proofs.trace_filter.TraceFilter.finish.Goals as goal

pub returns-in-Open-clause-ends : goal.returns-in-Open-clause-ends
returns-in-Open-clause-ends c = λ levels text written filtered.
    let has = subst (λ (f : FilterValue). HasFiltered levels f text (written ++ c.args.out.now.bytes)) (sym c.self.view_is) filtered in
    record { uses = has.uses; trace = c.in-Open.ensures.text text has.uses has.joins; told = has.told }

pub returns-in-Ended-clause-ends : goal.returns-in-Ended-clause-ends
returns-in-Ended-clause-ends c = λ levels text written filtered.
    let has = subst (λ (f : FilterValue). HasFiltered levels f text (written ++ c.args.out.now.bytes)) (sym c.self.view_is) filtered in
    let left = c.push_left.ensures.left levels has.uses written has.seen has.told in
    record { uses = has.uses ++ uses_of c.in-Ended.said; trace = c.in-Ended.ensures.text text has.uses has.joins; told = left.1 }

pub returns-clause-ends : goal.returns-clause-ends
returns-clause-ends c = λ levels text written filtered.
    let has = subst (λ (f : FilterValue). HasFiltered levels f text (written ++ c.args.out.now.bytes)) (sym c.self.view_is) filtered in
    record { before = c.self.inside.lines.ended; uses = has.uses; is_line = ap (λ (k : ℕ). k + 1) c.ended.ensures.ended; is_bad = c.in-Bad.ensures.text text has.uses has.joins; told = has.told }
