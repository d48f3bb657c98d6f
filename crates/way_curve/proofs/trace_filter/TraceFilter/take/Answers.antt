use Rattle.std.proofs.Common.{ℕ, ◌+◌, ◌++◌, refl, sym, ap, subst, ◌∙◌}
use Rattle.lackey_text.specs.Uses.{uses_of}
use Rattle.way_curve.specs.Filters.{FilterValue, HasFiltered}
use Rattle.way_curve.proofs.trace_filter.TraceFilter.take.Goals as goal

pub returns-in-Open-clause-taken : goal.returns-in-Open-clause-taken
returns-in-Open-clause-taken c = λ levels text written filtered.
    let has = subst (λ (f : FilterValue). HasFiltered levels f text (written ++ c.args.out.now.bytes)) (sym c.self.view_is) filtered in
    record { uses = has.uses; joins = c.in-Open.ensures.byte text has.uses has.joins; seen = has.seen; told = has.told }

pub returns-in-Ended-clause-taken : goal.returns-in-Ended-clause-taken
returns-in-Ended-clause-taken c = λ levels text written filtered.
    let has = subst (λ (f : FilterValue). HasFiltered levels f text (written ++ c.args.out.now.bytes)) (sym c.self.view_is) filtered in
    let left = c.push_left.ensures.left levels has.uses written has.seen has.told in
    record { uses = has.uses ++ uses_of c.in-Ended.said; joins = c.in-Ended.ensures.byte text has.uses has.joins; seen = left.0; told = left.1 }

pub returns-in-Bad-clause-taken : goal.returns-in-Bad-clause-taken
returns-in-Bad-clause-taken c = λ levels text written filtered more.
    let has = subst (λ (f : FilterValue). HasFiltered levels f text (written ++ c.args.out.now.bytes)) (sym c.self.view_is) filtered in
    record { before = c.self.inside.lines.ended; uses = has.uses; is_line = c.bad_line.ensures ∙ ap (λ (k : ℕ). k + 1) (c.in-Bad.ensures.bad refl); is_bad = c.in-Bad.ensures.byte text has.uses has.joins more; told = has.told }
