use Rattle.std.proofs.Common.{[]}
use Rattle.way_curve.proofs.laws.FilteredTexts.{filter_text-nil}
use Rattle.way_curve.proofs.trace_filter.TraceFilter.create.Goals as goal

pub returns-clause-empty : goal.returns-clause-empty
returns-clause-empty c = record { uses = []; joins = c.in_ok-lines.ensures.empty; seen = c.in_ok-levels.ensures; told = filter_text-nil c.args.levels }
