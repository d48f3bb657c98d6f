use Rattle.std.proofs.Common.{Some, refl, subst}
use Rattle.lackey_text.specs.Uses.{uses_of}
use Rattle.way_curve.specs.Filtering.{AddFiltered, FilteredValue}
use Rattle.way_curve.proofs.FilteredSteps.{AddFiltered-behind, AddFiltered-none}
use Rattle.way_curve.proofs.filtered_curves.FilteredCurves.note_line.Goals as goal

pub returns-in-None-clause-filtered : goal.returns-in-None-clause-filtered
returns-in-None-clause-filtered c =
    let more = uses_of c.args.said.now in
    let old : FilteredValue = record { levels = c.self.inside.levels; sampled = c.self.inside.sampled } in
    let new : FilteredValue = record { levels = c.self.inside.levels; sampled = c.note_line.new.self } in
    subst (λ (v : FilteredValue). AddFiltered v new more) c.self.view_is (AddFiltered-none old new more c.in-None.is c.in-None.is c.note_line.ensures.sampled)

pub returns-in-Some-clause-filtered : goal.returns-in-Some-clause-filtered
returns-in-Some-clause-filtered c =
    let more = uses_of c.args.said.now in
    let old : FilteredValue = record { levels = c.self.inside.levels; sampled = c.self.inside.sampled } in
    let new : FilteredValue = record { levels = Some c.filter_line.new.levels; sampled = c.filter_line.new.sampled } in
    subst (λ (v : FilteredValue). AddFiltered v new more) c.self.view_is
    (AddFiltered-behind old new c.in-Some.levels c.filter_line.new.levels more c.in-Some.is refl c.filter_line.ensures.filtered)
