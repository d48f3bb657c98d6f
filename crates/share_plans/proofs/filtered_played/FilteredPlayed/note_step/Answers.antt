use Rattle.std.proofs.Common.{Some, refl, subst}
use Rattle.share_plans.specs.Filtering.{AddFiltered, FilteredValue}
use Rattle.share_plans.specs.Streams.{uses_in}
use Rattle.share_plans.proofs.FilteredSteps.{AddFiltered-behind, AddFiltered-none}
use Rattle.share_plans.proofs.filtered_played.FilteredPlayed.note_step.Goals as goal

pub returns-in-None-clause-filtered : goal.returns-in-None-clause-filtered
returns-in-None-clause-filtered c =
    let more = uses_in c.args.step.now in
    let old : FilteredValue = record { levels = c.self.inside.levels; played = c.self.inside.played } in
    let new : FilteredValue = record { levels = c.self.inside.levels; played = c.note_step.new.self } in
    subst (λ (v : FilteredValue). AddFiltered v new more) c.self.view_is (AddFiltered-none old new more c.in-None.is c.in-None.is c.note_step.ensures.played)

pub returns-in-Some-clause-filtered : goal.returns-in-Some-clause-filtered
returns-in-Some-clause-filtered c =
    let more = uses_in c.args.step.now in
    let old : FilteredValue = record { levels = c.self.inside.levels; played = c.self.inside.played } in
    let new : FilteredValue = record { levels = Some c.filter_step.new.levels; played = c.filter_step.new.played } in
    subst (λ (v : FilteredValue). AddFiltered v new more) c.self.view_is
    (AddFiltered-behind old new c.in-Some.levels c.filter_step.new.levels more c.in-Some.is refl c.filter_step.ensures.filtered)
