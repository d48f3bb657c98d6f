use Rattle.std.proofs.Common.{◌<◌, List, length, set, sym, subst}
use Rattle.way_curve.specs.LevelSteps.{LevelsValue}
use Rattle.share_plans.specs.Filtering.{SeeUse}
use Rattle.share_plans.proofs.FilteredSteps.{SeeUse-own}
use Rattle.share_plans.proofs.program_levels.ProgramLevels.is_left.Goals as goal

pub returns-clause-sees : goal.returns-clause-sees
returns-clause-sees c =
    let inside = c.self.inside.programs.items in
    let own = c.is_left.new.self in
    let within = subst (λ (v : List LevelsValue). c.args.used.program < length v) (sym c.self.view_is) c.requires.program in
    subst (λ (v : List LevelsValue). SeeUse v (set inside c.args.used.program own) c.args.used c.is_left.result) c.self.view_is
    (SeeUse-own inside c.args.used c.index_mut.result.now own c.is_left.result within c.index_mut.ensures.value c.is_left.ensures)
