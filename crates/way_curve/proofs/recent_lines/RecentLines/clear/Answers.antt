use Rattle.std.proofs.Common.{List, Option, None, set, ap, ◌∙◌}
use Rattle.way_curve.proofs.SlotWords.{slots_of-clear}
use Rattle.way_curve.proofs.recent_lines.RecentLines.clear.Goals as goal

pub returns : goal.returns
returns c =
    let word = c.with_hole-self-inside in
    slots_of-clear c.self.inside.holes word.result c.self.inside.lines c.args.slot c.requires word.ensures.hole word.ensures.others
    ∙ ap (λ (l : List (Option _)). set l c.args.slot None) c.self.view_is
