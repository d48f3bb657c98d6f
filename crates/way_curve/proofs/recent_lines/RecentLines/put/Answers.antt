use Rattle.std.proofs.Common.{List, Option, Some, set, ap, ◌∙◌, arith}
use Rattle.way_curve.proofs.SlotWords.{slots_of-put}
use Rattle.way_curve.proofs.recent_lines.RecentLines.put.Goals as goal

pub returns : goal.returns
returns c =
    let word = c.without_hole-self-inside in
    slots_of-put c.self.inside.holes word.result c.self.inside.lines c.args.slot c.args.line c.requires (omega arith) word.ensures.line word.ensures.others
    ∙ ap (λ (l : List (Option _)). set l c.args.slot (Some c.args.line)) c.self.view_is
