use Rattle.std.proofs.Common.{◌∙◌}
use Rattle.top_parts.proofs.GivenWords.{drained-into_iter, into_iter_items-next}
use Rattle.top_parts.proofs.arguments.after_first.Goals as goal

pub returns : goal.returns
returns c =
    let ran = c.in_ok-words.ensures.ran in
    let rest = c.next.new.self in
    ran.2.0 ∙ drained-into_iter rest ran.0 ran.1 ∙ into_iter_items-next c.args.all rest c.next.result c.next.ensures.cases
