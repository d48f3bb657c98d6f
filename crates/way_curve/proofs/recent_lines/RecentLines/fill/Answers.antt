use Rattle.std.proofs.Common.{length, sym, ap, ◌∙◌, Some, arith}
use Rattle.std.proofs.lemmas.List.{set_past}
use Rattle.way_curve.proofs.recent_lines.RecentLines.fill.Goals as goal

pub returns-else-hole-lt-MOST_WAYS-clause-filled : goal.returns-else-hole-lt-MOST_WAYS-clause-filled
returns-else-hole-lt-MOST_WAYS-clause-filled c =
    let cut = c.drop_from-slot.ensures.dropped in
    cut ∙ sym (set_past _ c.args.hole (Some c.args.last) (omega (arith, ap length cut, c.drop_from-slot.ensures.all, c.if-hole-lt-MOST_WAYS.false)))
