use Rattle.std.proofs.Common.{sym, ◌∙◌}
use Rattle.std.proofs.lemmas.Bool.{eq-eqb, eqb-true}
use Rattle.journal_check.proofs.replay.Replay.has_lines.Goals as goal

pub returns : goal.returns
returns c =
    let counted = c.of.ensures ∙ c.requires.counts c.args.rmid c.ranges.rmid.fits in
    (λ shown. sym (eqb-true c.of.result c.args.lines shown) ∙ counted, λ is. eq-eqb c.of.result c.args.lines (counted ∙ sym is))
