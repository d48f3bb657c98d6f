use Rattle.std.proofs.Common.{◌++◌, ap, ◌∙◌}
use Rattle.report_pieces.proofs.laws.Results.{OnOk-map}
use Rattle.report_text.proofs.CountTexts.{counts_told-all}
use Rattle.report_text.proofs.totals.push_all_counts.Goals as goal

pub returns : goal.returns
returns c =
    OnOk-map c.push_counts.result (λ told. told ∙ ap (λ t. c.args.report.now ++ t) (counts_told-all c.args.script.now c.args.journals.now c.all.result (c.all.ensures ∙ c.requires.all))) c.push_counts.ensures
