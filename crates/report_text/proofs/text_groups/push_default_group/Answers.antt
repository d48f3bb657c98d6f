use Rattle.std.proofs.Common.{◌++◌, ap, ◌∙◌}
use Rattle.std.specs.Prelude.{codes}
use Rattle.report_pieces.proofs.laws.Results.{OnOk-map}
use Rattle.report_text.proofs.GroupLines.{group_told-is}
use Rattle.report_text.proofs.text_groups.push_default_group.Goals as goal

pub returns : goal.returns
returns c =
    OnOk-map c.push_group.result (λ told. told ∙ ap (λ t. c.args.report.now ++ t)
    (group_told-is c.args.script.now c.args.journals.now 0 (codes "/") c.of.result (c.of.ensures ∙ c.requires.counts.groups 0))) c.push_group.ensures
