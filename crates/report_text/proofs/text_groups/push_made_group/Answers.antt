use Rattle.std.proofs.Common.{◌++◌, ap, ◌∙◌}
use Rattle.path_names.specs.PathTexts.{path_text}
use Rattle.path_names.specs.declared.dirs.DirRef.TheVariants.{Ctrl}
use Rattle.path_names.specs.declared.path_ref.PathRef.TheVariants.{Dir}
use Rattle.report_pieces.proofs.laws.Results.{OnOk-map}
use Rattle.report_text.proofs.GroupLines.{group_told-made}
use Rattle.report_text.specs.Groups.{group_told}
use Rattle.report_text.proofs.text_groups.push_made_group.Goals as goal

pub returns : goal.returns
returns c =
    let made = c.args.made in
    OnOk-map c.push_group.result (λ told. told ∙ ap (λ t. c.args.report.now ++ t)
    (ap (λ names. group_told made.gid (path_text names (Dir (Ctrl made.name))) c.of.result) c.names.ensures
    ∙ group_told-made c.args.script.now c.args.journals.now made c.of.result (c.of.ensures ∙ c.requires.counts.groups made.gid))) c.push_group.ensures
