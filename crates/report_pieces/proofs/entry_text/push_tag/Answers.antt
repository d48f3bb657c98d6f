use Rattle.std.proofs.Common.{◌++◌, ap, ◌∙◌}
use Rattle.std.proofs.lemmas.List.{append_assoc}
use Rattle.machine.specs.Maps.{parameters_of}
use Rattle.report_pieces.proofs.laws.Results.{OnOk-map}
use Rattle.report_pieces.specs.EntryTexts.{mask_text, owner_text}
use Rattle.report_pieces.proofs.entry_text.push_tag.Goals as goal

pub returns : goal.returns
returns c =
    let mask = mask_text (parameters_of c.args.machine.now) c.args.mask in
    OnOk-map c.push_mask.result (λ last. last ∙ (ap (λ t. t ++ mask) c.in_ok-push_owner.ensures ∙ append_assoc c.args.report.now (owner_text c.args.gid c.args.rmid) mask)) c.push_mask.ensures
