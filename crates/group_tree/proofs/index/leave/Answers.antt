use Rattle.std.proofs.Common.{◌≡◌, length, map, ap, ◌∙◌}
use Rattle.std.specs.List.{refill}
use Rattle.std.proofs.lemmas.List.{length-map}
use Rattle.group_tree.specs.Indices.{lowered}
use Rattle.group_tree.proofs.Indices.{IsIndex-lowered}
use Rattle.group_tree.proofs.IndexEntries.{refill-whole}
use Rattle.group_tree.proofs.index.leave.Goals as goal

pub returns : goal.returns
returns c = λ key_of groups index within.
    let struck = c.strike.new.entries.items in
    let lower : c.lower.new.entries ≡ map (lowered c.args.place) struck = c.lower.ensures ∙ ap (map (lowered c.args.place)) c.as_mut_slice.ensures.value in
    let written : refill (length struck) struck c.lower.new.entries ≡ map (lowered c.args.place) struck = ap (refill (length struck) struck) lower ∙ refill-whole struck (map (lowered c.args.place) struck) (length-map struck (lowered c.args.place)) in
    rw written (IsIndex-lowered c.args.place key_of groups struck (c.strike.ensures key_of groups index within))
