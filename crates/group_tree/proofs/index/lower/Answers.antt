use Rattle.std.proofs.Common.{◌≡◌, ◌<◌, length, get_or, arith, ◌∙◌}
use Rattle.std.proofs.lemmas.List.{get_or_default, length-set}
use Rattle.std.proofs.lemmas.List.Edits.{map_over_more}
use Rattle.group_tree.specs.Indices.{lowered}
use Rattle.group_tree.specs.declared.index.Entry.{Entry}
use Rattle.group_tree.proofs.index.lower.Goals as goal

pub loop-k-preserved : goal.loop-k-preserved
loop-k-preserved c =
    let before = c.loop-k.entries in
    let k = c.loop-k.k in
    let none : Entry = record { key = record { high = 0; low = 0 }; place = 0 } in
    let here = get_or before k none in
    let whole : length before ≡ length c.args.entries.now = c.loop-k.invariant.whole in
    let within : k < length c.args.entries.now = omega arith in
    let there : k < length before = omega (arith, whole, within) in
    record {
      whole = length-set before k c.lowered.result ∙ whole;
      walk = rw c.lowered.ensures (map_over_more (lowered c.args.place) c.args.entries.now before k here within c.loop-k.invariant.walk (get_or_default before k none here there));
    }
