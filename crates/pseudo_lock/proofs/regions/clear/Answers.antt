use Rattle.std.proofs.Common.{◌≡◌, ◌<◌, length, get_or, None, arith, ◌∙◌}
use Rattle.std.proofs.lemmas.List.{get_or_default, length-set}
use Rattle.std.proofs.lemmas.List.Edits.{map_over_more}
use Rattle.pseudo_lock.specs.Regions.{without}
use Rattle.pseudo_lock.proofs.regions.clear.Goals as goal

pub loop-domain-preserved : goal.loop-domain-preserved
loop-domain-preserved c =
    let before = c.loop-domain.places in
    let domain = c.loop-domain.domain in
    let here = get_or before domain None in
    let whole : length before ≡ 8 = c.loop-domain.invariant.whole in
    let there : domain < length before = omega arith in
    let within : domain < length c.args.places.now = omega arith in
    record {
      whole = length-set before domain c.without.result ∙ whole;
      walk = rw c.without.ensures (map_over_more (without c.args.gid) c.args.places.now before domain here within c.loop-domain.invariant.walk (get_or_default before domain None here there));
    }
