use Rattle.std.proofs.Common.{length, ltb-true, sym, ap, ◌∙◌}
use Rattle.std.specs.Prelude.{◌&&◌, ◌==◌}
use Rattle.private_lru.proofs.RisingStays.{place-only}
use Rattle.private_lru.proofs.ends.place_of.Goals as goal

pub returns-in-Some-clause-at : goal.returns-in-Some-clause-at
returns-in-Some-clause-at c = λ j d inside.
    let stays = c.args.stays.now in
    let place = c.count_before-place.result in
    let before = c.count_before-place.ensures in
    c.place_if.ensures.at j ∙ (ap (λ b. (place == j) && b) c.is_open.ensures
    ∙ place-only stays c.requires.rising c.args.gid.0 place c.args.high c.in-Some.stay.now (ltb-true place (length stays) (sym c.in-Some.ensures.lookup.0)) c.in-Some.ensures.lookup.1 before.before before.rest j d inside)
