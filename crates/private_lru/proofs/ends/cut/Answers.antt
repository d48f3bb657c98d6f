use Rattle.std.proofs.Common.{set, sym, subst}
use Rattle.private_lru.proofs.EachGroup.{AreEach-at, AreEach-none}
use Rattle.private_lru.specs.Cuts.{AreEach, cut_by}
use Rattle.private_lru.proofs.ends.cut.Goals as goal

pub returns-in-Some : goal.returns-in-Some
returns-in-Some c =
    let stays = c.args.set.now.stays.now in
    let ends = c.args.ends.now in
    let place = c.in-Some.place in
    subst (λ k. AreEach (cut_by c.args.user c.args.at) stays c.args.set.now.reaches.now ends (set ends place k)) (sym c.end_by.ensures)
    (AreEach-at c.args.user c.args.at place stays c.args.set.now.reaches.now ends c.in-Some.ensures.within c.requires.ends c.in-Some.ensures.at)

pub returns-in-None : goal.returns-in-None
returns-in-None c = AreEach-none c.args.user c.args.at c.args.set.now.stays.now c.args.set.now.reaches.now c.args.ends.now c.in-None.ensures.at
