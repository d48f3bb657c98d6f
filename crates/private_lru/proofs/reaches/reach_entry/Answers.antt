use Rattle.std.proofs.Common.{get_or, sym}
use Rattle.std.proofs.lemmas.Option.{slice_get-get_or}
use Rattle.private_lru.proofs.LineUses.{no_entry}
use Rattle.private_lru.proofs.HeldReaches.{AreReaches-own, AreReaches-past}
use Rattle.private_lru.proofs.reaches.reach_entry.Goals as goal

pub returns-in-Some : goal.returns-in-Some
returns-in-Some c =
    let entries = c.args.entries.now in
    AreReaches-own entries c.args.stays.now c.args.at c.args.high (get_or entries c.args.at no_entry) c.args.reaches.now (slice_get-get_or entries c.args.at no_entry c.requires.within) c.requires.high c.requires.reaches
    c.in-Some.place c.in-Some.ensures.within c.in-Some.ensures.at

pub returns-in-None : goal.returns-in-None
returns-in-None c =
    let entries = c.args.entries.now in
    AreReaches-past entries c.args.stays.now c.args.at c.args.high (get_or entries c.args.at no_entry) c.args.reaches.now (slice_get-get_or entries c.args.at no_entry c.requires.within) c.requires.high c.requires.reaches
    (λ j d within. sym (c.in-None.ensures.at j d within))
