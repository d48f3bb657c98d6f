use Rattle.std.proofs.Common.{get_or, sym}
use Rattle.std.proofs.lemmas.Option.{slice_get-get_or}
use Rattle.private_lru.proofs.LineUses.{no_entry}
use Rattle.private_lru.proofs.UseLists.{AreAccesses-other}
use Rattle.private_lru.proofs.uses.push_entry.Goals as goal

pub returns-in-None : goal.returns-in-None
returns-in-None c =
    let entries = c.args.entries.now in
    AreAccesses-other entries c.args.at (get_or entries c.args.at no_entry) (slice_get-get_or entries c.args.at no_entry c.requires.within) c.args.uses.now.items c.requires.uses (sym c.in-None.ensures)
