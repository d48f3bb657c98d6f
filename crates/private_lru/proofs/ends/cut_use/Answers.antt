use Rattle.std.proofs.Common.{get_or, arith}
use Rattle.std.proofs.lemmas.Option.{slice_get-get_or}
use Rattle.private_lru.proofs.EachGroup.{AreCuts-next}
use Rattle.private_lru.proofs.UseLists.{no_use}
use Rattle.private_lru.proofs.ends.cut_use.Goals as goal

pub returns : goal.returns
returns c =
    let uses = c.args.uses.now in
    let start = c.args.start in
    let next = c.args.next in
    AreCuts-next c.args.set.now.sets c.args.set.now.opening uses c.args.set.now.none c.args.set.now.stays.now c.args.set.now.reaches.now next start (get_or uses start no_use) (get_or uses next no_use) c.args.ends.now c.cut_loaded.new.ends c.cut_shared.new.ends
    (slice_get-get_or uses start no_use (omega (arith, c.requires.early, c.requires.within))) (slice_get-get_or uses next no_use c.requires.within) c.requires.early c.requires.start c.requires.ends c.cut_loaded.ensures c.cut_shared.ensures
