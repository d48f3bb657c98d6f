use Rattle.std.proofs.Common.{get_or, arith}
use Rattle.std.proofs.lemmas.Option.{slice_get-get_or}
use Rattle.private_lru.proofs.RunStarts.{IsStart-next, IsStart-same}
use Rattle.private_lru.proofs.UseLists.{no_use}
use Rattle.private_lru.proofs.ends.start_of.Goals as goal

pub returns-then-uses-start-clause-start : goal.returns-then-uses-start-clause-start
returns-then-uses-start-clause-start c =
    let uses = c.args.uses.now in
    let start = c.args.start in
    let next = c.args.next in
    IsStart-same uses c.requires.by_line next start (get_or uses start no_use) (get_or uses next no_use) (slice_get-get_or uses start no_use (let early = c.requires.start.early in omega (arith, early, c.requires.within)))
    (slice_get-get_or uses next no_use c.requires.within) c.requires.start c.if-uses-start.true

pub returns-else-uses-start-clause-start : goal.returns-else-uses-start-clause-start
returns-else-uses-start-clause-start c =
    let uses = c.args.uses.now in
    let start = c.args.start in
    let next = c.args.next in
    IsStart-next uses c.requires.by_line next start (get_or uses start no_use) (get_or uses next no_use) (slice_get-get_or uses start no_use (let early = c.requires.start.early in omega (arith, early, c.requires.within)))
    (slice_get-get_or uses next no_use c.requires.within) c.requires.start c.if-uses-start.false
