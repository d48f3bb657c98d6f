use Rattle.std.proofs.Common.{subst}
use Rattle.cpu_lists.specs.Sets.{has}
use Rattle.cpu_lists.specs.Collected.{IsBeyond}
use Rattle.cpu_lists.proofs.Additions.{IsBeyond-raised_some, IsBeyond-raised_kept, IsBeyond-raised_none}
use Rattle.cpu_lists.proofs.numbers.raised.Goals as goal

pub returns-then-moved-ne0 : goal.returns-then-moved-ne0
returns-then-moved-ne0 c value high same = rw c.from.ensures (IsBeyond-raised_some c.args.moved value c.if-moved-ne0.true c.requires same)

pub returns-in-Some : goal.returns-in-Some
returns-in-Some c value high same = rw c.saturating_add.ensures (IsBeyond-raised_kept c.args.moved value c.in-Some.n c.if-moved-ne0.false same (subst (IsBeyond (has value)) c.in-Some.is high))

pub returns-in-None : goal.returns-in-None
returns-in-None c value high same = IsBeyond-raised_none c.args.moved value c.if-moved-ne0.false same (subst (IsBeyond (has value)) c.in-None.is high)
