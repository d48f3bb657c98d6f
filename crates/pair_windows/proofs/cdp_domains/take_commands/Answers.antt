use Rattle.std.proofs.Common.{◌+◌, sym, subst, arith}
use Rattle.pair_windows.specs.CdpWalks.{IsWalkedIn}
use Rattle.pair_windows.specs.DomainWalks.{Each}
use Rattle.pair_windows.proofs.cdp_domains.take_commands.Goals as goal

pub are_done-requires-clause-walked : goal.are_done-requires-clause-walked
are_done-requires-clause-walked c = subst (λ n. Each (IsWalkedIn c.args.run.now n (n + 1)) c.loop-alloc.walks) (sym c.epoch.ensures) c.loop-alloc.invariant.walked

pub take_command-requires-clause-more : goal.take_command-requires-clause-more
take_command-requires-clause-more c = let here = c.epoch.ensures in let more = c.are_done.ensures.more c.loop-alloc-test.true in omega (arith, here, more)

pub returns : goal.returns
returns c = λ i d lt. record { walked = c.loop-alloc.invariant.walked i d lt; done = c.are_done.ensures.done c.loop-alloc-test.false i d lt }
