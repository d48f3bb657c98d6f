use Rattle.std.proofs.Common.{List, length, sym, subst, ap, ◌∙◌}
use Rattle.pair_windows.proofs.QuietScripts.{cdp_windows-none}
use Rattle.pair_windows.specs.CdpJournals.{cdp_journals}
use Rattle.pair_windows.specs.CdpWalks.{IsWalkedIn}
use Rattle.pair_windows.specs.DomainWalks.{Each}
use Rattle.pair_windows.specs.declared.cdp_walks.CdpWalk.{CdpWalk}
use Rattle.pair_windows.proofs.windows.cdp_windows.Goals as goal

pub returns-then-not-has_exclusive_write : goal.returns-then-not-has_exclusive_write
returns-then-not-has_exclusive_write c =
    c.new.ensures.items ∙ sym (cdp_windows-none c.args.script.now (sym c.has_exclusive_write.ensures ∙ c.if-not-has_exclusive_write.true) (cdp_journals c.args.replies.now c.args.slices.now))

pub find_windows-requires-clause-one_each : goal.find_windows-requires-clause-one_each
find_windows-requires-clause-one_each c = ap (λ (ws : List CdpWalk). length ws) c.deref_mut.ensures.value ∙ c.in_ok-walks.ensures.count

pub find_windows-requires-clause-fresh : goal.find_windows-requires-clause-fresh
find_windows-requires-clause-fresh c =
    subst (Each (IsWalkedIn (record { script = c.args.script; replies = c.args.replies; slices = c.args.slices }) 0 0)) (sym c.deref_mut.ensures.value) c.in_ok-walks.ensures.walked
