use Rattle.std.proofs.Common.{ℕ, sym, subst, ◌∙◌}
use Rattle.pair_windows.proofs.CdpDomains.{cdp_windows-found}
use Rattle.pair_windows.specs.CdpWalks.{IsDoneAt, IsWalkedIn}
use Rattle.pair_windows.specs.DomainWalks.{Each}
use Rattle.pair_windows.proofs.windows.find_windows.Goals as goal

pub meet_all-requires-clause-walked : goal.meet_all-requires-clause-walked
meet_all-requires-clause-walked c = subst (λ (n : ℕ). Each (IsWalkedIn c.args.run.now n n) c.args.walks.now) (sym c.in_ok-replay.ensures.epoch) c.requires.fresh

pub take_commands-requires-clause-one_each : goal.take_commands-requires-clause-one_each
take_commands-requires-clause-one_each c = c.meet_all.auto.walks ∙ c.requires.one_each

pub close_all-requires-clause-one_each : goal.close_all-requires-clause-one_each
close_all-requires-clause-one_each c = c.take_commands.auto.walks ∙ (c.meet_all.auto.walks ∙ c.requires.one_each)

pub close_all-requires-clause-done : goal.close_all-requires-clause-done
close_all-requires-clause-done c = subst (λ (n : ℕ). Each (IsDoneAt c.args.run.now n) c.take_commands.new.walks) (sym c.epoch.ensures) c.in_ok-take_commands.ensures

pub returns : goal.returns
returns c =
    c.in_ok-windows.ensures
    ∙ cdp_windows-found c.args.run.now c.close_all.new.walks (c.close_all.auto.walks ∙ (c.take_commands.auto.walks ∙ (c.meet_all.auto.walks ∙ c.requires.one_each))) c.in_ok-close_all.ensures
