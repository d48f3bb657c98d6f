use Rattle.std.proofs.Common.{refl, ap, ◌∙◌}
use Rattle.pair_windows.proofs.CdpSteps.{IsWalked-fresh}
use Rattle.pair_windows.specs.CdpWalks.{entries_of_domain}
use Rattle.pair_windows.specs.Fronts.{flush_len}
use Rattle.pair_windows.proofs.cdp_domains.fresh_walk.Goals as goal

pub returns : goal.returns
returns c =
    IsWalked-fresh c.args.run.now.script.now c.args.domain (entries_of_domain c.args.run.now c.args.domain) _ refl refl (c.flush_len-next.ensures.len ∙ ap flush_len c.entries_in.ensures) c.new-2.ensures.items
