use Rattle.std.proofs.Common.{◌∙◌}
use Rattle.cdp_masks.proofs.playing.play.Goals as goal
use Rattle.pair_play.proofs.laws.Runs.{IsPairRun-IsLevelSoFar}
use Rattle.pair_law.proofs.laws.CdpWindows.{IsIsolated-cdp_window}
use Rattle.pair_law.specs.CdpRuns.{asked_at}

pub returns-clause-run : goal.returns-clause-run
returns-clause-run c =
    let script = c.args.script.now in
    let played = c.in_ok-replies in
    let slices = c.in_ok-slices.ensures in
    IsPairRun-IsLevelSoFar script c.of.result.replies (asked_at script) script.machines.machine _ played.field-0.caches.level c.of.result.slices (c.of.ensures.replies ∙ played.ensures.replies) played.ensures.caches.level slices.legal
    (c.of.ensures.slices ∙ slices.histories)

pub returns-clause-isolated : goal.returns-clause-isolated
returns-clause-isolated c domain from to opening group side mask last window =
    let script = c.args.script.now in
    let played = c.in_ok-replies in
    let slices = c.in_ok-slices.ensures in
    let run = IsPairRun-IsLevelSoFar script c.of.result.replies (asked_at script) script.machines.machine _ played.field-0.caches.level c.of.result.slices (c.of.ensures.replies ∙ played.ensures.replies) played.ensures.caches.level slices.legal
    (c.of.ensures.slices ∙ slices.histories) in
    IsIsolated-cdp_window script c.of.result domain from to opening group side mask last c.requires.lawful c.requires.code_masks run window
