use Rattle.std.proofs.Common.{◌∙◌}
use Rattle.l2_level.proofs.Ended.{IsLevelRun-IsLevelsSoFar, WindowsAreIsolated-run}
use Rattle.l2_level.proofs.playing.play.Goals as goal

pub returns-clause-run : goal.returns-clause-run
returns-clause-run c =
    let played = c.in_ok-replies in
    let l2 = c.in_ok-l2.ensures in
    let l3 = c.in_ok-l3.ensures in
    IsLevelRun-IsLevelsSoFar c.args.script.now played.field-0.caches.l2 played.field-0.caches.l3 c.of.result (c.of.ensures.replies ∙ played.ensures.replies) played.ensures.caches l2.legal l3.legal
    (c.of.ensures.l2 ∙ l2.histories) (c.of.ensures.l3 ∙ l3.histories)

pub returns-clause-isolated : goal.returns-clause-isolated
returns-clause-isolated c =
    let played = c.in_ok-replies in
    let l2 = c.in_ok-l2.ensures in
    let l3 = c.in_ok-l3.ensures in
    WindowsAreIsolated-run c.args.script.now c.of.result c.requires.lawful c.requires.levels
    (IsLevelRun-IsLevelsSoFar c.args.script.now played.field-0.caches.l2 played.field-0.caches.l3 c.of.result (c.of.ensures.replies ∙ played.ensures.replies) played.ensures.caches l2.legal l3.legal
    (c.of.ensures.l2 ∙ l2.histories) (c.of.ensures.l3 ∙ l3.histories))
