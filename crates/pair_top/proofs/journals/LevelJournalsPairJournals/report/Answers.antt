use Rattle.std.proofs.Common.{subst, sym}
use Rattle.pair_top.proofs.PlayedRuns.{IsPlayedOnLevels-ready, level_journals-same}
use Rattle.pair_windows.specs.LevelJournals.{IsPlayedOnLevels}
use Rattle.pair_top.proofs.journals.LevelJournalsPairJournals.report.Goals as goal

pub joint_windows-requires : goal.joint_windows-requires
joint_windows-requires c =
    let j = c.args.self.now in
    let same = level_journals-same j c.replies-replies.result.now c.l2_histories-l2.result.now c.l3_histories-l3.result.now c.replies-replies.ensures c.l2_histories-l2.ensures c.l3_histories-l3.ensures in
    subst (IsPlayedOnLevels c.args.script.now) (sym same) (IsPlayedOnLevels-ready c.args.script.now j c.requires.ready c.requires.run)

pub level_report-requires-clause-played : goal.level_report-requires-clause-played
level_report-requires-clause-played c =
    let j = c.args.self.now in
    let same = level_journals-same j c.replies-replies.result.now c.l2_histories-l2.result.now c.l3_histories-l3.result.now c.replies-replies.ensures c.l2_histories-l2.ensures c.l3_histories-l3.ensures in
    subst (IsPlayedOnLevels c.args.script.now) (sym same) (IsPlayedOnLevels-ready c.args.script.now j c.requires.ready c.requires.run)
