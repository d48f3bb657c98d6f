use Rattle.std.proofs.Common.{subst, sym}
use Rattle.pair_top.proofs.PlayedRuns.{IsPlayed-ready, cdp_journals-same}
use Rattle.pair_windows.specs.CdpJournals.{IsPlayed}
use Rattle.pair_top.proofs.journals.CdpJournalsPairJournals.report.Goals as goal

pub cdp_report-requires : goal.cdp_report-requires
cdp_report-requires c =
    let j = c.args.self.now in
    let same = cdp_journals-same j c.replies.result.now c.slices.result.now c.replies.ensures c.slices.ensures in
    subst (IsPlayed c.args.script.now) (sym same) (IsPlayed-ready c.args.script.now j c.requires.ready c.requires.run)
