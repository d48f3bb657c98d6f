use Rattle.std.proofs.Common.{List, ℕ, sym, subst}
use Rattle.journal_check.proofs.CountedCommands.{AllOnes-counted}
use Rattle.journal_check.specs.CommandCounts.{AreCountsToTwo}
use Rattle.journal_check.proofs.command_counts.CommandCounts.are_once.Goals as goal

pub returns : goal.returns
returns c =
    λ tree counts.
    let same = AllOnes-counted c.args.script.now c.self.inside.table tree (subst (λ (t : List (List ℕ)). AreCountsToTwo c.args.script.now t tree) (sym c.self.view_is) counts) in
    ((λ yes. same.0 (c.all_ones.ensures.0 yes)), (λ once. c.all_ones.ensures.1 (same.1 once)))
