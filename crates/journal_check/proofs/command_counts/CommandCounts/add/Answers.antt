use Rattle.std.proofs.Common.{◌≡◌, ◌∷◌, ◌++◌, [], List, ℕ, Some, sym, subst, arith}
use Rattle.journal_check.proofs.CountedCommands.{AreCountsToTwo-changed, AreCountsToTwo-same}
use Rattle.journal_check.specs.CommandCounts.{AreCountsToTwo}
use Rattle.journal_check.specs.Tables.{number_at}
use Rattle.run_law.specs.Entries.{entry_value}
use Rattle.journal_check.proofs.command_counts.CommandCounts.add.Goals as goal

pub returns-then-n-lt2 : goal.returns-then-n-lt2
returns-then-n-lt2 c =
    λ script tree counts.
    let h = entry_value c.args.entry.now in
    subst (λ (new : List (List ℕ)). AreCountsToTwo script new (tree ++ h ∷ [])) (sym c.set.ensures)
    (AreCountsToTwo-changed script c.self.inside.table tree (subst (λ (t : List (List ℕ)). AreCountsToTwo script t tree) (sym c.self.view_is) counts) h c.in-Some.n (sym c.in-Some.ensures))

pub returns-else-n-lt2 : goal.returns-else-n-lt2
returns-else-n-lt2 c =
    λ script tree counts.
    let h = entry_value c.args.entry.now in
    AreCountsToTwo-same script c.args.self.now tree counts h
    (λ m at.
    let own : number_at c.self.inside.table h.thread h.op ≡ Some m = subst (λ (t : List (List ℕ)). number_at t h.thread h.op ≡ Some m) (sym c.self.view_is) at in
    let here : number_at c.self.inside.table h.thread h.op ≡ Some c.in-Some.n = sym c.in-Some.ensures in
    let same : m ≡ c.in-Some.n = cc in
    omega (arith, same, c.if-n-lt2.false))
