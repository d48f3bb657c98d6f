use Rattle.std.proofs.Common.{◌≡◌, List, [], rules, sym, subst, ◌∙◌, arith}
use Rattle.run_counts.specs.declared.window.Window.{Window}
use Rattle.run_windows.proofs.QuietRuns.{AreWindowsOf-none}
use Rattle.run_windows.specs.AllWindows.{AreWindowsOf}
use Rattle.run_windows.proofs.listing.windows.Goals as goal

pub returns-then-not-has_exclusive_write : goal.returns-then-not-has_exclusive_write
returns-then-not-has_exclusive_write c =
    let empty : c.new.result.items ≡ [] = search rules in
    subst (λ (l : List Window). AreWindowsOf c.args.script.now c.args.journals.now l) (sym empty)
    (AreWindowsOf-none c.args.script.now c.args.journals.now c.requires.run (sym c.has_exclusive_write.ensures ∙ c.if-not-has_exclusive_write.true))

pub changes_after-requires-clause-taken : goal.changes_after-requires-clause-taken
changes_after-requires-clause-taken c =
    let opening = c.in_ok-followed.ensures.taken in
    record { taken = opening.taken; before = let first = opening.before in omega (arith, first) }
