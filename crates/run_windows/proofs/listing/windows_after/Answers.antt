use Rattle.std.proofs.Common.{◌≡◌, List, [], rules, sym, subst, ◌∙◌}
use Rattle.run_counts.specs.declared.window.Window.{Window}
use Rattle.run_windows.proofs.QuietRuns.{AreWindowsOf-none}
use Rattle.run_windows.specs.AllWindows.{AreWindowsOf}
use Rattle.run_windows.proofs.listing.windows_after.Goals as goal

pub returns-then-not-has_exclusive_write : goal.returns-then-not-has_exclusive_write
returns-then-not-has_exclusive_write c =
    let empty : c.new.result.items ≡ [] = search rules in
    subst (λ (l : List Window). AreWindowsOf c.args.run.now.script.now c.args.run.now.journals.now l) (sym empty)
    (AreWindowsOf-none c.args.run.now.script.now c.args.run.now.journals.now c.requires.noted.run (sym c.has_exclusive_write.ensures ∙ c.if-not-has_exclusive_write.true))
