use Rattle.std.proofs.Common.{ℕ, ◌<◌, ◌≤◌, take}
use Rattle.journal_check.specs.Asks.{IsAnswered}
use Rattle.journal_check.specs.CheckReplays.{IsReplayed}
use Rattle.journal_check.specs.declared.asks.Ask.{Ask}
use Rattle.run_law.specs.Journals.{At}
use Rattle.journal_check.proofs.tags.are_answered.Given as goal

abbrev pub invariant-loop-n : goal.invariant-loop-n
invariant-loop-n l = record {
  replayed : IsReplayed l.script (take l.at l.j.tree) l.tree;
  early : (k : ℕ) (ask : Ask) → l.n ≤ k → At l.asks k ask → l.at ≤ ask.epoch;
  answered : (k : ℕ) (ask : Ask) → k < l.n → At l.asks k ask → IsAnswered l.script l.j ask;
}
