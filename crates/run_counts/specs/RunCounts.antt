-- What was counted from the entries of a run.
-- (For functions and proofs: no promise of the program stands on it.)
use Rattle.std.specs.Prelude.{◌≡◌, ℕ, List, length}
use Rattle.machine.specs.Slices.{slice_count}
use Rattle.run_counts.specs.DomainLines.{DomainLinesValue, IsOfDomain}
use Rattle.run_counts.specs.Tallies.{IsTallyOf, TallyValue}
use Rattle.run_law.specs.Journals.{At, JournalsValue}
use Rattle.script_ops.specs.Values.{ScriptValue}

-- the accesses, hits and misses of groups, and the lines of each domain
pub record RunCountsValue : Type 0 where
  pub tally : TallyValue
  pub domains : List DomainLinesValue

-- the lines of the first domains at the end were counted
pub record AreOfDomains (script : ScriptValue) (j : JournalsValue) (n : ℕ) (domains : List DomainLinesValue) : Type 0 where
  pub count : length domains ≡ n
  pub lines : (domain : ℕ) (d : DomainLinesValue) → At domains domain d → IsOfDomain script j domain d

-- all slices and all domains of a run were counted
pub record AreCountsOf (script : ScriptValue) (j : JournalsValue) (c : RunCountsValue) : Type 0 where
  pub tally : IsTallyOf j (slice_count script.machine) c.tally
  pub domains : AreOfDomains script j script.machine.domains c.domains
