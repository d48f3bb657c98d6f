-- The lines of a domain, as they were counted.
-- (For functions and proofs: no promise of the program stands on it.)
use Rattle.std.specs.Prelude.{◌≡◌, ℕ, ◌<◌, List, length, slice_index}
use Rattle.run_counts.specs.Domains.{rmid_lines, valid_lines}
use Rattle.run_law.specs.Journals.{JournalsValue}
use Rattle.script_ops.specs.Values.{ScriptValue}

-- for each RMID how many lines it has, and how many lines there are
pub record DomainLinesValue : Type 0 where
  pub counts : List ℕ
  pub valid : ℕ

-- how many lines an RMID has
abbrev pub lines_in : DomainLinesValue → ℕ → ℕ
lines_in d rmid = slice_index d.counts rmid

-- the lines of a domain at the end were counted
pub record IsOfDomain (script : ScriptValue) (j : JournalsValue) (domain : ℕ) (d : DomainLinesValue) : Type 0 where
  pub rmids : length d.counts ≡ script.machine.rmids
  pub lines : (rmid : ℕ) → rmid < script.machine.rmids → lines_in d rmid ≡ rmid_lines script j domain rmid
  pub valid : d.valid ≡ valid_lines script j domain
