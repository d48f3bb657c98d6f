-- What a check says where it hands back no journals.
-- (For functions and proofs: no promise of the program stands on it.)
use Rattle.std.specs.Prelude.{ℕ, List}
use Rattle.check_top.specs.Endings.{IsChecked}
use Rattle.journal_check.specs.declared.verdict.Verdict.{Verdict}
use Rattle.run_law.specs.Journals.{JournalsValue}

-- the input holds journals that are checked with this verdict and this text
pub record IsJudged (bytes : List ℕ) (verdict : Verdict) (text : List ℕ) : Type 0 where
  pub journals : JournalsValue
  pub checked : IsChecked bytes (record { journals = journals; verdict = verdict }) text
