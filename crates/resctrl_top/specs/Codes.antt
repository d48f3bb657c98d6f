-- The exit status of the program.
use Rattle.std.specs.Prelude.{◌≡◌, ℕ, Option}
use Rattle.resctrl_top.specs.Endings.{Call, Ends, IsComplete}
use Rattle.call_rim.specs.Codes.{code_of}
use Rattle.call_rim.specs.declared.status.Status.{Status}
use Rattle.run_law.specs.Journals.{JournalsValue}

-- a call ended as this exit status says
pub record EndsWith (c : Call) (code : ℕ) : Type 0 where
  pub status : Status
  pub journals : Option JournalsValue
  pub ends : Ends c status journals
  pub complete : IsComplete c status
  pub is_code : code ≡ code_of status
