-- The exit status of the program.
use Rattle.std.specs.Prelude.{◌≡◌, ℕ, Option}
use Rattle.call_rim.specs.Outside.{Reading, Writing}
use Rattle.check_parts.specs.declared.form.Form.{Form}
use Rattle.check_top.specs.Endings.{Ends}
use Rattle.check_top.specs.Statuses.{code_of}
use Rattle.check_top.specs.declared.ended.CheckEnded.{CheckEnded}

-- a call with words of this form ended as this exit status says
pub record EndsWith (form : Option Form) (source : Reading) (sink : Writing) (code : ℕ) : Type 0 where
  pub ended : CheckEnded
  pub ends : Ends form source sink ended
  pub is_code : code ≡ code_of ended.status
