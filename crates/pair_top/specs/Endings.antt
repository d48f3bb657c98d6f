-- What a program's exit status says.
use Rattle.std.specs.Prelude.{◌≡◌, ℕ, List, Option}
use Rattle.call_rim.specs.Codes.{code_of}
use Rattle.call_rim.specs.Endings.{Call, Ends, IsComplete}
use Rattle.call_rim.specs.declared.status.Status.{Status}
use Rattle.pair_text.specs.declared.kind.PairKind.{PairKind}
use Rattle.pair_top.specs.Refusals.{refuses}

-- a call of a program that reports so ended as this exit status says
pub record EndsWith {T : Type 0} (kind : PairKind) (reports : List ℕ → T → List ℕ → Type 0) (c : Call) (code : ℕ) : Type 0 where
  pub status : Status
  pub journals : Option T
  pub ends : Ends (refuses kind) reports c status journals
  pub complete : IsComplete (refuses kind) c status
  pub is_code : code ≡ code_of status
