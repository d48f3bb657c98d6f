-- What is known of a script that was read.
-- (For functions and proofs: no promise of the program stands on it.)
use Rattle.std.specs.Prelude.{◌≡◌, ℕ, List}
use Rattle.call_rim.specs.declared.performed.Performed.{Performed}
use Rattle.call_rim.specs.declared.performed.Performed.TheVariants.{NoMemory, Refused, Reported}
use Rattle.pair_text.specs.Values.{IsLawful, PairScriptValue}
use Rattle.pair_text.specs.PairLaws.{HasKind, IsWithinLimits}
use Rattle.pair_text.specs.declared.kind.PairKind.{PairKind}

-- a lawful script of its kind, within the limits
pub record IsReady (kind : PairKind) (script : PairScriptValue) : Type 0 where
  pub lawful : IsLawful script
  pub has_kind : HasKind kind script
  pub limits : IsWithinLimits script

-- the line of a refusal, unless memory ran out
abbrev pub TellsLine : {T : Type 0} → List ℕ → Performed T → Type 0
TellsLine text (Refused line) = line.items ≡ text
TellsLine text (Reported outcome report) = ⊥
TellsLine text NoMemory = Unit {0}
