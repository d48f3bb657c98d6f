-- Laws of the reading.
-- (For functions and proofs: no promise of the program stands on it.)
use Rattle.std.specs.Prelude.{◌≡◌, ℕ, ◌+◌, ◌≤◌, List, IsSome, None, Ok, length}
use Rattle.pair_text.specs.Values.{IsLawful, PairScriptValue, commands_of}
use Rattle.pair_text.specs.PairReading.{pair_script_of}
use Rattle.pair_text.specs.declared.kind.PairKind.{PairKind}
use Rattle.pair_text.specs.declared.kind.PairKind.TheVariants.{Cdp, Levels}
use Rattle.pair_text.specs.declared.limits.TheConstants.{MOST_COMMANDS, MOST_USES}

-- a text that is a pair script is a lawful one
abbrev pub ScriptsAreLawful : Type 0
ScriptsAreLawful = (kind : PairKind) (text : List ℕ) (script : PairScriptValue) → pair_script_of kind text ≡ Ok script → IsLawful script

-- the machines of a kind of script: only one on two levels has L2 caches
abbrev pub HasKind : PairKind → PairScriptValue → Type 0
HasKind Cdp script = script.machines.l2 ≡ None
HasKind Levels script = IsSome script.machines.l2

-- a script is one of its kind
abbrev pub ScriptsHaveTheirKind : Type 0
ScriptsHaveTheirKind = (kind : PairKind) (text : List ℕ) (script : PairScriptValue) → pair_script_of kind text ≡ Ok script → HasKind kind script

-- a script has no more commands than the most, and no more ops than the most commands and the most uses
pub record IsWithinLimits (script : PairScriptValue) : Type 0 where
  pub commands : length (commands_of script) ≤ MOST_COMMANDS
  pub ops : length script.ops ≤ MOST_COMMANDS + MOST_USES

-- each script is
abbrev pub ScriptsAreWithinLimits : Type 0
ScriptsAreWithinLimits = (kind : PairKind) (text : List ℕ) (script : PairScriptValue) → pair_script_of kind text ≡ Ok script → IsWithinLimits script
