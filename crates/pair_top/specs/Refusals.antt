-- Which inputs are refused, and with what line.
use Rattle.std.specs.Prelude.{◌≡◌, ℕ, List, [], ◌∷◌, ◌++◌, codes, decimal, Err}
use Rattle.call_rim.specs.Within.{RefusesWithin}
use Rattle.pair_text.specs.PairReading.{PairFaultAt, pair_script_of}
use Rattle.pair_text.specs.declared.fault.PairFault.{PairFault}
use Rattle.pair_text.specs.declared.fault.PairFault.TheVariants.{BadTrace, Line}
use Rattle.pair_text.specs.declared.kind.PairKind.{PairKind}
use Rattle.script_ops.specs.declared.limits.TheConstants.{MOST_SCRIPT_BYTES}
use Rattle.top_parts.specs.Meaning.{fault_text}

-- the words for the fault of a line
abbrev pub pair_fault_text : PairFault → List ℕ
pair_fault_text (Line fault) = fault_text fault
pair_fault_text BadTrace = codes "bad trace line"

-- the line of a refusal, with its newline: `line L: WHAT`
abbrev pub refusal_line : PairFaultAt → List ℕ
refusal_line fault = codes "line " ++ decimal fault.line ++ codes ": " ++ pair_fault_text fault.what ++ 10 ∷ []

-- these bytes are no pair script of the kind, and the text tells the first bad line with its first fault
pub record RefusesLine (kind : PairKind) (bytes text : List ℕ) : Type 0 where
  pub fault : PairFaultAt
  pub no_script : pair_script_of kind bytes ≡ Err fault
  pub told : text ≡ refusal_line fault

-- what is refused: too many bytes, of which nothing else is asked, or no pair script of the kind
abbrev pub refuses : PairKind → List ℕ → List ℕ → Type 0
refuses kind = RefusesWithin MOST_SCRIPT_BYTES (RefusesLine kind)
