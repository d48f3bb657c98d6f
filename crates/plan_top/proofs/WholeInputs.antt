-- A call of a program that has its whole input first, without the limit of its bytes.
use Rattle.std.proofs.Common.{◌≡◌, ℕ, ◌<◌, List, [], ◌∷◌, ◌++◌, codes, length, Option, Err, refl, sym, ap, ◌∙◌, inl, inr, arith}
use Rattle.std.proofs.lemmas.Bool.{lt-ltb}
use Rattle.std.proofs.lemmas.Fmt.{decimal_digit}
use Rattle.call_rim.specs.Endings.{Call, Ends, IsRefused, IsReported}
use Rattle.call_rim.specs.Outside.{TakesAll, TakesSome, Writing}
use Rattle.call_rim.specs.Within.{RefusesWithin, ReportsWithin, too_large_line}
use Rattle.call_rim.specs.declared.status.Status.{Status}
use Rattle.call_rim.specs.declared.status.Status.TheVariants.{Done, Refused, Usage, ReadFault, WriteFault, NoMemory}
use Rattle.plan_top.specs.Plans.{RefusesScript, reports_plan}
use Rattle.plan_top.specs.declared.divide_form.DivideForm.{DivideForm}
use Rattle.script_ops.specs.declared.limits.TheConstants.{MOST_SCRIPT_BYTES}
use Rattle.top_parts.specs.Meaning.{meaning, refusal_line}
use Rattle.top_parts.specs.declared.refusal.Refusal.TheVariants.{TooLarge}

-- too many bytes are no script
meaning-too_large : (bytes : List ℕ) → MOST_SCRIPT_BYTES < length bytes → meaning bytes ≡ Err TooLarge
unfolding meaning
meaning-too_large bytes more = rw (lt-ltb MOST_SCRIPT_BYTES (length bytes) more) refl

-- and the line of that refusal is that of the rim
refusal_line-too_large : too_large_line ≡ refusal_line TooLarge
refusal_line-too_large = ap (λ (number : List ℕ). codes "line " ++ number ++ codes ": " ++ codes "script too large" ++ 10 ∷ []) (sym (decimal_digit 0 (omega arith)))

abbrev refuses : List ℕ → List ℕ → Type 0
refuses = RefusesWithin MOST_SCRIPT_BYTES RefusesScript

abbrev reports : DivideForm → List ℕ → Unit {0} → List ℕ → Type 0
reports asked = ReportsWithin MOST_SCRIPT_BYTES (reports_plan asked)

RefusesScript-within : (bytes text : List ℕ) → refuses bytes text → RefusesScript bytes text
RefusesScript-within bytes text (inl large) = record { refusal = TooLarge; no_script = meaning-too_large bytes large.0; told = large.1 ∙ refusal_line-too_large }
RefusesScript-within bytes text (inr few) = few.1

module _ (asked : DivideForm) (c : Call) (outcome : Option (Unit {0})) (Takes : Writing → List ℕ → Type 0) where
  IsReported-within : IsReported refuses (reports asked) c outcome Takes → IsReported RefusesScript (reports_plan asked) c outcome Takes
  IsReported-within is = record {
    bytes = is.bytes;
    found = is.found;
    text = is.text;
    form = is.form;
    to_the_end = is.to_the_end;
    leaves = is.leaves;
    reported = is.reported.1;
    has_outcome = is.has_outcome;
    report = is.report;
  }

  IsRefused-within : IsRefused refuses (reports asked) c outcome Takes → IsRefused RefusesScript (reports_plan asked) c outcome Takes
  IsRefused-within is = record {
    bytes = is.bytes;
    text = is.text;
    form = is.form;
    to_the_end = is.to_the_end;
    refused = RefusesScript-within is.bytes is.text is.refused;
    no_outcome = is.no_outcome;
    line = is.line;
  }

-- how the call ends
pub Ends-within : (asked : DivideForm) (c : Call) (status : Status) (outcome : Option (Unit {0})) → Ends refuses (reports asked) c status outcome
    → Ends RefusesScript (reports_plan asked) c status outcome
Ends-within asked c Done outcome (read, is) = (read, IsReported-within asked c outcome TakesAll is)
Ends-within asked c Refused outcome (read, is) = (read, IsRefused-within asked c outcome TakesAll is)
Ends-within asked c Usage outcome (read, is) = (read, record { no_form = is.no_form; leaves = is.leaves; no_outcome = is.no_outcome; line = is.line })
Ends-within asked c ReadFault outcome is = record { form = is.form; fault = is.fault; no_outcome = is.no_outcome; nothing = is.nothing }
Ends-within asked c WriteFault outcome (read, inl is) = (read, inl (IsReported-within asked c outcome TakesSome is))
Ends-within asked c WriteFault outcome (read, inr (inl is)) = (read, inr (inl (IsRefused-within asked c outcome TakesSome is)))
Ends-within asked c WriteFault outcome (read, inr (inr is)) = (read, inr (inr (record { no_form = is.no_form; leaves = is.leaves; no_outcome = is.no_outcome; line = is.line })))
Ends-within asked c NoMemory outcome (read, is) = (read, record { form = is.form; no_outcome = is.no_outcome; nothing = is.nothing })
