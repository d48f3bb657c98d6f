-- How the calls of the rim end, as endings of the top calls.
use Rattle.std.proofs.Common.{◌≡◌, ℕ, ◌<◌, true, false, IsSomeAnd, List, [], ◌∷◌, ◌++◌, codes, Option, Some, None, Err, length, refl, sym, subst, ap, ◌∙◌, inl, inr, arith}
use Rattle.std.proofs.lemmas.Bool.{lt-ltb}
use Rattle.std.proofs.lemmas.Fmt.{decimal_digit}
use Rattle.call_rim.proofs.laws.Ends.{Ends-as, Ends-made, IsComplete-ends, LeavesRest-refused}
use Rattle.call_rim.proofs.laws.Ends as laws
use Rattle.call_rim.specs.Endings.{LeavesBy, Says, Tells}
use Rattle.call_rim.specs.Endings as rim
use Rattle.call_rim.specs.Feeding.{IsMade}
use Rattle.call_rim.specs.Outside.{LeavesRest, Reading, Writing}
use Rattle.call_rim.specs.Within.{RefusesWithin, ReportsWithin, too_large_line}
use Rattle.call_rim.specs.declared.performed.Performed.{Performed}
use Rattle.call_rim.specs.declared.performed.Performed.TheVariants as performed
use Rattle.call_rim.specs.declared.status.Status.{Status}
use Rattle.call_rim.specs.declared.status.Status.TheVariants.{Usage}
use Rattle.resctrl_top.specs.Endings.{Ends, IsComplete, IsPlayed, IsRefused, call_of, origin_of, rim_call}
use Rattle.resctrl_top.specs.Performances.{Plays, RefusesBytes}
use Rattle.run_law.specs.Journals.{JournalsValue}
use Rattle.script_ops.specs.declared.limits.TheConstants.{MOST_SCRIPT_BYTES}
use Rattle.top_parts.specs.Forms.{is_of_source, usage_line}
use Rattle.top_parts.specs.Meaning.{meaning, refusal_line}
use Rattle.top_parts.specs.declared.command.Command.{Command}
use Rattle.top_parts.specs.declared.command.Command.TheVariants.{Gen, Run, Step}
use Rattle.top_parts.specs.declared.form.Form.{Form}
use Rattle.top_parts.specs.declared.refusal.Refusal.TheVariants.{TooLarge}
use Rattle.trace_gen.specs.Trace.{trace_text}

-- too many bytes are no script
meaning-too_large : (bytes : List ℕ) → MOST_SCRIPT_BYTES < length bytes → meaning bytes ≡ Err TooLarge
unfolding meaning
meaning-too_large bytes more = rw (lt-ltb MOST_SCRIPT_BYTES (length bytes) more) refl

-- and the line of that refusal is that of the rim
refusal_line-too_large : too_large_line ≡ refusal_line TooLarge
refusal_line-too_large = ap (λ (number : List ℕ). codes "line " ++ number ++ codes ": " ++ codes "script too large" ++ 10 ∷ []) (sym (decimal_digit 0 (omega arith)))

-- what a call of a form refuses, with what is left of the source
abbrev refuses_by : Option Form → Reading → List ℕ → List ℕ → Type 0
refuses_by form source bytes line = IsRefused form bytes line × LeavesRest MOST_SCRIPT_BYTES source.left source.left_now

-- and what it reports
abbrev reports_by : Option Form → List ℕ → JournalsValue → List ℕ → Type 0
reports_by form bytes run text = IsSomeAnd form (λ form. IsPlayed form bytes run text)

-- no bytes are both refused and reported on
apart : (form : Option Form) (bytes line : List ℕ) (run : JournalsValue) (text : List ℕ) → IsRefused form bytes line → reports_by form bytes run text → ⊥
apart None bytes line run text refused reported = reported
apart (Some form) bytes line run text refused played = let no = refused.no_script in let is = played.is_script in absurd cc

-- the status that is due follows from how a call ended
pub complete : (form : Option Form) (source : Reading) (sink : Writing) (status : Status) (journals : Option JournalsValue) → Ends (call_of form source sink) status journals → IsComplete (call_of form source sink) status
complete form source sink status journals ends =
    let call = rim_call (call_of form source sink) in
    let same = Ends-as (refuses_by form source) (IsRefused form) (reports_by form) (reports_by form) call journals status (λ is bytes line no. no.0) (λ bytes run text yes. yes) ends.0 in
    IsComplete-ends (IsRefused form) (reports_by form) (apart form) call status journals same

-- ---- a command that has the source read

-- what it plays comes from the source
origin_of-read : (command : Command) (source : Reading) → is_of_source command ≡ true → origin_of command source ≡ source
origin_of-read Step source reads = refl
origin_of-read Run source reads = refl
origin_of-read (Gen n) source reads = absurd cc

module _ (form : Form) (reads : is_of_source form.command ≡ true) where
  is_refused : (bytes line : List ℕ) → RefusesWithin MOST_SCRIPT_BYTES RefusesBytes bytes line → IsRefused (Some form) bytes line
  is_refused bytes line (inl large) = record { refusal = TooLarge; reads = reads; no_script = meaning-too_large bytes large.0; is_line = large.1 ∙ refusal_line-too_large }
  is_refused bytes line (inr few) = record { refusal = few.1.refusal; reads = reads; no_script = few.1.no_script; is_line = few.1.is_line }

  -- a call of the rim, with what it leaves
  pub Ends-called : (source : Reading) (sink : Writing) (status : Status) (journals : Option JournalsValue)
      → rim.Ends (RefusesWithin MOST_SCRIPT_BYTES RefusesBytes) (ReportsWithin MOST_SCRIPT_BYTES (IsPlayed form)) (rim.call_of true usage_line source sink) status journals → LeavesBy MOST_SCRIPT_BYTES source status
      → Ends (call_of (Some form) source sink) status journals
  Ends-called source sink status journals ends leaves =
      let called = Ends-as (RefusesWithin MOST_SCRIPT_BYTES RefusesBytes) (refuses_by (Some form) source) (ReportsWithin MOST_SCRIPT_BYTES (IsPlayed form)) (reports_by (Some form)) (rim.call_of true usage_line source sink) journals status
      (λ is bytes line no. (is_refused bytes line no, LeavesRest-refused MOST_SCRIPT_BYTES source status leaves is)) (λ bytes run text few. few.1) ends in (
        subst (λ (origin : Reading). rim.Ends (refuses_by (Some form) source) (reports_by (Some form)) (rim.call_of true usage_line origin sink) status journals) (sym (origin_of-read form.command source reads)) called,
        λ no. absurd (let not : is_of_source form.command ≡ false = no in cc),
      )

-- ---- `gen`, which calls no source

module _ (form : Form) (n : ℕ) (is_gen : form.command ≡ Gen n) (source : Reading) (sink : Writing) (same : source.left_now ≡ source.left) (read : source.faults_now ≡ source.faults) where
  IsMade-generated : (made : Performed JournalsValue) → Plays form (trace_text n) made → IsMade (refuses_by (Some form) source) (reports_by (Some form)) (Some (trace_text n)) (Some []) made
  IsMade-generated (performed.Refused line) plays = absurd plays
  IsMade-generated (performed.Reported run report) plays = record { bytes = trace_text n; to_the_end = refl; performed = plays; leaves = refl }
  IsMade-generated performed.NoMemory plays = record { bytes = trace_text n; to_the_end = refl; performed = tt; leaves = tt }

  -- what was made of the trace was written
  pub Ends-generated : (status : Status) (journals : Option JournalsValue) (made : Performed JournalsValue) → Plays form (trace_text n) made → Tells made sink status journals → Ends (call_of (Some form) source sink) status journals
  Ends-generated status journals made plays told =
      let own : Reading = record { left = Some (trace_text n); left_now = Some []; faults = 0; faults_now = 0 } in
      let ends = Ends-made (refuses_by (Some form) source) (reports_by (Some form)) (rim.call_of true usage_line own sink) status journals made refl refl (IsMade-generated made plays) told in
      (subst (λ (command : Command). rim.Ends (refuses_by (Some form) source) (reports_by (Some form)) (rim.call_of true usage_line (origin_of command source) sink) status journals) (sym is_gen) ends, λ no. (same, read))

-- ---- a command line that is not valid

-- the usage line was written, and no source was called
pub Ends-usage : (source : Reading) (sink : Writing) (status : Status) (journals : Option JournalsValue) → source.left_now ≡ source.left → source.faults_now ≡ source.faults → Says Usage None usage_line sink status journals
    → Ends (call_of None source sink) status journals
Ends-usage source sink status journals same read said =
    (laws.Ends-usage (refuses_by None source) (reports_by None) (rim.call_of false usage_line source sink) status journals refl read same said, λ no. (same, read))
