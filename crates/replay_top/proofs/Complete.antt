-- Which status is due, from how a call ended.
use Rattle.std.proofs.Common.{◌≡◌, ℕ, ◌<◌, ◌⊎◌, Bool, true, false, List, Option, Some, refl, subst, ap, ◌∙◌, inl, inr, arith}
use Rattle.call_rim.proofs.laws.Ends.{IsComplete-ends}
use Rattle.call_rim.proofs.laws.InputBytes.{IsToTheEnd-known}
use Rattle.call_rim.specs.Endings.{Call, Ends, HasInput, IsRefused, IsReported}
use Rattle.call_rim.specs.Outside.{Writing}
use Rattle.call_rim.specs.declared.status.Status.{Status}
use Rattle.call_rim.specs.declared.status.Status.TheVariants.{Done, Refused, Usage, ReadFault, WriteFault, NoMemory}
use Rattle.check_parts.specs.Inputs.{HoldsJournals}
use Rattle.check_parts.specs.declared.bad_input.BadInput.TheVariants.{TooLarge}
use Rattle.journal_text.specs.Laws.{TextsAreOfOneValue}
use Rattle.replay_top.specs.Endings.{IsComplete, says_no_run}
use Rattle.replay_top.specs.Reports.{refuses, reports}
use Rattle.replay_top.specs.declared.form.ReplayForm.{ReplayForm}
use Rattle.replay_top.specs.declared.outcome.Replayed.{Replayed}
use Rattle.replay_top.proofs.FoundInputs.{HoldsJournals-good, HoldsJournals-script, HoldsJournals-journals, IsFoundOf, IsFoundOf-reported}
use Rattle.run_law.specs.Clauses.{RunsByClauses}
use Rattle.run_law.specs.Journals.{JournalsValue}
use Rattle.run_law.specs.Runs.{IsRun}
use Rattle.script_ops.specs.Values.{ScriptValue}

-- bytes that hold journals are not refused
refused_held : (bytes line : List ℕ) (script : ScriptValue) (run : JournalsValue) → refuses bytes line → HoldsJournals bytes script run → ⊥
refused_held bytes line script run (inl large) holds = HoldsJournals-good bytes script run TooLarge holds large.0
refused_held bytes line script run (inr few) holds = HoldsJournals-good bytes script run few.1.bad holds few.1.is_bad

-- so none are both refused and reported on
apart : RunsByClauses → (form : Option ReplayForm) (bytes line : List ℕ) (found : Replayed) (text : List ℕ) → refuses bytes line → reports form bytes found text → ⊥
apart runs form bytes line found text refused reported = let made = IsFoundOf-reported runs form bytes found text reported in refused_held bytes line made.script made.run refused made.holds

-- a condition holds or not
true-or-false : (b : Bool) → (b ≡ true) ⊎ (b ≡ false)
true-or-false true = inl refl
true-or-false false = inr refl

module _ (texts : TextsAreOfOneValue) (runs : RunsByClauses) (form : Option ReplayForm) (c : Call) (outcome : Option Replayed) where
  -- ---- a call that reported

  module _ (Takes : Writing → List ℕ → Type 0) (is : IsReported refuses (reports form) c outcome Takes) where
    -- of the bytes that the source had
    found_of : (bytes : List ℕ) → HasInput c bytes → IsFoundOf bytes is.found
    found_of bytes has =
        let same_bytes = IsToTheEnd-known c.source.left bytes is.bytes has.had is.to_the_end in
        subst (λ (b : List ℕ). IsFoundOf b is.found) same_bytes (IsFoundOf-reported runs form is.bytes is.found is.text is.reported)

    -- what holds of the script and the journals that were found holds of those that the input holds
    reported_of : (bytes : List ℕ) (script : ScriptValue) (run : JournalsValue) → HasInput c bytes → HoldsJournals bytes script run → (P : ScriptValue → JournalsValue → Type 0) → (found : IsFoundOf bytes is.found) → P found.script found.run → P script run
    reported_of bytes script run has holds P found p =
        let same_script = HoldsJournals-script bytes found.script script found.run run found.holds holds in
        let same_run = HoldsJournals-journals texts bytes found.script script found.run run found.lawful found.holds holds in
        subst (λ (j : JournalsValue). P script j) same_run (subst (λ (s : ScriptValue). P s found.run) same_script p)

    reported_run : (bytes : List ℕ) (script : ScriptValue) (run : JournalsValue) → HasInput c bytes → HoldsJournals bytes script run → IsRun script run → says_no_run outcome ≡ false
    reported_run bytes script run has holds is_run = at (true-or-false (says_no_run (Some is.found)))
      where
        at : (says_no_run (Some is.found) ≡ true) ⊎ (says_no_run (Some is.found) ≡ false) → says_no_run outcome ≡ false
        at (inl said) = let found = found_of bytes has in absurd (reported_of bytes script run has holds (λ s j. IsRun s j → ⊥) found (found.no_run said) is_run)
        at (inr yes_run) = ap says_no_run is.has_outcome ∙ yes_run

    reported_no_run : (bytes : List ℕ) (script : ScriptValue) (run : JournalsValue) → HasInput c bytes → HoldsJournals bytes script run → (IsRun script run → ⊥) → says_no_run outcome ≡ true
    reported_no_run bytes script run has holds no_run = at (true-or-false (says_no_run (Some is.found)))
      where
        at : (says_no_run (Some is.found) ≡ true) ⊎ (says_no_run (Some is.found) ≡ false) → says_no_run outcome ≡ true
        at (inl said) = ap says_no_run is.has_outcome ∙ said
        at (inr yes_run) = let found = found_of bytes has in absurd (no_run (reported_of bytes script run has holds (λ s j. IsRun s j) found (found.is_run yes_run)))

  -- ---- a call that refused its input

  refused_of : (Takes : Writing → List ℕ → Type 0) (bytes : List ℕ) (script : ScriptValue) (run : JournalsValue) → IsRefused refuses (reports form) c outcome Takes → HasInput c bytes → HoldsJournals bytes script run → ⊥
  refused_of Takes bytes script run is has holds =
      let same = IsToTheEnd-known c.source.left bytes is.bytes has.had is.to_the_end in
      refused_held bytes is.text script run (subst (λ (b : List ℕ). refuses b is.text) same is.refused) holds

  -- ---- what was said of journals

  sink_failed : (bytes : List ℕ) → c.sink.faults < c.sink.faults_now → HasInput c bytes → ⊥
  sink_failed bytes fault has = omega (arith, fault, has.writes_well)

  said_of_run : (status : Status) → Ends refuses (reports form) c status outcome → (bytes : List ℕ) (script : ScriptValue) (run : JournalsValue) → HasInput c bytes → HoldsJournals bytes script run → IsRun script run → says_no_run outcome ≡ false
  said_of_run Done (read, is) bytes script run has holds is_run = reported_run _ is bytes script run has holds is_run
  said_of_run Refused (read, is) bytes script run has holds is_run = ap says_no_run is.no_outcome
  said_of_run Usage (read, is) bytes script run has holds is_run = ap says_no_run is.no_outcome
  said_of_run ReadFault is bytes script run has holds is_run = ap says_no_run is.no_outcome
  said_of_run WriteFault (read, inl is) bytes script run has holds is_run = absurd (sink_failed bytes is.report.fault has)
  said_of_run WriteFault (read, inr (inl is)) bytes script run has holds is_run = ap says_no_run is.no_outcome
  said_of_run WriteFault (read, inr (inr is)) bytes script run has holds is_run = ap says_no_run is.no_outcome
  said_of_run NoMemory (read, is) bytes script run has holds is_run = ap says_no_run is.no_outcome

  said_of_no_run : (status : Status) → Ends refuses (reports form) c status outcome → (bytes : List ℕ) (script : ScriptValue) (run : JournalsValue) → HasInput c bytes → HoldsJournals bytes script run → (IsRun script run → ⊥)
      → (says_no_run outcome ≡ true) ⊎ (status ≡ NoMemory)
  said_of_no_run Done (read, is) bytes script run has holds no_run = inl (reported_no_run _ is bytes script run has holds no_run)
  said_of_no_run Refused (read, is) bytes script run has holds no_run = absurd (refused_of _ bytes script run is has holds)
  said_of_no_run Usage (read, is) bytes script run has holds no_run = absurd (let yes = has.has_form in let no = is.no_form in cc)
  said_of_no_run ReadFault is bytes script run has holds no_run = absurd (omega (arith, is.fault, has.reads_well))
  said_of_no_run WriteFault (read, inl is) bytes script run has holds no_run = absurd (sink_failed bytes is.report.fault has)
  said_of_no_run WriteFault (read, inr (inl is)) bytes script run has holds no_run = absurd (sink_failed bytes is.line.fault has)
  said_of_no_run WriteFault (read, inr (inr is)) bytes script run has holds no_run = absurd (sink_failed bytes is.line.fault has)
  said_of_no_run NoMemory (read, is) bytes script run has holds no_run = inr refl

  -- the status that is due
  pub complete : (status : Status) → Ends refuses (reports form) c status outcome → IsComplete c status outcome
  complete status ends = record { due = IsComplete-ends refuses (reports form) (apart runs form) c status outcome ends; run = said_of_run status ends; no_run = said_of_no_run status ends }
