-- How calls end, from what was read and what was written.
use Rattle.std.proofs.Common.{◌≡◌, ℕ, ◌<◌, ◌⊎◌, true, false, List, Option, Some, None, refl, sym, subst, inl, inr, arith}
use Rattle.call_rim.proofs.laws.InputBytes.{IsToTheEnd-known, LeavesRest-few, first_bytes-few, first_bytes-many}
use Rattle.call_rim.specs.Endings.{Call, Ends, IsComplete, IsRefused, IsReported, IsUsage, LeavesBy, ReadsWell, Says, Tells}
use Rattle.call_rim.specs.Feeding.{IsMade}
use Rattle.call_rim.specs.Outside.{IsInput, LeavesRest, Reading, TakesAll, TakesSome, Writing}
use Rattle.call_rim.specs.Passing.{PassEnds}
use Rattle.call_rim.specs.Performing.{Performs}
use Rattle.call_rim.specs.Within.{RefusesWithin, ReportsWithin}
use Rattle.call_rim.specs.declared.performed.Performed.{Performed}
use Rattle.call_rim.specs.declared.performed.Performed.TheVariants as performed
use Rattle.call_rim.specs.declared.status.Status.{Status}
use Rattle.call_rim.specs.declared.status.Status.TheVariants.{Done, Refused, Usage, ReadFault, WriteFault, NoMemory}

module _ {T : Type 0} (refuses : List ℕ → List ℕ → Type 0) (reports : List ℕ → T → List ℕ → Type 0) where
  -- a call that wrote the usage line, and called no source
  pub Ends-usage : (c : Call) (status : Status) (outcome : Option T) → c.has_form ≡ false → ReadsWell c → c.source.left_now ≡ c.source.left → Says Usage None c.usage c.sink status outcome
      → Ends refuses reports c status outcome
  Ends-usage c status outcome form read left (none, inl said) =
      subst (λ (s : Status). Ends refuses reports c s outcome) (sym said.0) (read, record { no_form = form; leaves = left; no_outcome = none; line = said.1 })
  Ends-usage c status outcome form read left (none, inr said) =
      subst (λ (s : Status). Ends refuses reports c s outcome) (sym said.0) (read, inr (inr (record { no_form = form; leaves = left; no_outcome = none; line = said.1 })))

  -- a call that wrote what was made of its source
  pub Ends-made : (c : Call) (status : Status) (outcome : Option T) (made : Performed T) → c.has_form ≡ true → ReadsWell c → IsMade refuses reports c.source.left c.source.left_now made
      → Tells made c.sink status outcome → Ends refuses reports c status outcome
  Ends-made c status outcome (performed.Refused line) form read made (none, inl said) =
      subst (λ (s : Status). Ends refuses reports c s outcome) (sym said.0)
      (read, record { bytes = made.bytes; text = line.items; form = form; to_the_end = made.to_the_end; refused = made.performed; no_outcome = none; line = said.1 })
  Ends-made c status outcome (performed.Refused line) form read made (none, inr said) =
      subst (λ (s : Status). Ends refuses reports c s outcome) (sym said.0)
      (read, inr (inl (record { bytes = made.bytes; text = line.items; form = form; to_the_end = made.to_the_end; refused = made.performed; no_outcome = none; line = said.1 })))
  Ends-made c status outcome (performed.Reported found report) form read made (some, inl said) =
      subst (λ (s : Status). Ends refuses reports c s outcome) (sym said.0)
      (read, record { bytes = made.bytes; found = found; text = report.items; form = form; to_the_end = made.to_the_end; leaves = made.leaves; reported = made.performed; has_outcome = some; report = said.1 })
  Ends-made c status outcome (performed.Reported found report) form read made (some, inr said) =
      subst (λ (s : Status). Ends refuses reports c s outcome) (sym said.0)
      (read, inl (record { bytes = made.bytes; found = found; text = report.items; form = form; to_the_end = made.to_the_end; leaves = made.leaves; reported = made.performed; has_outcome = some; report = said.1 }))
  Ends-made c status outcome performed.NoMemory form read made nothing =
      subst (λ (s : Status). Ends refuses reports c s outcome) (sym nothing.1) (read, record { form = form; no_outcome = nothing.0; nothing = nothing.2 })

  -- what is made of an input that was read whole, or to one byte more than the most
  pub IsMade-within : (most : ℕ) (left now : Option (List ℕ)) (bytes : List ℕ) (made : Performed T) → IsInput most left bytes → LeavesRest most left now
      → Performs (RefusesWithin most refuses) (ReportsWithin most reports) bytes made → IsMade (RefusesWithin most refuses) (ReportsWithin most reports) left now made
  IsMade-within most None now bytes (performed.Refused line) input rest performs = record { bytes = bytes; to_the_end = tt; performed = performs; leaves = tt }
  IsMade-within most None now bytes (performed.Reported found report) input rest performs = record { bytes = bytes; to_the_end = tt; performed = performs; leaves = tt }
  IsMade-within most None now bytes performed.NoMemory input rest performs = record { bytes = bytes; to_the_end = tt; performed = tt; leaves = tt }
  IsMade-within most (Some left) now bytes (performed.Refused line) input rest (inl large) =
      record { bytes = left; to_the_end = refl; performed = inl (first_bytes-many most left bytes input large.0, large.1); leaves = tt }
  IsMade-within most (Some left) now bytes (performed.Refused line) input rest (inr few) =
      let all = first_bytes-few most left bytes input few.0 in
      record { bytes = bytes; to_the_end = all; performed = inr few; leaves = tt }
  IsMade-within most (Some left) now bytes (performed.Reported found report) input rest few =
      let all = first_bytes-few most left bytes input few.0 in
      record { bytes = bytes; to_the_end = all; performed = few; leaves = LeavesRest-few most (Some left) now bytes all few.0 rest }
  IsMade-within most (Some left) now bytes performed.NoMemory input rest performs = record { bytes = left; to_the_end = refl; performed = tt; leaves = tt }

-- what is left after a call that left this rest
pub LeavesBy-rest : (most : ℕ) (source : Reading) (status : Status) → LeavesRest most source.left source.left_now → LeavesBy most source status
LeavesBy-rest most source Done rest = rest
LeavesBy-rest most source Refused rest = rest
LeavesBy-rest most source Usage rest = tt
LeavesBy-rest most source ReadFault rest = tt
LeavesBy-rest most source WriteFault rest = rest
LeavesBy-rest most source NoMemory rest = tt

-- and what such a call left that refused its input
pub LeavesRest-refused : (most : ℕ) (source : Reading) (status : Status) → LeavesBy most source status → (status ≡ Refused) ⊎ (status ≡ WriteFault) → LeavesRest most source.left source.left_now
LeavesRest-refused most source status leaves (inl is) = let at : LeavesBy most source Refused = subst (λ (s : Status). LeavesBy most source s) is leaves in at
LeavesRest-refused most source status leaves (inr is) = let at : LeavesBy most source WriteFault = subst (λ (s : Status). LeavesBy most source s) is leaves in at

-- ---- other programs that refuse and report what this one does

module _ {T : Type 0} (refuses refuses' : List ℕ → List ℕ → Type 0) (reports reports' : List ℕ → T → List ℕ → Type 0) (c : Call) (outcome : Option T) where
  IsReported-as : (Takes : Writing → List ℕ → Type 0) → ((bytes : List ℕ) (found : T) (text : List ℕ) → reports bytes found text → reports' bytes found text) → IsReported refuses reports c outcome Takes
      → IsReported refuses' reports' c outcome Takes
  IsReported-as Takes is_reported is = record {
    bytes = is.bytes;
    found = is.found;
    text = is.text;
    form = is.form;
    to_the_end = is.to_the_end;
    leaves = is.leaves;
    reported = is_reported is.bytes is.found is.text is.reported;
    has_outcome = is.has_outcome;
    report = is.report;
  }

  IsRefused-as : (Takes : Writing → List ℕ → Type 0) → ((bytes text : List ℕ) → refuses bytes text → refuses' bytes text) → IsRefused refuses reports c outcome Takes → IsRefused refuses' reports' c outcome Takes
  IsRefused-as Takes is_refused is = record {
    bytes = is.bytes;
    text = is.text;
    form = is.form;
    to_the_end = is.to_the_end;
    refused = is_refused is.bytes is.text is.refused;
    no_outcome = is.no_outcome;
    line = is.line;
  }

  IsUsage-as : (Takes : Writing → List ℕ → Type 0) → IsUsage refuses reports c outcome Takes → IsUsage refuses' reports' c outcome Takes
  IsUsage-as Takes is = record { no_form = is.no_form; leaves = is.leaves; no_outcome = is.no_outcome; line = is.line }

  -- their calls end so
  pub Ends-as : (status : Status) → ((status ≡ Refused) ⊎ (status ≡ WriteFault) → (bytes text : List ℕ) → refuses bytes text → refuses' bytes text)
      → ((bytes : List ℕ) (found : T) (text : List ℕ) → reports bytes found text → reports' bytes found text) → Ends refuses reports c status outcome → Ends refuses' reports' c status outcome
  Ends-as Done is_refused is_reported (read, is) = (read, IsReported-as TakesAll is_reported is)
  Ends-as Refused is_refused is_reported (read, is) = (read, IsRefused-as TakesAll (is_refused (inl refl)) is)
  Ends-as Usage is_refused is_reported (read, is) = (read, IsUsage-as TakesAll is)
  Ends-as ReadFault is_refused is_reported is = record { form = is.form; fault = is.fault; no_outcome = is.no_outcome; nothing = is.nothing }
  Ends-as WriteFault is_refused is_reported (read, inl is) = (read, inl (IsReported-as TakesSome is_reported is))
  Ends-as WriteFault is_refused is_reported (read, inr (inl is)) = (read, inr (inl (IsRefused-as TakesSome (is_refused (inr refl)) is)))
  Ends-as WriteFault is_refused is_reported (read, inr (inr is)) = (read, inr (inr (IsUsage-as TakesSome is)))
  Ends-as NoMemory is_refused is_reported (read, is) = (read, record { form = is.form; no_outcome = is.no_outcome; nothing = is.nothing })

-- ---- the status that is due

module _ {T : Type 0} (refuses : List ℕ → List ℕ → Type 0) (reports : List ℕ → T → List ℕ → Type 0)
    (apart : (bytes line : List ℕ) (found : T) (text : List ℕ) → refuses bytes line → reports bytes found text → ⊥) (c : Call) where
  -- a call that failed, where none does
  sink_failed : (status : Status) → c.sink.faults < c.sink.faults_now → IsComplete refuses c status
  sink_failed status fault = record {
    refused = λ bytes line has no. absurd (let well = has.writes_well in omega (arith, fault, well));
    done = λ bytes has good. absurd (let well = has.writes_well in omega (arith, fault, well));
    by_words = λ no_form well. absurd (omega (arith, fault, well));
  }

  -- the status follows from how the call ended, where no bytes are both refused and reported on
  pub IsComplete-ends : (status : Status) (outcome : Option T) → Ends refuses reports c status outcome → IsComplete refuses c status
  IsComplete-ends Done outcome (read, is) = record {
    refused = λ bytes line has no.
        let same = IsToTheEnd-known c.source.left bytes is.bytes has.had is.to_the_end in
        absurd (apart is.bytes line is.found is.text (subst (λ (b : List ℕ). refuses b line) (sym same) no) is.reported);
    done = λ bytes has good. inl refl;
    by_words = λ no_form well. let form = is.form in absurd cc;
  }
  IsComplete-ends Refused outcome (read, is) = record {
    refused = λ bytes line has no. inl refl;
    done = λ bytes has good.
        let same = IsToTheEnd-known c.source.left bytes is.bytes has.had is.to_the_end in
        absurd (good is.text (subst (λ (b : List ℕ). refuses b is.text) same is.refused));
    by_words = λ no_form well. let form = is.form in absurd cc;
  }
  IsComplete-ends Usage outcome (read, is) = record {
    refused = λ bytes line has no. let no_form = is.no_form in let form = has.has_form in absurd cc;
    done = λ bytes has good. let no_form = is.no_form in let form = has.has_form in absurd cc;
    by_words = λ no_form well. refl;
  }
  IsComplete-ends ReadFault outcome is = record {
    refused = λ bytes line has no. absurd (let fault = is.fault in let well = has.reads_well in omega (arith, fault, well));
    done = λ bytes has good. absurd (let fault = is.fault in let well = has.reads_well in omega (arith, fault, well));
    by_words = λ no_form well. let form = is.form in absurd cc;
  }
  IsComplete-ends WriteFault outcome (read, inl is) = sink_failed WriteFault is.report.fault
  IsComplete-ends WriteFault outcome (read, inr (inl is)) = sink_failed WriteFault is.line.fault
  IsComplete-ends WriteFault outcome (read, inr (inr is)) = sink_failed WriteFault is.line.fault
  IsComplete-ends NoMemory outcome (read, is) = record {
    refused = λ bytes line has no. inr refl;
    done = λ bytes has good. inr refl;
    by_words = λ no_form well. let form = is.form in absurd cc;
  }

-- and so of a program that passes its input on
module _ (due refuses passes bad : List ℕ → List ℕ → Type 0) (is_bad : (bytes text : List ℕ) → refuses bytes text → bad bytes text) (apart : (bytes line text : List ℕ) → bad bytes line → passes bytes text → ⊥)
    (c : Call) (form : c.has_form ≡ true) where
  pass_failed : (status : Status) → c.sink.faults < c.sink.faults_now → IsComplete bad c status
  pass_failed status fault = record {
    refused = λ bytes line has no. absurd (let well = has.writes_well in omega (arith, fault, well));
    done = λ bytes has good. absurd (let well = has.writes_well in omega (arith, fault, well));
    by_words = λ no_form well. absurd cc;
  }

  pub IsComplete-passed : (status : Status) → PassEnds due refuses passes c.source c.sink status → IsComplete bad c status
  IsComplete-passed Done (read, is) = record {
    refused = λ bytes line has no.
        let same = IsToTheEnd-known c.source.left bytes is.bytes has.had is.to_the_end in
        absurd (apart is.bytes line is.text (subst (λ (b : List ℕ). bad b line) (sym same) no) is.passed);
    done = λ bytes has good. inl refl;
    by_words = λ no_form well. absurd cc;
  }
  IsComplete-passed Refused (read, is) = record {
    refused = λ bytes line has no. inl refl;
    done = λ bytes has good.
        let same = IsToTheEnd-known c.source.left bytes is.bytes has.had is.to_the_end in
        absurd (good is.text (subst (λ (b : List ℕ). bad b is.text) same (is_bad is.bytes is.text is.refused)));
    by_words = λ no_form well. absurd cc;
  }
  IsComplete-passed Usage is = absurd is
  IsComplete-passed ReadFault (fault, is) = record {
    refused = λ bytes line has no. absurd (let well = has.reads_well in omega (arith, fault, well));
    done = λ bytes has good. absurd (let well = has.reads_well in omega (arith, fault, well));
    by_words = λ no_form well. absurd cc;
  }
  IsComplete-passed WriteFault (read, inl is) = pass_failed WriteFault is.takes.fault
  IsComplete-passed WriteFault (read, inr (inl is)) = pass_failed WriteFault is.takes.fault
  IsComplete-passed WriteFault (read, inr (inr is)) = pass_failed WriteFault is.takes.fault
  IsComplete-passed NoMemory (read, is) = record {
    refused = λ bytes line has no. inr refl;
    done = λ bytes has good. inr refl;
    by_words = λ no_form well. absurd cc;
  }
