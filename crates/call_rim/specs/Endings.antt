-- What each status of a call says.
use Rattle.std.specs.Prelude.{◌≡◌, ℕ, ◌<◌, ◌⊎◌, Bool, true, false, List, Option, Some, None}
use Rattle.call_rim.specs.Outside.{IsToTheEnd, LeavesNothing, LeavesRest, Reading, TakesAll, TakesNone, TakesSome, Writing}
use Rattle.call_rim.specs.declared.performed.Performed.{Performed}
use Rattle.call_rim.specs.declared.performed.Performed.TheVariants as performed
use Rattle.call_rim.specs.declared.status.Status.{Status}
use Rattle.call_rim.specs.declared.status.Status.TheVariants.{Done, Refused, Usage, ReadFault, WriteFault, NoMemory}

-- A call as it is seen from outside: whether its command line is valid, the usage line, and its source and its sink before and
-- after.
pub record Call : Type 0 where
  pub has_form : Bool
  pub usage : List ℕ
  pub source : Reading
  pub sink : Writing

-- the call with these parts
abbrev pub call_of : Bool → List ℕ → Reading → Writing → Call
call_of has_form usage source sink = record { has_form = has_form; usage = usage; source = source; sink = sink }

-- no call of the source failed
abbrev pub ReadsWell : Call → Type 0
ReadsWell c = c.source.faults_now ≡ c.source.faults

-- no call of the sink failed
abbrev pub WritesWell : Call → Type 0
WritesWell c = c.sink.faults_now ≡ c.sink.faults

module _ {T : Type 0} (refuses : List ℕ → List ℕ → Type 0) (reports : List ℕ → T → List ℕ → Type 0) where
  -- All bytes of the source have this outcome and a report, of which the sink took this much. The source has nothing left.
  pub record IsReported (c : Call) (outcome : Option T) (Takes : Writing → List ℕ → Type 0) : Type 0 where
    pub bytes : List ℕ
    pub found : T
    pub text : List ℕ
    pub form : c.has_form ≡ true
    pub to_the_end : IsToTheEnd c.source.left bytes
    pub leaves : LeavesNothing c.source.left c.source.left_now
    pub reported : reports bytes found text
    pub has_outcome : outcome ≡ Some found
    pub report : Takes c.sink text

  -- All bytes of the source are refused, there is no outcome, and the sink took this much of the line.
  pub record IsRefused (c : Call) (outcome : Option T) (Takes : Writing → List ℕ → Type 0) : Type 0 where
    pub bytes : List ℕ
    pub text : List ℕ
    pub form : c.has_form ≡ true
    pub to_the_end : IsToTheEnd c.source.left bytes
    pub refused : refuses bytes text
    pub no_outcome : outcome ≡ None
    pub line : Takes c.sink text

  -- The command line is not valid, the source has all that it had, there is no outcome, and the sink took this much of the usage
  -- line.
  pub record IsUsage (c : Call) (outcome : Option T) (Takes : Writing → List ℕ → Type 0) : Type 0 where
    pub no_form : c.has_form ≡ false
    pub leaves : c.source.left_now ≡ c.source.left
    pub no_outcome : outcome ≡ None
    pub line : Takes c.sink c.usage

  -- The command line is valid, the source failed, there is no outcome, and the sink took nothing.
  pub record IsReadFault (c : Call) (outcome : Option T) : Type 0 where
    pub form : c.has_form ≡ true
    pub fault : c.source.faults < c.source.faults_now
    pub no_outcome : outcome ≡ None
    pub nothing : TakesNone c.sink

  -- The command line is valid, memory ran out, there is no outcome, and the sink took nothing.
  pub record IsNoMemory (c : Call) (outcome : Option T) : Type 0 where
    pub form : c.has_form ≡ true
    pub no_outcome : outcome ≡ None
    pub nothing : TakesNone c.sink

  -- What a status says of its call and of its outcome.
  abbrev pub Ends : Call → Status → Option T → Type 0
  Ends c Done outcome = ReadsWell c × IsReported c outcome TakesAll
  Ends c Refused outcome = ReadsWell c × IsRefused c outcome TakesAll
  Ends c Usage outcome = ReadsWell c × IsUsage c outcome TakesAll
  Ends c ReadFault outcome = IsReadFault c outcome
  Ends c WriteFault outcome = ReadsWell c × (IsReported c outcome TakesSome ⊎ (IsRefused c outcome TakesSome ⊎ IsUsage c outcome TakesSome))
  Ends c NoMemory outcome = ReadsWell c × IsNoMemory c outcome

-- The command line is valid, the source had these bytes, and nothing failed.
pub record HasInput (c : Call) (bytes : List ℕ) : Type 0 where
  pub has_form : c.has_form ≡ true
  pub had : c.source.left ≡ Some bytes
  pub reads_well : ReadsWell c
  pub writes_well : WritesWell c

-- The status when nothing fails, unless memory runs out: Refused where the bytes are refused, and Done where they are not. A command
-- line that is not valid gets Usage, whatever becomes of the source.
pub record IsComplete (refuses : List ℕ → List ℕ → Type 0) (c : Call) (status : Status) : Type 0 where
  pub refused : (bytes line : List ℕ) → HasInput c bytes → refuses bytes line → (status ≡ Refused) ⊎ (status ≡ NoMemory)
  pub done : (bytes : List ℕ) → HasInput c bytes → ((line : List ℕ) → refuses bytes line → ⊥) → (status ≡ Done) ⊎ (status ≡ NoMemory)
  pub by_words : c.has_form ≡ false → WritesWell c → status ≡ Usage

-- What is left of a source that was read for a whole input: the rest, unless it failed or memory ran out.
abbrev pub LeavesBy : ℕ → Reading → Status → Type 0
LeavesBy most source Done = LeavesRest most source.left source.left_now
LeavesBy most source Refused = LeavesRest most source.left source.left_now
LeavesBy most source Usage = Unit {0}
LeavesBy most source ReadFault = Unit {0}
LeavesBy most source WriteFault = LeavesRest most source.left source.left_now
LeavesBy most source NoMemory = Unit {0}

-- ---- what is written of a call

module _ {T : Type 0} where
  -- (For proofs.) the sink took the text, or it failed and took a beginning of it
  abbrev pub Says : Status → Option T → List ℕ → Writing → Status → Option T → Type 0
  Says said told text sink status outcome = (outcome ≡ told) × (((status ≡ said) × TakesAll sink text) ⊎ ((status ≡ WriteFault) × TakesSome sink text))

  -- (For proofs.) memory ran out, and the sink took nothing
  abbrev pub SaysNothing : Writing → Status → Option T → Type 0
  SaysNothing sink status outcome = (outcome ≡ None) × (status ≡ NoMemory) × TakesNone sink

  -- (For proofs.) what a program made of its input was written: the line of a refusal or the report, and nothing where memory ran out
  abbrev pub Tells : Performed T → Writing → Status → Option T → Type 0
  Tells (performed.Refused line) sink status outcome = Says Refused None line.items sink status outcome
  Tells (performed.Reported found report) sink status outcome = Says Done (Some found) report.items sink status outcome
  Tells performed.NoMemory sink status outcome = SaysNothing sink status outcome
