-- How a call ends that passes its input on, so that its text leaves before the input has ended.
use Rattle.std.specs.Prelude.{◌≡◌, ℕ, ◌+◌, ◌<◌, ◌≤◌, ◌⊎◌, List, ◌++◌, length, Option, Result, Ok, Err}
use Rattle.std.specs.Io.KnownBytes.{Appends, Consumes}
use Rattle.rc_base.specs.Buffers.{Roomy}
use Rattle.rc_stream.specs.declared.streams.Failed.{Failed}
use Rattle.call_rim.specs.Outside.{AppendsSome, IsToTheEnd, LeavesNothing, Reading, TakesAll, TakesSome, Writing}
use Rattle.call_rim.specs.declared.pass_program.Passing.{Passing}
use Rattle.call_rim.specs.declared.pass_program.Passing.TheVariants as passing
use Rattle.call_rim.specs.declared.pass_program.TheConstants.{MOST_DUE_BYTES}
use Rattle.call_rim.specs.declared.status.Status.{Status}
use Rattle.call_rim.specs.declared.status.Status.TheVariants.{Done, Refused, Usage, ReadFault, WriteFault, NoMemory}

-- the sink took all of a text but fewer than 65,536 bytes at its end, and no call failed
pub record TakesFirst (sink : Writing) (text : List ℕ) : Type 0 where
  pub given : List ℕ
  pub rest : List ℕ
  pub split : given ++ rest ≡ text
  pub few : length rest < 65536
  pub taken : Appends sink.taken sink.taken_now given
  pub no_fault : sink.faults_now ≡ sink.faults

-- all bytes of the source have a text, of which the sink took this much, and the source has nothing left
pub record IsPassed (passes : List ℕ → List ℕ → Type 0) (source : Reading) (sink : Writing) (Takes : Writing → List ℕ → Type 0) : Type 0 where
  pub bytes : List ℕ
  pub text : List ℕ
  pub to_the_end : IsToTheEnd source.left bytes
  pub leaves : LeavesNothing source.left source.left_now
  pub passed : passes bytes text
  pub takes : Takes sink text

-- all bytes of the source are refused with a text, of which the sink took this much
pub record IsStopped (refuses : List ℕ → List ℕ → Type 0) (source : Reading) (sink : Writing) (Takes : Writing → List ℕ → Type 0) : Type 0 where
  pub bytes : List ℕ
  pub text : List ℕ
  pub to_the_end : IsToTheEnd source.left bytes
  pub refused : refuses bytes text
  pub takes : Takes sink text

-- the bytes that were read of the source make a text due, of which the sink took all but its end
pub record IsBegun (due : List ℕ → List ℕ → Type 0) (source : Reading) (sink : Writing) : Type 0 where
  pub bytes : List ℕ
  pub text : List ℕ
  pub read : Consumes source.left source.left_now bytes
  pub is_due : due bytes text
  pub takes : TakesFirst sink text

-- the first of the bytes that were read of the source make a text due, of which the sink took a beginning, for it failed
pub record IsCutOff (due : List ℕ → List ℕ → Type 0) (source : Reading) (sink : Writing) : Type 0 where
  pub first : List ℕ
  pub later : List ℕ
  pub text : List ℕ
  pub read : Consumes source.left source.left_now (first ++ later)
  pub is_due : due first text
  pub takes : TakesSome sink text

-- what a status says of a call with a valid command line that passes its input on
abbrev pub PassEnds : (due refuses passes : List ℕ → List ℕ → Type 0) → Reading → Writing → Status → Type 0
PassEnds due refuses passes source sink Done = (source.faults_now ≡ source.faults) × IsPassed passes source sink TakesAll
PassEnds due refuses passes source sink Refused = (source.faults_now ≡ source.faults) × IsStopped refuses source sink TakesAll
PassEnds due refuses passes source sink Usage = ⊥
PassEnds due refuses passes source sink ReadFault = (source.faults < source.faults_now) × IsBegun due source sink
PassEnds due refuses passes source sink WriteFault =
    (source.faults_now ≡ source.faults) × (IsPassed passes source sink TakesSome ⊎ (IsStopped refuses source sink TakesSome ⊎ IsCutOff due source sink))
PassEnds due refuses passes source sink NoMemory = (source.faults_now ≡ source.faults) × IsBegun due source sink

-- ---- of a program, byte by byte

-- (For proofs.) after a byte: the state is that after these bytes, of which this text was handed out, as is due; or whatever follows them is
-- refused with it
abbrev pub TakesByte : (has_passed due refuses : List ℕ → List ℕ → Type 0) → List ℕ → List ℕ → Passing → Type 0
TakesByte has_passed due refuses bytes text passing.Good = has_passed bytes text × due bytes text
TakesByte has_passed due refuses bytes text passing.Refused = (more : List ℕ) → refuses (bytes ++ more) text

-- (For proofs.) after the last byte: the input has this text, or it is refused with it
abbrev pub EndsAs : (passes refuses : List ℕ → List ℕ → Type 0) → List ℕ → List ℕ → Passing → Type 0
EndsAs passes refuses bytes text passing.Good = passes bytes text
EndsAs passes refuses bytes text passing.Refused = refuses bytes text

-- (For proofs.) Of these bytes a text was handed out, as is due: the sink took the front of it, and the rest waits.
pub record IsHanded (has_passed due : List ℕ → List ℕ → Type 0) (start taken : Option (List ℕ)) (bytes waiting : List ℕ) : Type 0 where
  pub written : List ℕ
  pub appended : Appends start taken written
  pub passed : has_passed bytes (written ++ waiting)
  pub is_due : due bytes (written ++ waiting)

-- (For proofs.) Whatever follows these bytes is refused with a text: the sink took the front of it, and the rest waits.
pub record IsHandedLast (refuses : List ℕ → List ℕ → Type 0) (start taken : Option (List ℕ)) (bytes waiting : List ℕ) : Type 0 where
  pub written : List ℕ
  pub appended : Appends start taken written
  pub refused : (more : List ℕ) → refuses (bytes ++ more) (written ++ waiting)

-- (For proofs.) The first of these bytes make a text due, of which the sink took a beginning.
pub record IsCut (due : List ℕ → List ℕ → Type 0) (start taken : Option (List ℕ)) (bytes : List ℕ) : Type 0 where
  pub first : List ℕ
  pub later : List ℕ
  pub text : List ℕ
  pub split : first ++ later ≡ bytes
  pub is_due : due first text
  pub some : AppendsSome start taken text

-- (For proofs.) what was handed out of bytes, by what became of them; or the sink failed
abbrev pub Hands : (has_passed due refuses : List ℕ → List ℕ → Type 0) → (start taken : Option (List ℕ)) → (bytes waiting : List ℕ) → Result Passing Failed → Type 0
Hands has_passed due refuses start taken bytes waiting (Ok passing.Good) = IsHanded has_passed due start taken bytes waiting
Hands has_passed due refuses start taken bytes waiting (Ok passing.Refused) = IsHandedLast refuses start taken bytes waiting
Hands has_passed due refuses start taken bytes waiting (Err failed) = IsCut due start taken bytes

-- (For proofs.) a text that waits is short, and there is room for what one byte may add
pub record IsWaiting (out : Roomy) : Type 0 where
  pub few : length out.bytes < 65536
  pub room : 65536 + MOST_DUE_BYTES ≤ length out.bytes + out.spare

-- (For proofs.) the sink took the front of a text, and the rest of it waits
pub record Moves (taken taken_now : Option (List ℕ)) (waiting waiting_now : List ℕ) : Type 0 where
  pub part : List ℕ
  pub split : waiting ≡ part ++ waiting_now
  pub appended : Appends taken taken_now part

-- (For proofs.) What was written after the front of a text, which the sink had taken before: the rest of what the bytes have, or of what
-- refuses them; or the sink failed, and took a beginning of that.
pub record IsLastOf (Ends : List ℕ → List ℕ → Type 0) (bytes written : List ℕ) (sink : Writing) (Takes : Writing → List ℕ → Type 0) : Type 0 where
  pub rest : List ℕ
  pub ends : Ends bytes (written ++ rest)
  pub takes : Takes sink rest

-- (For proofs.) by the status: what was written last is the rest of a text that the bytes have, or of one that refuses them
abbrev pub PassSays : (passes refuses : List ℕ → List ℕ → Type 0) → (bytes written : List ℕ) → Writing → Status → Type 0
PassSays passes refuses bytes written sink Done = IsLastOf passes bytes written sink TakesAll
PassSays passes refuses bytes written sink Refused = IsLastOf refuses bytes written sink TakesAll
PassSays passes refuses bytes written sink WriteFault = IsLastOf passes bytes written sink TakesSome ⊎ IsLastOf refuses bytes written sink TakesSome
PassSays passes refuses bytes written sink status = ⊥
