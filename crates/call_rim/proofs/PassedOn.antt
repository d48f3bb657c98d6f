-- How a call ends that passes its input on.
use Rattle.std.proofs.Common.{◌≡◌, ℕ, ◌<◌, ◌⊎◌, Bool, List, [], ◌++◌, length, Option, Some, None, refl, sym, subst, ◌∙◌, inl, inr, arith}
use Rattle.std.proofs.KnownBytes.{Appends-nil, Appends-trans, Consumes-kept, Consumes-nil, Consumes-trans}
use Rattle.std.proofs.lemmas.List.{append-nil}
use Rattle.std.specs.Io.KnownBytes.{Appends, Consumes, Keeps}
use Rattle.call_rim.specs.Outside.{IsToTheEnd, LeavesNothing, Reading, TakesAll, TakesSome, Writing}
use Rattle.call_rim.specs.Passing.{IsBegun, IsCut, IsCutOff, IsHanded, PassEnds, PassSays}
use Rattle.call_rim.specs.declared.status.Status.{Status}
use Rattle.call_rim.specs.declared.status.Status.TheVariants.{Done, Refused, Usage, ReadFault, WriteFault, NoMemory}
use Rattle.call_rim.proofs.Passed.{AppendsSome-after}

-- of the bytes that were taken of the source a text was handed out
pub record IsPassing (has_passed due : List ℕ → List ℕ → Type 0) (left left_now start taken : Option (List ℕ)) (waiting : List ℕ) : Type 0 where
  pub bytes : List ℕ
  pub consumed : Consumes left left_now bytes
  pub handed : IsHanded has_passed due start taken bytes waiting

-- nothing yet
pub IsPassing-nil : (has_passed due : List ℕ → List ℕ → Type 0) (left start : Option (List ℕ)) (waiting : List ℕ) → waiting ≡ [] → has_passed [] [] → due [] [] → IsPassing has_passed due left left start start waiting
IsPassing-nil has_passed due left start waiting none nothing is_due = record {
  bytes = [];
  consumed = Consumes-nil left;
  handed = record {
    written = [];
    appended = Appends-nil start;
    passed = subst (λ (text : List ℕ). has_passed [] text) (sym none) nothing;
    is_due = subst (λ (text : List ℕ). due [] text) (sym none) is_due;
  };
}

-- one piece more
pub IsPassing-more : (has_passed has_now due : List ℕ → List ℕ → Type 0) (left middle now start taken taken_now : Option (List ℕ)) (waiting waiting_now piece : List ℕ)
    → (passing : IsPassing has_passed due left middle start taken waiting) → Consumes middle now piece → IsHanded has_now due start taken_now (passing.bytes ++ piece) waiting_now
    → IsPassing has_now due left now start taken_now waiting_now
IsPassing-more has_passed has_now due left middle now start taken taken_now waiting waiting_now piece passing consumed handed =
    record { bytes = passing.bytes ++ piece; consumed = Consumes-trans left middle now passing.bytes piece passing.consumed consumed; handed = handed }

-- before the first byte
pub IsBegun-nil : (due : List ℕ → List ℕ → Type 0) (source : Reading) (sink : Writing) → source.left_now ≡ source.left → sink.taken_now ≡ sink.taken → sink.faults_now ≡ sink.faults → due [] [] → IsBegun due source sink
IsBegun-nil due source sink left taken faults is_due = record {
  bytes = [];
  text = [];
  read = subst (λ (now : Option (List ℕ)). Consumes source.left now []) (sym left) (Consumes-nil source.left);
  is_due = is_due;
  takes = record {
    given = [];
    rest = [];
    split = refl;
    few = omega arith;
    taken = subst (λ (now : Option (List ℕ)). Appends sink.taken now []) (sym taken) (Appends-nil sink.taken);
    no_fault = faults;
  };
}

-- a call that stops before its end
pub IsBegun-passing : (has_passed due : List ℕ → List ℕ → Type 0) (source : Reading) (sink : Writing) (left : Option (List ℕ)) (waiting : List ℕ)
    → IsPassing has_passed due source.left left sink.taken sink.taken_now waiting → Keeps left source.left_now → length waiting < 65536 → sink.faults_now ≡ sink.faults → IsBegun due source sink
IsBegun-passing has_passed due source sink left waiting passing kept few faults = record {
  bytes = passing.bytes;
  text = passing.handed.written ++ waiting;
  read = Consumes-kept source.left left source.left_now passing.bytes passing.consumed kept;
  is_due = passing.handed.is_due;
  takes = record { given = passing.handed.written; rest = waiting; split = refl; few = few; taken = passing.handed.appended; no_fault = faults };
}

-- a call whose sink failed while bytes were passed on
pub IsCutOff-piece : (due : List ℕ → List ℕ → Type 0) (source : Reading) (sink : Writing) (bytes : List ℕ) → Consumes source.left source.left_now bytes → IsCut due sink.taken sink.taken_now bytes
    → sink.faults < sink.faults_now → IsCutOff due source sink
IsCutOff-piece due source sink bytes consumed cut fault = record {
  first = cut.first;
  later = cut.later;
  text = cut.text;
  read = subst (λ (bs : List ℕ). Consumes source.left source.left_now bs) (sym cut.split) consumed;
  is_due = cut.is_due;
  takes = record { taken = cut.some; fault = fault };
}

module _ (start before now : Option (List ℕ)) (held : Bool) (first later last : ℕ) (kept : later ≡ first) (written : List ℕ) (appended : Appends start before written) where
  -- the sink from the start of the call, and from the last write
  abbrev whole : Writing
  whole = record { taken = start; taken_now = now; held_now = held; faults = first; faults_now = last }

  abbrev end : Writing
  end = record { taken = before; taken_now = now; held_now = held; faults = later; faults_now = last }

  TakesAll-joined : (rest : List ℕ) → TakesAll end rest → TakesAll whole (written ++ rest)
  TakesAll-joined rest all = record { taken = Appends-trans start before now written rest appended all.taken; none_held = all.none_held; no_fault = all.no_fault ∙ kept }

  TakesSome-joined : (rest : List ℕ) → TakesSome end rest → TakesSome whole (written ++ rest)
  TakesSome-joined rest some = record { taken = AppendsSome-after start before now written rest appended some.taken; fault = subst (λ (n : ℕ). n < last) kept some.fault }

  module _ (due refuses passes : List ℕ → List ℕ → Type 0) (source : Reading) (reads_well : source.faults_now ≡ source.faults) (bytes : List ℕ) where
    -- the end of the source
    pub PassEnds-last : (status : Status) → IsToTheEnd source.left bytes → LeavesNothing source.left source.left_now → PassSays passes refuses bytes written end status → PassEnds due refuses passes source whole status
    PassEnds-last Done all nothing said =
        (reads_well, record { bytes = bytes; text = written ++ said.rest; to_the_end = all; leaves = nothing; passed = said.ends; takes = TakesAll-joined said.rest said.takes })
    PassEnds-last Refused all nothing said = (reads_well, record { bytes = bytes; text = written ++ said.rest; to_the_end = all; refused = said.ends; takes = TakesAll-joined said.rest said.takes })
    PassEnds-last Usage all nothing said = absurd said
    PassEnds-last ReadFault all nothing said = absurd said
    PassEnds-last WriteFault all nothing (inl said) =
        (reads_well, inl (record { bytes = bytes; text = written ++ said.rest; to_the_end = all; leaves = nothing; passed = said.ends; takes = TakesSome-joined said.rest said.takes }))
    PassEnds-last WriteFault all nothing (inr said) =
        (reads_well, inr (inl (record { bytes = bytes; text = written ++ said.rest; to_the_end = all; refused = said.ends; takes = TakesSome-joined said.rest said.takes })))
    PassEnds-last NoMemory all nothing said = absurd said

    -- a beginning that is refused whatever follows
    pub PassEnds-refused : (status : Status) (waiting all : List ℕ) → IsToTheEnd source.left all → refuses all (written ++ waiting)
        → ((status ≡ Refused) × TakesAll end waiting) ⊎ ((status ≡ WriteFault) × TakesSome end waiting) → PassEnds due refuses passes source whole status
    PassEnds-refused status waiting all is_all refused (inl said) =
        subst (λ (s : Status). PassEnds due refuses passes source whole s) (sym said.0)
        (reads_well, record { bytes = all; text = written ++ waiting; to_the_end = is_all; refused = refused; takes = TakesAll-joined waiting said.1 })
    PassEnds-refused status waiting all is_all refused (inr said) =
        subst (λ (s : Status). PassEnds due refuses passes source whole s) (sym said.0)
        (reads_well, inr (inl (record { bytes = all; text = written ++ waiting; to_the_end = is_all; refused = refused; takes = TakesSome-joined waiting said.1 })))

-- all bytes of a source, some of which were taken; where they are not known, these
abbrev pub all_of : Option (List ℕ) → List ℕ → List ℕ
all_of None bytes = bytes ++ []
all_of (Some now) bytes = bytes ++ now

pub IsToTheEnd-all : (left now : Option (List ℕ)) (bytes : List ℕ) → Consumes left now bytes → IsToTheEnd left (all_of now bytes)
IsToTheEnd-all None now bytes consumed = tt
IsToTheEnd-all (Some xs) None bytes consumed = absurd consumed
IsToTheEnd-all (Some xs) (Some ys) bytes consumed = sym consumed

-- they begin with those
pub all_of-begins : (Refuses : List ℕ → Type 0) (now : Option (List ℕ)) (bytes : List ℕ) → ((more : List ℕ) → Refuses (bytes ++ more)) → Refuses (all_of now bytes)
all_of-begins Refuses None bytes refused = refused []
all_of-begins Refuses (Some now) bytes refused = refused now

-- a source that is at its end after these bytes
pub Consumes-end : (left middle now : Option (List ℕ)) (bytes : List ℕ) → Consumes left middle bytes → Consumes middle now [] → Consumes left now bytes
Consumes-end left middle now bytes before none = subst (λ (bs : List ℕ). Consumes left now bs) (append-nil bytes) (Consumes-trans left middle now bytes [] before none)
