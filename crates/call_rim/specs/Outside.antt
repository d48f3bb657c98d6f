-- What a call does to a source and a sink.
use Rattle.std.specs.Prelude.{◌≡◌, ℕ, ◌+◌, ◌<◌, Bool, false, List, [], ◌++◌, take, drop, Option, Some, None}
use Rattle.std.specs.Io.KnownBytes.{Appends, Consumes, Keeps}

-- A source before and after a call: the bytes that it had left and has left, where they are known, and how often it had failed
-- and has failed.
pub record Reading : Type 0 where
  pub left : Option (List ℕ)
  pub left_now : Option (List ℕ)
  pub faults : ℕ
  pub faults_now : ℕ

-- a source before and after a call, by the functions that tell what it has left and how often it failed
abbrev pub reading_of : {S : Type 0} → (S → Option (List ℕ)) → (S → ℕ) → S → S → Reading
reading_of left faults before now = record { left = left before; left_now = left now; faults = faults before; faults_now = faults now }

-- A sink before and after a call: the bytes that it had taken and has taken, where they are known, whether it holds some back
-- now, and how often it had failed and has failed.
pub record Writing : Type 0 where
  pub taken : Option (List ℕ)
  pub taken_now : Option (List ℕ)
  pub held_now : Bool
  pub faults : ℕ
  pub faults_now : ℕ

-- a sink before and after a call, by the functions that tell what it took, what it holds back and how often it failed
abbrev pub writing_of : {K : Type 0} → (K → Option (List ℕ)) → (K → Bool) → (K → ℕ) → K → K → Writing
writing_of taken held faults before now =
    record { taken = taken before; taken_now = taken now; held_now = held now; faults = faults before; faults_now = faults now }

-- ---- what a sink took

-- the sink took a beginning of the bytes, where it is known what it took
abbrev pub AppendsSome : Option (List ℕ) → Option (List ℕ) → List ℕ → Type 0
AppendsSome old new bytes = (given : List ℕ) × (rest : List ℕ) × (given ++ rest ≡ bytes) × Appends old new given

-- the sink took all of the bytes and holds none back, and no call failed
pub record TakesAll (sink : Writing) (bytes : List ℕ) : Type 0 where
  pub taken : Appends sink.taken sink.taken_now bytes
  pub none_held : sink.held_now ≡ false
  pub no_fault : sink.faults_now ≡ sink.faults

-- the sink took a beginning of the bytes, for a call failed
pub record TakesSome (sink : Writing) (bytes : List ℕ) : Type 0 where
  pub taken : AppendsSome sink.taken sink.taken_now bytes
  pub fault : sink.faults < sink.faults_now

-- the sink took nothing, and no call failed
pub record TakesNone (sink : Writing) : Type 0 where
  pub taken : Keeps sink.taken sink.taken_now
  pub no_fault : sink.faults_now ≡ sink.faults

-- ---- what a source had left

-- all bytes that a source had left; any bytes, where those are not known
abbrev pub IsToTheEnd : Option (List ℕ) → List ℕ → Type 0
IsToTheEnd None bytes = Unit {0}
IsToTheEnd (Some left) bytes = bytes ≡ left

-- the bytes that were taken of a source are good so far, as its program has it; some bytes, where those are not known
pub record IsGoodSoFar (good_so_far : List ℕ → Type 0) (left now : Option (List ℕ)) : Type 0 where
  pub bytes : List ℕ
  pub read : Consumes left now bytes
  pub good : good_so_far bytes

-- (For proofs.) these bytes, cut off after one more than the most
unfoldable pub first_bytes : ℕ → List ℕ → List ℕ
first_bytes most bytes = take (most + 1) bytes

-- (For proofs.) the bytes that a source had left, cut off after one more than the most; any bytes, where those are not known
abbrev pub IsInput : ℕ → Option (List ℕ) → List ℕ → Type 0
IsInput most None bytes = Unit {0}
IsInput most (Some left) bytes = bytes ≡ first_bytes most left

-- ---- what is left of a source afterwards; anything, where its bytes were not known

-- the bytes after those: what follows one more than the most
unfoldable pub rest_bytes : ℕ → List ℕ → List ℕ
rest_bytes most bytes = drop (most + 1) bytes

-- nothing: all of it was taken
abbrev pub LeavesNothing : Option (List ℕ) → Option (List ℕ) → Type 0
LeavesNothing None now = Unit {0}
LeavesNothing (Some left) now = now ≡ Some []

-- the rest: one byte more than the most was taken, or all of fewer
abbrev pub LeavesRest : ℕ → Option (List ℕ) → Option (List ℕ) → Type 0
LeavesRest most None now = Unit {0}
LeavesRest most (Some left) now = now ≡ Some (rest_bytes most left)
