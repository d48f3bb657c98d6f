-- What a program was fed of a source.
use Rattle.std.proofs.Common.{ℕ, List, [], ◌++◌, Option, Some, None, refl, sym, subst, ap, ◌∙◌}
use Rattle.std.specs.Io.KnownBytes.{Consumes, IsAtEnd, Keeps}
use Rattle.std.proofs.KnownBytes.{Consumes-kept, Consumes-nil, Consumes-trans}
use Rattle.std.proofs.lemmas.List.{append-nil}
use Rattle.call_rim.specs.Feeding.{IsMade, LeavesPerformed}
use Rattle.call_rim.specs.Outside.{IsGoodSoFar, IsToTheEnd, LeavesNothing}
use Rattle.call_rim.specs.Performing.{Performs}
use Rattle.call_rim.specs.declared.performed.Performed.{Performed}
use Rattle.call_rim.specs.declared.performed.Performed.TheVariants as performed

-- the bytes that were taken of the source so far are those that this is said of, and good so far
pub record IsFed (has_taken good_so_far : List ℕ → Type 0) (left now : Option (List ℕ)) : Type 0 where
  pub bytes : List ℕ
  pub consumed : Consumes left now bytes
  pub taken : has_taken bytes
  pub good : good_so_far bytes

-- none was taken yet
pub IsFed-nil : (has_taken good_so_far : List ℕ → Type 0) (left : Option (List ℕ)) → has_taken [] → good_so_far [] → IsFed has_taken good_so_far left left
IsFed-nil has_taken good_so_far left nothing good = record { bytes = []; consumed = Consumes-nil left; taken = nothing; good = good }

-- one piece more
pub IsFed-more : (has_taken has_now good_so_far : List ℕ → Type 0) (start left now : Option (List ℕ)) (piece : List ℕ) → (fed : IsFed has_taken good_so_far start left) → Consumes left now piece
    → has_now (fed.bytes ++ piece) × good_so_far (fed.bytes ++ piece) → IsFed has_now good_so_far start now
IsFed-more has_taken has_now good_so_far start left now piece fed consumed (taken, good) =
    record { bytes = fed.bytes ++ piece; consumed = Consumes-trans start left now fed.bytes piece fed.consumed consumed; taken = taken; good = good }

-- the source failed, and has what it had
pub IsFed-kept : (has_taken good_so_far : List ℕ → Type 0) (start left now : Option (List ℕ)) → IsFed has_taken good_so_far start left → Keeps left now → IsGoodSoFar good_so_far start now
IsFed-kept has_taken good_so_far start left now fed kept =
    record { bytes = fed.bytes; read = Consumes-kept start left now fed.bytes fed.consumed kept; good = fed.good }

-- at its end a source has nothing left
pub LeavesNothing-at_end : (left now : Option (List ℕ)) (bytes : List ℕ) → Consumes left now bytes → IsAtEnd now → LeavesNothing left now
LeavesNothing-at_end None now bytes consumed end = tt
LeavesNothing-at_end (Some xs) None bytes consumed end = absurd consumed
LeavesNothing-at_end (Some xs) (Some ys) bytes consumed end = ap Some end

-- and what was taken is all that it had
pub IsToTheEnd-at_end : (left now : Option (List ℕ)) (bytes : List ℕ) → Consumes left now bytes → IsAtEnd now → IsToTheEnd left bytes
IsToTheEnd-at_end None now bytes consumed end = tt
IsToTheEnd-at_end (Some xs) None bytes consumed end = absurd consumed
IsToTheEnd-at_end (Some xs) (Some ys) bytes consumed end = sym (consumed ∙ (ap (λ rest. bytes ++ rest) end ∙ append-nil bytes))

module _ {T : Type 0} (refuses : List ℕ → List ℕ → Type 0) (reports : List ℕ → T → List ℕ → Type 0) where
  LeavesPerformed-of : (left now : Option (List ℕ)) (made : Performed T) → LeavesNothing left now → LeavesPerformed made left now
  LeavesPerformed-of left now (performed.Refused line) nothing = tt
  LeavesPerformed-of left now (performed.Reported outcome report) nothing = nothing
  LeavesPerformed-of left now performed.NoMemory nothing = tt

  -- what is made of a source at its end
  pub IsMade-at_end : (has_taken good_so_far : List ℕ → Type 0) (left before now : Option (List ℕ)) (made : Performed T) → (fed : IsFed has_taken good_so_far left before) → Consumes before now [] → IsAtEnd now
      → ((bytes : List ℕ) → has_taken bytes → Performs refuses reports bytes made) → IsMade refuses reports left now made
  IsMade-at_end has_taken good_so_far left before now made fed none end performs =
      let bytes = fed.bytes ++ [] in
      let consumed = Consumes-trans left before now fed.bytes [] fed.consumed none in
      record {
        bytes = bytes;
        to_the_end = IsToTheEnd-at_end left now bytes consumed end;
        performed = subst (λ (all : List ℕ). Performs refuses reports all made) (sym (append-nil fed.bytes)) (performs fed.bytes fed.taken);
        leaves = LeavesPerformed-of left now made (LeavesNothing-at_end left now bytes consumed end);
      }

  -- a beginning that is refused whatever follows
  pub IsMade-refused : (left now : Option (List ℕ)) (bytes : List ℕ) (line : _) → Consumes left now bytes → ((more : List ℕ) → Performs refuses reports (bytes ++ more) (performed.Refused line))
      → IsMade refuses reports left now (performed.Refused line)
  IsMade-refused None now bytes line consumed refused = record { bytes = bytes ++ []; to_the_end = tt; performed = refused []; leaves = tt }
  IsMade-refused (Some xs) None bytes line consumed refused = absurd consumed
  IsMade-refused (Some xs) (Some ys) bytes line consumed refused = record { bytes = bytes ++ ys; to_the_end = sym consumed; performed = refused ys; leaves = tt }

  -- out of memory says nothing of the bytes
  pub IsMade-NoMemory : (left now : Option (List ℕ)) → IsMade refuses reports left now performed.NoMemory
  IsMade-NoMemory None now = record { bytes = []; to_the_end = tt; performed = tt; leaves = tt }
  IsMade-NoMemory (Some xs) now = record { bytes = xs; to_the_end = refl; performed = tt; leaves = tt }
