-- Bytes of a source that are let go of, and what is made of an input that its beginning refuses.
use Rattle.std.proofs.Common.{◌≡◌, ℕ, ◌+◌, ◌<◌, ◌≤◌, List, [], ◌++◌, length, take, Option, Some, Vec, Global, refl, ap, ◌∙◌, arith, inr}
use Rattle.std.specs.Io.KnownBytes.{Consumes, IsAtEnd}
use Rattle.std.proofs.KnownBytes.{Consumes-nil, Consumes-trans}
use Rattle.std.proofs.lemmas.List.{length-append, length-take-le}
use Rattle.call_rim.proofs.laws.InputBytes.{IsInput-at_end, IsInput-full}
use Rattle.call_rim.specs.Beginnings.{IsMadeOf, Passes, RefusesAll}
use Rattle.call_rim.specs.Performing.{Performs}
use Rattle.call_rim.specs.Within.{RefusesWithin, ReportsWithin}
use Rattle.call_rim.specs.declared.performed.Performed.{Performed}
use Rattle.call_rim.specs.declared.performed.Performed.TheVariants as performed

-- nothing was taken yet
pub Passes-nothing : (left : Option (List ℕ)) → Passes left left 0
Passes-nothing left = record { bytes = []; taken = Consumes-nil left; count = refl }

-- the first bytes of a piece more
pub Passes-piece : (left old now : Option (List ℕ)) (passed n : ℕ) (piece : List ℕ) → Passes left old passed → Consumes old now (take n piece) → n ≤ length piece → Passes left now (passed + n)
Passes-piece left old now passed n piece before consumed within = record {
  bytes = before.bytes ++ take n piece;
  taken = Consumes-trans left old now before.bytes (take n piece) before.taken consumed;
  count = omega (arith, before.count, length-append before.bytes (take n piece), length-take-le n piece within);
}

module _ {T : Type 0} (most : ℕ) (refuses : List ℕ → List ℕ → Type 0) (reports : List ℕ → T → List ℕ → Type 0) (start left now : Option (List ℕ)) (before : List ℕ) (n : ℕ) (first : Consumes start left before)
    (rest : Passes left now n) where
  -- all bytes that were taken
  abbrev all_bytes : List ℕ
  all_bytes = before ++ rest.bytes

  all_taken : Consumes start now all_bytes
  all_taken = Consumes-trans start left now before rest.bytes first rest.taken

  count_all : length all_bytes ≡ length before + n
  count_all = length-append before rest.bytes ∙ ap (λ (m : ℕ). length before + m) rest.count

  -- an input that is too large
  pub IsMadeOf-large : (made : Performed T) → length before + n ≡ most + 1 → ((bytes : List ℕ) → most < length bytes → Performs (RefusesWithin most refuses) (ReportsWithin most reports) bytes made)
      → IsMadeOf most refuses reports start now made
  IsMadeOf-large made large performs = record {
    bytes = all_bytes;
    taken = all_taken;
    input = IsInput-full most start now all_bytes all_taken (count_all ∙ large);
    performed = performs all_bytes (omega (arith, count_all, large));
  }

  -- one that its beginning refuses
  pub IsMadeOf-refused : (line : Vec ℕ Global) → length before + n ≤ most → IsAtEnd now → RefusesAll most refuses before (Some line) → IsMadeOf most refuses reports start now (performed.Refused line)
  IsMadeOf-refused line few end refused =
      let fits : length all_bytes ≤ most = omega (arith, few, count_all) in
      record {
        bytes = all_bytes;
        taken = all_taken;
        input = IsInput-at_end most start now all_bytes all_taken end (omega (arith, fits));
        performed = inr (fits, refused rest.bytes fits);
      }
