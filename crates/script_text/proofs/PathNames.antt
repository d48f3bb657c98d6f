-- The names of a path that a line names.
use Rattle.std.proofs.Common.{◌≡◌, ℕ, Bool, true, false, cond, ltb, List, length, Option, Some, None, Ok, refl}
use Rattle.std.specs.Prelude.{option_map}
use Rattle.std.specs.Option.{ok_or}
use Rattle.rc_base.specs.Faults.{◌>>=◌}
use Rattle.path_names.specs.Domains.{IsWithin}
use Rattle.path_names.specs.Interned.{Keeps}
use Rattle.path_names.specs.Reading.{path_of}
use Rattle.path_names.specs.ShortNames.{AreShort, component_ids}
use Rattle.path_names.proofs.laws.NamedDomains.{IsWithin-path_of}
use Rattle.path_names.proofs.laws.ShortNames.{Keeps-path_of, AreShort-path_of}
use Rattle.script_ops.specs.declared.limits.TheConstants.{MOST_PATH_BYTES}
use Rattle.script_lines.specs.declared.fault.LineFault.TheVariants.{BadArgument, BadPath, TooLarge}
use Rattle.script_lines.specs.Arguments.{only}
use Rattle.line_words.specs.Lines.{words}
use Rattle.script_text.specs.Meaning.{named_in, path_alone}
use Rattle.script_lines.specs.Paths.{Named, named}
use Rattle.script_text.specs.States.{ReaderState}

-- the names that were known are kept, and those of the path's components are short
abbrev pub AddsShort : List (List ℕ) → Named → Type 0
AddsShort names p = Keeps names p.1 × AreShort p.1 (component_ids p.0)

-- a word that names a path
pub AddsShort-named : (domains : ℕ) (names : List (List ℕ)) (word : List ℕ) (p : Named) → named domains names word ≡ Some (Some p) → AddsShort names p
AddsShort-named domains names word p read = at (ltb MOST_PATH_BYTES (length word)) (path_of domains names word) refl read
  where
    at : (long : Bool) (found : Option Named) → path_of domains names word ≡ found → cond long (Some None) (option_map (λ q. Some q) found) ≡ Some (Some p) → AddsShort names p
    at true found is e = absurd cc
    at false None is e = absurd cc
    at false (Some q) is e =
        let same : path_of domains names word ≡ Some (p.0, p.1) = cc in
        (Keeps-path_of domains names word p.0 p.1 same, AreShort-path_of domains names word p.0 p.1 same)

-- a word that names a path, whose domain exists
IsWithin-named : (domains : ℕ) (names : List (List ℕ)) (word : List ℕ) (p : Named) → named domains names word ≡ Some (Some p) → IsWithin domains p.0
IsWithin-named domains names word p read = at (ltb MOST_PATH_BYTES (length word)) (path_of domains names word) refl read
  where
    at : (long : Bool) (found : Option Named) → path_of domains names word ≡ found → cond long (Some None) (option_map (λ q. Some q) found) ≡ Some (Some p) → IsWithin domains p.0
    at true found is e = absurd cc
    at false None is e = absurd cc
    at false (Some q) is e = let same : path_of domains names word ≡ Some (p.0, p.1) = cc in IsWithin-path_of domains names word p.0 p.1 same

-- a word that names a path: its domain exists, and its names are short
abbrev IsGood : ReaderState → Named → Type 0
IsGood s p = IsWithin s.machine.domains p.0 × AddsShort s.names p

-- the same of the only word of a line
pub path_of-path_alone : (s : ReaderState) (rest : List ℕ) (p : Named) → path_alone s rest ≡ Ok p → IsWithin s.machine.domains p.0 × AddsShort s.names p
unfolding path_alone
path_of-path_alone s rest p read = at (only (words rest)) read
  where
    found_at : (found : Option (Option Named)) → (found ≡ Some (Some p) → IsGood s p) → (ok_or found BadPath >>= λ f. ok_or f TooLarge) ≡ Ok p → IsGood s p
    found_at None good e = absurd cc
    found_at (Some None) good e = absurd cc
    found_at (Some (Some q)) good e = good cc

    at : (word : Option (List ℕ)) → (ok_or word BadArgument >>= λ w. ok_or (named_in s w) BadPath >>= λ f. ok_or f TooLarge) ≡ Ok p → IsGood s p
    at None e = absurd cc
    at (Some word) e = found_at (named_in s word) (λ is. (IsWithin-named s.machine.domains s.names word p is, AddsShort-named s.machine.domains s.names word p is)) e
