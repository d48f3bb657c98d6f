-- Paths in a line.
use Rattle.std.specs.Prelude.{◌≡◌, ℕ, nat_lt, List, length, Option, Some, None, Result, Ok, Err, if◌then◌else◌}
use Rattle.std.specs.Option.{option_map}
use Rattle.path_names.specs.declared.path_ref.PathRef.{PathRef}
use Rattle.path_names.specs.Reading.{path_of}
use Rattle.script_lines.specs.declared.fault.LineError.{LineError}
use Rattle.script_lines.specs.declared.fault.LineError.TheVariants as errors
use Rattle.script_lines.specs.declared.fault.LineFault.TheVariants.{BadPath}
use Rattle.script_ops.specs.declared.limits.TheConstants.{MOST_PATH_BYTES}

-- what a path names, and the names that are known then
abbrev pub Named : Type 0
Named = PathRef × List (List ℕ)

-- What a word names: nothing where it is no path. A word of more than 2,048 bytes is too long to say, and no bad path.
abbrev pub named : ℕ → List (List ℕ) → List ℕ → Option (Option Named)
named domains names word = if nat_lt MOST_PATH_BYTES (length word) then Some None else option_map (λ p. Some p) (path_of domains names word)

-- (For proofs.) The call found what a word names, or memory ran out. BadPath says that the word is no path.
abbrev pub Finds : Result (Option PathRef) LineError → List (List ℕ) → Option (Option Named) → Type 0
Finds (Ok None) after found = found ≡ Some None
Finds (Ok (Some path)) after found = found ≡ Some (Some (path, after))
Finds (Err errors.NoMemory) after found = Unit {0}
Finds (Err (errors.Fault f)) after found = (f ≡ BadPath) × (found ≡ None)
