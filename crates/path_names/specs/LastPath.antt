-- The path that was read last.
-- (For functions and proofs: no promise of the program stands on it.)
use Rattle.std.specs.Prelude.{◌≡◌, ℕ, List, length, Some, IfSome}
use Rattle.path_names.specs.declared.last_path.LastPath.{LastPath}
use Rattle.path_names.specs.declared.path_ref.PathRef.{PathRef}
use Rattle.path_names.specs.NamesIn.{AreKnown, path_ids}
use Rattle.path_names.specs.Reading.{path_of}

-- This text was read last, on a machine with so many domains, and names this path.
pub record IsOf (text : List ℕ) (domains : ℕ) (path : PathRef) (last : LastPath) : Type 0 where
  pub is_text : last.text.items ≡ text
  pub is_domains : last.domains ≡ domains
  pub is_path : last.path ≡ Some path

-- A text that is read among these names names this path, and adds no name.
pub record HasRead (names : List (List ℕ)) (domains : ℕ) (text : List ℕ) (path : PathRef) : Type 0 where
  pub reads : path_of domains names text ≡ Some (path, names)
  pub known : AreKnown (length names) (path_ids path)

-- What was read last is read so again.
abbrev pub IsReadAgain : List (List ℕ) → LastPath → Type 0
IsReadAgain names last = IfSome last.path (λ path. HasRead names last.domains last.text.items path)
