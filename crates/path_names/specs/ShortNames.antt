-- Names that are as short as the components of paths.
-- (For functions and proofs: no promise of the program stands on it.)
use Rattle.std.specs.Prelude.{ℕ, ◌≤◌, List, [], All, length, unwrap_or, slice_get}
use Rattle.path_names.specs.NamesIn.{path_ids}
use Rattle.path_names.specs.declared.components.TheConstants.{MOST_NAME_BYTES}
use Rattle.path_names.specs.declared.path_ref.PathRef.{PathRef}
use Rattle.path_names.specs.declared.path_ref.PathRef.TheVariants.{Nowhere}

-- the numbers of the names that are components of a path; a path that leads nowhere has none, for it is kept as one name
abbrev pub component_ids : PathRef → List ℕ
component_ids (Nowhere name) = []
component_ids path = path_ids path

-- the name of this number has at most as many bytes as a component
abbrev pub IsShortName : List (List ℕ) → ℕ → Type 0
IsShortName names id = length (unwrap_or (slice_get names id) []) ≤ MOST_NAME_BYTES

-- each of these names is short
abbrev pub AreShort : List (List ℕ) → List ℕ → Type 0
AreShort names ids = All (IsShortName names) ids
