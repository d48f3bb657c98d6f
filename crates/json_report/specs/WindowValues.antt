-- The values of windows of isolation.
use Rattle.std.specs.Prelude.{ℕ, Bool, if◌then◌else◌, List, [], ◌∷◌, ◌++◌, codes, map}
use Rattle.json_report.specs.Values.{array_of, object_of, whole}
use Rattle.run_counts.specs.declared.window.Window.{Window}
use Rattle.serde_json.specs.Data.{Data}

-- the members of a window after `accesses`, up to `from`
abbrev pub more_members : Window → List (List ℕ × Data)
more_members w =
    (codes "covered", whole w.covered)
    ∷ (codes "covered_hits", whole w.covered_hits)
    ∷ (codes "domain", whole w.domain)
    ∷ (codes "from", whole w.from)
    ∷ []

-- the members of a window up to `from`
abbrev pub first_members : Window → List (List ℕ × Data)
first_members w = (codes "accesses", whole w.accesses) ∷ more_members w

-- the members of a window after `from`
abbrev pub last_members : Window → List (List ℕ × Data)
last_members w =
    (codes "gid", whole w.gid.0)
    ∷ (codes "hits", whole w.hits)
    ∷ (codes "private", whole w.private)
    ∷ (codes "slice", whole w.slice)
    ∷ (codes "ways", whole w.ways)
    ∷ []

-- a window as an object: where it is, and what is counted in it
unfoldable pub window_value : Window → Data
window_value w = object_of (first_members w ++ last_members w)

-- these windows, where they are asked for
abbrev pub windows_part : Bool → List Window → List (List ℕ × Data)
windows_part asked windows = if asked then (codes "windows", array_of (map window_value windows)) ∷ [] else []
