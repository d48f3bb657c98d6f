-- The lines of windows of isolation in a report.
use Rattle.std.specs.Prelude.{ℕ, Bool, if◌then◌else◌, List, [], ◌++◌, codes, decimal}
use Rattle.std.specs.List.{flat_map}
use Rattle.run_counts.specs.declared.window.Window.{Window}

-- where a window is: `window D.X group G ways W from P: `
abbrev pub window_place : Window → List ℕ
window_place w =
    codes "window " ++ decimal w.domain ++ codes "." ++ decimal w.slice ++ codes " group " ++ decimal w.gid.0 ++ codes " ways " ++ decimal w.ways
    ++ codes " from " ++ decimal w.from ++ codes ": "

-- what is counted in it: `accesses A hits H covered C hits V private Q`
abbrev pub window_counts : Window → List ℕ
window_counts w =
    codes "accesses " ++ decimal w.accesses ++ codes " hits " ++ decimal w.hits ++ codes " covered " ++ decimal w.covered
    ++ codes " hits " ++ decimal w.covered_hits ++ codes " private " ++ decimal w.private

-- `window D.X group G ways W from P: accesses A hits H covered C hits V private Q`
unfoldable pub window_line : Window → List ℕ
window_line w = window_place w ++ window_counts w ++ codes "\n"

-- the lines of these windows, where they are asked for
abbrev pub windows_part : Bool → List Window → List ℕ
windows_part asked windows = if asked then flat_map window_line windows else []
