-- What an entry of a slice is.
use Rattle.std.specs.Prelude.{ℕ, Bool, false, true, ◌==◌}
use Rattle.cache_core.specs.declared.entry.What.{What}
use Rattle.cache_core.specs.declared.entry.What.TheVariants.{Access}

-- an access
abbrev pub is_access : What → Bool
is_access (Access hit way owner rmid mask line) = true
is_access what = false

-- an access of this group
abbrev pub is_access_of : ℕ → What → Bool
is_access_of gid (Access hit way owner rmid mask line) = owner.0 == gid
is_access_of gid what = false

-- a hit
abbrev pub is_hit : What → Bool
is_hit (Access hit way owner rmid mask line) = hit
is_hit what = false
