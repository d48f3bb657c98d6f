-- Paths whose domain exists.
-- (For functions and proofs: no promise of the program stands on it.)
use Rattle.std.specs.Prelude.{ℕ, ◌<◌}
use Rattle.path_names.specs.declared.dirs.DirRef.{DirRef}
use Rattle.path_names.specs.declared.dirs.DirRef.TheVariants.{MonDomain}
use Rattle.path_names.specs.declared.path_ref.PathRef.{PathRef}
use Rattle.path_names.specs.declared.path_ref.PathRef.TheVariants.{Dir, File, Free, Nowhere}

-- the directory is one of a machine with `domains` domains: if it is of a domain, the machine has that
abbrev pub IsDirWithin : ℕ → DirRef → Type 0
IsDirWithin domains (MonDomain holder domain) = domain < domains
IsDirWithin domains dir = Unit {0}

-- the same of a path, by its directory or by the one that holds it
abbrev pub IsWithin : ℕ → PathRef → Type 0
IsWithin domains (Dir dir) = IsDirWithin domains dir
IsWithin domains (File dir kind) = IsDirWithin domains dir
IsWithin domains (Free dir name) = IsDirWithin domains dir
IsWithin domains (Nowhere name) = Unit {0}
