-- What a path names.
use Rattle.std.specs.Prelude.{ℕ, List, Option, Some, None, fold, option_map}
use Rattle.path_names.specs.declared.dirs.DirRef.{DirRef}
use Rattle.path_names.specs.declared.dirs.DirRef.TheVariants.{Root}
use Rattle.path_names.specs.declared.path_ref.PathRef.{PathRef}
use Rattle.path_names.specs.declared.path_ref.PathRef.TheVariants.{Dir, File, Free, Nowhere}
use Rattle.path_names.specs.Components.{components_of}
use Rattle.path_names.specs.Interned.{id_of, interned}
use Rattle.path_names.specs.PathTable.{entry_of, named}

-- what a path names, or nothing below a file or a free name, and the names that are known then
abbrev pub Reached : Type 0
Reached = Option PathRef × List (List ℕ)

-- the fixed entry, or else what the name stands for, and then the name is known
abbrev pub entry_or_named : Option PathRef → DirRef → List ℕ → List (List ℕ) → Reached
entry_or_named (Some path) dir name names = (Some path, names)
entry_or_named None dir name names = (Some (named dir (id_of name names)), interned name names)

-- where a component leads from here: from a directory on, and from anything else to nothing
abbrev pub led : ℕ → Option PathRef → List (List ℕ) → List ℕ → Reached
led domains (Some (Dir dir)) names name = entry_or_named (entry_of domains dir name) dir name names
led domains (Some (File dir kind)) names name = (None, names)
led domains (Some (Free dir free)) names name = (None, names)
led domains (Some (Nowhere whole)) names name = (None, names)
led domains None names name = (None, names)

-- where the components lead from here
abbrev pub reached_from : ℕ → Reached → List (List ℕ) → Reached
reached_from domains start parts = fold (λ (at : Reached) name. led domains at.0 at.1 name) start parts

-- where they lead from the root
abbrev pub reached : ℕ → List (List ℕ) → List (List ℕ) → Reached
reached domains names parts = reached_from domains (Some (Dir Root), names) parts

-- what was reached, where a path that leads to nothing is kept whole, as one name
abbrev pub or_nowhere : List ℕ → Reached → PathRef × List (List ℕ)
or_nowhere text (Some path, names) = (path, names)
or_nowhere text (None, names) = (Nowhere (id_of text names), interned text names)

-- what a text names, and the names that are known then; nothing where it is no path
abbrev pub path_of : ℕ → List (List ℕ) → List ℕ → Option (PathRef × List (List ℕ))
path_of domains names text = option_map (λ parts. or_nowhere text (reached domains names parts)) (components_of text)
