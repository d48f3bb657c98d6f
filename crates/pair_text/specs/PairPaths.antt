-- The paths of a pair script: `/NAME`, and the files of the default group and of `/NAME`.
use Rattle.std.specs.Prelude.{◌≡◌, ℕ, nat_lt, List, [], ◌∷◌, length, codes, Option, Some, None, is_some, if◌then◌else◌}
use Rattle.std.specs.Borrow.{Bor}
use Rattle.std.specs.Option.{option_and_then, option_map}
use Rattle.rc_base.specs.Texts.{is_text}
use Rattle.pair_text.specs.declared.file.PairFile.{PairFile}
use Rattle.path_names.specs.Components.{components_of}
use Rattle.path_names.specs.PathTable.{entry_among, fixed_in}
use Rattle.path_names.specs.declared.dirs.DirRef.TheVariants.{Root}
use Rattle.path_names.specs.declared.files.FileKind.{FileKind}
use Rattle.path_names.specs.declared.files.FileKind.TheVariants.{Mode, Schemata, Tasks}
use Rattle.script_ops.specs.declared.limits.TheConstants.{MOST_PATH_BYTES}

-- a name that is no fixed entry of `/`
abbrev pub group_name : List ℕ → Option (List ℕ)
group_name name = if is_some (entry_among Root name (fixed_in Root)) then None else Some name

-- a file of a group
abbrev pub file_kind : List ℕ → Option FileKind
file_kind name =
    if is_text name (codes "schemata") then Some Schemata else
    if is_text name (codes "mode") then Some Mode else
    if is_text name (codes "tasks") then Some Tasks else None

-- the group that components name
abbrev pub group_at : List (List ℕ) → Option (List ℕ)
group_at (name ∷ []) = group_name name
group_at parts = None

-- the file that components name
abbrev pub file_at : List (List ℕ) → Option PairFile
file_at (file ∷ []) = option_map (λ kind. record { group = None; kind = kind }) (file_kind file)
file_at (name ∷ file ∷ []) = option_and_then (λ group. option_map (λ kind. record { group = Some group; kind = kind }) (file_kind file)) (group_name name)
file_at parts = None

-- What a word names: nothing where it is no such path. A word of more than 2,048 bytes is too long to say, and no bad path.
abbrev pub or_long : {A : Type 0} → (List (List ℕ) → Option A) → List ℕ → Option (Option A)
or_long at word = if nat_lt MOST_PATH_BYTES (length word) then Some None else option_map (λ a. Some a) (option_and_then at (components_of word))

-- (For proofs.) a function found this name
abbrev pub FindsName : Option (Bor (List ℕ)) → Option (List ℕ) → Type 0
FindsName None name = name ≡ None
FindsName (Some found) name = name ≡ Some found.now

-- (For proofs.) a function found this group
abbrev pub FindsGroup : Option (Option (Bor (List ℕ))) → Option (Option (List ℕ)) → Type 0
FindsGroup None name = name ≡ None
FindsGroup (Some None) name = name ≡ Some None
FindsGroup (Some (Some found)) name = name ≡ Some (Some found.now)

-- (For proofs.) the name of a group, as it was found
abbrev pub seen : Option (Bor (List ℕ)) → Option (List ℕ)
seen None = None
seen (Some found) = Some found.now

-- (For proofs.) the same without a test of its length
abbrev pub SeesFile : Option (Option (Bor (List ℕ)) × FileKind) → Option PairFile → Type 0
SeesFile None file = file ≡ None
SeesFile (Some (group, kind)) file = file ≡ Some (record { group = seen group; kind = kind })

-- (For proofs.) a function found this file
abbrev pub FindsFile : Option (Option (Option (Bor (List ℕ)) × FileKind)) → Option (Option PairFile) → Type 0
FindsFile None file = file ≡ None
FindsFile (Some None) file = file ≡ Some None
FindsFile (Some (Some (group, kind))) file = file ≡ Some (Some (record { group = seen group; kind = kind }))
