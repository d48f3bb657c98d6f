-- The directories and their fixed entries, and where groups stand.
use Rattle.std.specs.Prelude.{ℕ, ◌+◌, ◌/◌, ◌%◌, List, [], ◌∷◌, ◌++◌, Option, map, codes}
use Rattle.std.specs.List.{range_with_len}
use Rattle.std.specs.Map.{lookup}
use Rattle.path_names.specs.declared.names.NameId.{NameId}
use Rattle.path_names.specs.declared.dirs.DirRef.{DirRef}
use Rattle.path_names.specs.declared.dirs.DirRef.TheVariants.{Root, Info, InfoL3, InfoL3Mon, Ctrl, MonGroups, Mon, MonData, MonDomain}
use Rattle.path_names.specs.declared.dirs.Holder.{Holder}
use Rattle.path_names.specs.declared.dirs.Holder.TheVariants.{Control, Monitor}
use Rattle.path_names.specs.declared.dirs.Owner.{Owner}
use Rattle.path_names.specs.declared.dirs.Owner.TheVariants.{Default as TheDefault, Ctrl as Named}
use Rattle.path_names.specs.declared.files.FileKind.{FileKind}
use Rattle.path_names.specs.declared.files.FileKind.TheVariants.{Cpus, CpusList, Tasks, Schemata, Mode, Size, Occupancy, LastStatus, NumClosids, CbmMask, MinCbmBits, ShareableBits, BitUsage, SparseMasks, NumRmids, MonFeatures, MaxThreshold}
use Rattle.path_names.specs.declared.fixed.FixedEntry.{FixedEntry}
use Rattle.path_names.specs.declared.fixed.FixedEntry.TheVariants as fixed
use Rattle.path_names.specs.declared.path_ref.PathRef.{PathRef}
use Rattle.path_names.specs.declared.path_ref.PathRef.TheVariants.{Dir, File, Free}
use Rattle.rc_base.specs.Texts.{is_text}

-- the name of a file, by its kind
abbrev pub file_name : FileKind → List ℕ
file_name Cpus = codes "cpus"
file_name CpusList = codes "cpus_list"
file_name Tasks = codes "tasks"
file_name Schemata = codes "schemata"
file_name Mode = codes "mode"
file_name Size = codes "size"
file_name Occupancy = codes "llc_occupancy"
file_name LastStatus = codes "last_cmd_status"
file_name NumClosids = codes "num_closids"
file_name CbmMask = codes "cbm_mask"
file_name MinCbmBits = codes "min_cbm_bits"
file_name ShareableBits = codes "shareable_bits"
file_name BitUsage = codes "bit_usage"
file_name SparseMasks = codes "sparse_masks"
file_name NumRmids = codes "num_rmids"
file_name MonFeatures = codes "mon_features"
file_name MaxThreshold = codes "max_threshold_occupancy"

-- an entry of a directory: its name, and what it is
abbrev pub Entry : Type 0
Entry = List ℕ × PathRef

-- the name of a domain's directory: its number has two digits
abbrev pub domain_name : ℕ → List ℕ
domain_name domain = codes "mon_L3_" ++ (48 + domain / 10) ∷ (48 + domain % 10) ∷ []

-- the entry of a domain
abbrev pub domain_entry : Holder → ℕ → Entry
domain_entry holder domain = (domain_name domain, Dir (MonDomain holder domain))

-- the group of a directory; the default group where it is no other group's
abbrev pub holder_at : DirRef → Holder
holder_at (Ctrl name) = Control (Named name)
holder_at (Mon owner name) = Monitor owner name
holder_at dir = Control TheDefault

-- the control group of a directory; the default group where it is no other control group's
abbrev pub owner_at : DirRef → Owner
owner_at (Ctrl name) = Named name
owner_at dir = TheDefault

-- the name of a fixed entry
abbrev pub fixed_name : FixedEntry → List ℕ
fixed_name (fixed.File kind) = file_name kind
fixed_name fixed.Info = codes "info"
fixed_name fixed.InfoL3 = codes "L3"
fixed_name fixed.InfoL3Mon = codes "L3_MON"
fixed_name fixed.MonData = codes "mon_data"
fixed_name fixed.MonGroups = codes "mon_groups"

-- what a fixed entry is in its directory
abbrev pub fixed_path : DirRef → FixedEntry → PathRef
fixed_path dir (fixed.File kind) = File dir kind
fixed_path dir fixed.Info = Dir Info
fixed_path dir fixed.InfoL3 = Dir InfoL3
fixed_path dir fixed.InfoL3Mon = Dir InfoL3Mon
fixed_path dir fixed.MonData = Dir (MonData (holder_at dir))
fixed_path dir fixed.MonGroups = Dir (MonGroups (owner_at dir))

-- the fixed entries of a directory, but for the domains of `mon_data`, in the order in which they are listed
abbrev pub fixed_in : DirRef → List FixedEntry
fixed_in Root = fixed.File Cpus ∷ fixed.File CpusList ∷ fixed.Info ∷ fixed.File Mode ∷ fixed.MonData ∷ fixed.MonGroups ∷ fixed.File Schemata ∷ fixed.File Size ∷ fixed.File Tasks ∷ []
fixed_in (Ctrl name) = fixed.File Cpus ∷ fixed.File CpusList ∷ fixed.File Mode ∷ fixed.MonData ∷ fixed.MonGroups ∷ fixed.File Schemata ∷ fixed.File Size ∷ fixed.File Tasks ∷ []
fixed_in (Mon owner name) = fixed.File Cpus ∷ fixed.File CpusList ∷ fixed.MonData ∷ fixed.File Tasks ∷ []
fixed_in (MonGroups owner) = []
fixed_in (MonData holder) = []
fixed_in (MonDomain holder domain) = fixed.File Occupancy ∷ []
fixed_in Info = fixed.InfoL3 ∷ fixed.InfoL3Mon ∷ fixed.File LastStatus ∷ []
fixed_in InfoL3 = fixed.File BitUsage ∷ fixed.File CbmMask ∷ fixed.File MinCbmBits ∷ fixed.File NumClosids ∷ fixed.File ShareableBits ∷ fixed.File SparseMasks ∷ []
fixed_in InfoL3Mon = fixed.File MaxThreshold ∷ fixed.File MonFeatures ∷ fixed.File NumRmids ∷ []

-- a fixed entry of a directory, with its name
abbrev pub entry_in : DirRef → FixedEntry → Entry
entry_in dir entry = (fixed_name entry, fixed_path dir entry)

-- all fixed entries of a directory, on a machine with so many domains, in the order in which they are listed
abbrev pub fixed_entries : ℕ → DirRef → List Entry
fixed_entries domains (MonData holder) = map (domain_entry holder) (range_with_len 0 domains)
fixed_entries domains dir = map (entry_in dir) (fixed_in dir)

-- the entry of this name among these of a directory
abbrev pub entry_among : DirRef → List ℕ → List FixedEntry → Option PathRef
entry_among dir name entries = lookup (λ known. is_text name known) (map (entry_in dir) entries)

-- the fixed entry of this name
unfoldable pub entry_of : ℕ → DirRef → List ℕ → Option PathRef
entry_of domains dir name = lookup (λ fixed. is_text name fixed) (fixed_entries domains dir)

-- what a name that is no fixed entry stands for: a group where the directory holds groups, and else nothing
abbrev pub named : DirRef → NameId → PathRef
named Root name = Dir (Ctrl name)
named (MonGroups owner) name = Dir (Mon owner name)
named dir name = Free dir name
