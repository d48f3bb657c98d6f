-- The texts of files, and what a read or a list shows.
use Rattle.std.specs.Prelude.{ℕ, Bool, true, false, List, []}
use Rattle.std.specs.Option.{option_map_or}
use Rattle.file_view.specs.GroupFiles.{cpus_list_text, cpus_text, mode_text, schemata_text, size_text, tasks_text}
use Rattle.file_view.specs.Listings.{list_text}
use Rattle.file_view.specs.MachineFiles.{bit_usage_text, cbm_mask_text, flag_line, mask_line, mon_features_text, number_line, occupancy_text, status_text}
use Rattle.group_tree.specs.declared.group.Group.{Group}
use Rattle.machine.specs.declared.parameters.Parameters.{Parameters}
use Rattle.path_names.specs.declared.dirs.DirRef.{DirRef}
use Rattle.path_names.specs.declared.files.FileKind.{FileKind}
use Rattle.path_names.specs.declared.files.FileKind.TheVariants.{Cpus, CpusList, Tasks, Schemata, Mode, Size, Occupancy, LastStatus, NumClosids, CbmMask, MinCbmBits, ShareableBits, BitUsage, SparseMasks, NumRmids, MonFeatures, MaxThreshold}
use Rattle.path_names.specs.declared.path_ref.PathRef.{PathRef}
use Rattle.path_names.specs.declared.path_ref.PathRef.TheVariants.{Dir, File}
use Rattle.script_ops.specs.declared.op.Op.{Op}
use Rattle.script_ops.specs.declared.op.Op.TheVariants as ops
use Rattle.tree_law.specs.Places.{group_at}
use Rattle.tree_law.specs.State.{State}

-- a text of the group whose directory this is
abbrev pub of_group : State → DirRef → (Group → List ℕ) → List ℕ
of_group s dir text = option_map_or text (group_at s dir) []

-- the text of a file of this kind in a directory, by the counts of lines that its read was given
unfoldable pub file_text : Parameters → State → DirRef → List ℕ → FileKind → List ℕ
file_text m s dir looks Cpus = of_group s dir (cpus_text m s)
file_text m s dir looks CpusList = of_group s dir (cpus_list_text m s)
file_text m s dir looks Tasks = of_group s dir (tasks_text s)
file_text m s dir looks Schemata = of_group s dir (schemata_text m s)
file_text m s dir looks Mode = of_group s dir mode_text
file_text m s dir looks Size = of_group s dir (size_text m s)
file_text m s dir looks Occupancy = occupancy_text looks
file_text m s dir looks LastStatus = status_text s
file_text m s dir looks NumClosids = number_line m.classes
file_text m s dir looks CbmMask = cbm_mask_text m
file_text m s dir looks MinCbmBits = number_line m.min
file_text m s dir looks ShareableBits = mask_line m.shareable
file_text m s dir looks BitUsage = bit_usage_text m s
file_text m s dir looks SparseMasks = flag_line m.sparse
file_text m s dir looks NumRmids = number_line m.rmids
file_text m s dir looks MonFeatures = mon_features_text
file_text m s dir looks MaxThreshold = number_line s.threshold

-- the text of a file, by its path
abbrev pub read_text : Parameters → State → List ℕ → PathRef → List ℕ
read_text m s looks (File dir kind) = file_text m s dir looks kind
read_text m s looks path = []

-- the listing of a directory, by its path
abbrev pub listed_text : Parameters → State → List (List ℕ) → PathRef → List ℕ
listed_text m s names (Dir dir) = list_text m s names dir
listed_text m s names path = []

-- whether an op gives a text: a read and a list do
abbrev pub is_reading : Op → Bool
is_reading (ops.Read path) = true
is_reading (ops.List path) = true
is_reading op = false

-- the text that an accepted read or list gives, with the names of paths and the counts that it was given; no other op gives one
unfoldable pub text_of : Parameters → State → List (List ℕ) → Op → List ℕ → List ℕ
text_of m s names (ops.Read path) looks = read_text m s looks path
text_of m s names (ops.List path) looks = listed_text m s names path
text_of m s names op looks = []
