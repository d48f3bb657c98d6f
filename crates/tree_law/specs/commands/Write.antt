-- write: by the file.
use Rattle.std.specs.Prelude.{ℕ, Bool, true, false, not, List, [], ◌∷◌, Option, None}
use Rattle.std.specs.Option.{option_map_or, option_or}
use Rattle.machine.specs.declared.parameters.Parameters.{Parameters}
use Rattle.path_names.specs.declared.files.FileKind.{FileKind}
use Rattle.path_names.specs.declared.files.FileKind.TheVariants.{Cpus, CpusList, Tasks, Schemata, Mode, MaxThreshold}
use Rattle.path_names.specs.declared.path_ref.PathRef.{PathRef}
use Rattle.path_names.specs.declared.path_ref.PathRef.TheVariants.{File}
use Rattle.rc_base.specs.declared.replies.Why.{Why}
use Rattle.rc_base.specs.declared.replies.Why.TheVariants.{NoSuchPath, OnlyRead}
use Rattle.tree_law.specs.Existing.{is_file}
use Rattle.tree_law.specs.Places.{control_at, group_at}
use Rattle.tree_law.specs.Refusals.{Refusal, first_of}
use Rattle.tree_law.specs.State.{State}
use Rattle.tree_law.specs.commands.Cpus as cpus
use Rattle.tree_law.specs.commands.Mode as mode
use Rattle.tree_law.specs.commands.Schemata as schemata
use Rattle.tree_law.specs.commands.Tasks as tasks
use Rattle.tree_law.specs.commands.Threshold as threshold
use Rattle.tree_law.specs.declared.follow.Follow.{Follow}

-- a file that can be written
abbrev pub is_written : FileKind → Bool
is_written Cpus = true
is_written CpusList = true
is_written Tasks = true
is_written Schemata = true
is_written Mode = true
is_written MaxThreshold = true
is_written kind = false

-- whether a path is a file that cannot be written
abbrev pub is_only_read : PathRef → Bool
is_only_read (File dir kind) = not (is_written kind)
is_only_read path = false

-- the reasons against a path, in the order in which they are tried
abbrev pub reasons : List Why
reasons = NoSuchPath ∷ OnlyRead ∷ []

-- whether this is against writing to a path
abbrev pub against : State → PathRef → Why → Bool
against s path NoSuchPath = not (is_file s path)
against s path OnlyRead = is_only_read path
against s path why = false

-- what is against a text, by the file, for the group that has the file
abbrev pub text_refusal : Parameters → State → PathRef → List ℕ → Option Refusal
text_refusal m s (File dir Cpus) text = option_map_or (λ g. cpus.refusal s g (cpus.mask_read m text)) (group_at s dir) None
text_refusal m s (File dir CpusList) text = option_map_or (λ g. cpus.refusal s g (cpus.list_read m text)) (group_at s dir) None
text_refusal m s (File dir Tasks) text = option_map_or (λ g. tasks.refusal s g text) (group_at s dir) None
text_refusal m s (File dir Schemata) text = option_map_or (λ g. schemata.refusal m s g (schemata.schemata_read m text)) (control_at s dir) None
text_refusal m s (File dir Mode) text = option_map_or (λ g. mode.refusal m s g text) (control_at s dir) None
text_refusal m s (File dir MaxThreshold) text = threshold.refusal m text
text_refusal m s path text = None

-- first what is against the path, and then what is against the text
unfoldable pub refusal : Parameters → State → PathRef → List ℕ → Option Refusal
refusal m s path text = option_or (first_of (against s path) reasons) (text_refusal m s path text)

-- the RMIDs that an accepted write frees
unfoldable pub freed : State → PathRef → List ℕ → List ℕ
freed s (File dir Mode) text = option_map_or (λ g. mode.freed g text) (control_at s dir) []
freed s path text = []

-- the state after an accepted write
unfoldable pub accepted : Parameters → State → PathRef → List ℕ → List ℕ → State
accepted m s (File dir Cpus) text looks = option_map_or (λ g. cpus.accepted s g (cpus.mask_read m text)) (group_at s dir) s
accepted m s (File dir CpusList) text looks = option_map_or (λ g. cpus.accepted s g (cpus.list_read m text)) (group_at s dir) s
accepted m s (File dir Tasks) text looks = option_map_or (λ g. tasks.kept s g text) (group_at s dir) s
accepted m s (File dir Schemata) text looks = option_map_or (λ g. schemata.accepted s g (schemata.schemata_read m text)) (control_at s dir) s
accepted m s (File dir Mode) text looks = option_map_or (λ g. mode.accepted m s g text looks) (control_at s dir) s
accepted m s (File dir MaxThreshold) text looks = threshold.accepted m s text
accepted m s path text looks = s

-- the state after a refused write: the tasks that had moved have moved
unfoldable pub refused : State → PathRef → List ℕ → State
refused s (File dir Tasks) text = option_map_or (λ g. tasks.kept s g text) (group_at s dir) s
refused s path text = s

-- what follows an accepted write
unfoldable pub after : Parameters → State → PathRef → List ℕ → List Follow
after m s (File dir Schemata) text = option_map_or (λ g. schemata.after m s g (schemata.schemata_read m text)) (control_at s dir) []
after m s (File dir Mode) text = option_map_or (λ g. mode.after m g text) (control_at s dir) []
after m s path text = []
