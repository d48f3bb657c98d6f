-- Writes to files of control groups.
-- (For functions and proofs: no promise of the program stands on it.)
use Rattle.std.specs.Prelude.{◌≡◌, ℕ, ◌<◌, ◌≤◌, Bool, true, false, not, ◌||◌, ◌==◌, List, length, Some, None}
use Rattle.std.specs.List.{list_all, list_any}
use Rattle.line_words.specs.Lines.{is_bad}
use Rattle.path_names.specs.Components.{is_component, is_slash}
use Rattle.path_names.specs.Interned.{number_of}
use Rattle.path_names.specs.PathTable.{entry_of}
use Rattle.path_names.specs.PathTexts.{name_in}
use Rattle.path_names.specs.declared.dirs.DirRef.{DirRef}
use Rattle.path_names.specs.declared.dirs.DirRef.TheVariants.{Ctrl, Root}
use Rattle.path_names.specs.declared.files.FileKind.{FileKind}
use Rattle.path_names.specs.declared.files.FileKind.TheVariants as kinds
use Rattle.path_names.specs.declared.names.NameId.{NameId}
use Rattle.path_names.specs.declared.path_ref.PathRef.TheVariants.{Dir, File}
use Rattle.script_ops.specs.Values.{ScriptValue, op_at}
use Rattle.script_ops.specs.declared.limits.TheConstants.{MOST_TEXT_BYTES}
use Rattle.script_ops.specs.declared.op.Op.{Op}
use Rattle.script_ops.specs.declared.op.Op.TheVariants.{Mkdir, Write}

-- whether the directory of a control group has a file of this kind
abbrev pub is_group_file : FileKind → Bool
is_group_file kinds.Cpus = true
is_group_file kinds.CpusList = true
is_group_file kinds.Mode = true
is_group_file kinds.Schemata = true
is_group_file kinds.Size = true
is_group_file kinds.Tasks = true
is_group_file kind = false

-- a byte that a written text may have: a newline, which is escaped, or any byte that a line may have
abbrev pub is_text_byte : ℕ → Bool
is_text_byte byte = (byte == 10) || not (is_bad byte)

-- The number is that of a name that a control group may have: it is one component, no fixed entry of the root, and found under this
-- number.
pub record IsGroupName (names : List (List ℕ)) (id : NameId) : Type 0 where
  pub component : is_component (name_in names id) ≡ true
  pub whole : list_any is_slash (name_in names id) ≡ false
  pub free : (domains : ℕ) → entry_of domains Root (name_in names id) ≡ None
  pub known : id.0 < length names
  pub numbered : number_of (name_in names id) names ≡ id.0

-- the directory of the default group, or of a group with such a name
abbrev pub IsGroupDir : List (List ℕ) → DirRef → Type 0
IsGroupDir names Root = Unit {0}
IsGroupDir names (Ctrl id) = IsGroupName names id
IsGroupDir names dir = ⊥

-- the directory of the default group, or of a group that a command of the script makes
abbrev pub IsMadeDir : ScriptValue → DirRef → Type 0
IsMadeDir script Root = Unit {0}
IsMadeDir script (Ctrl id) = (thread : ℕ) × (op : ℕ) × (op_at script thread op ≡ Some (Mkdir (Dir (Ctrl id))))
IsMadeDir script dir = ⊥

-- A write to a file of such a directory, of a text that a line can have.
pub record IsGroupWrite (IsDir : DirRef → Type 0) (op : Op) : Type 0 where
  pub dir : DirRef
  pub kind : FileKind
  pub text : List ℕ
  pub is : op ≡ Write (File dir kind) text
  pub is_dir : IsDir dir
  pub has_file : is_group_file kind ≡ true
  pub bytes : list_all is_text_byte text ≡ true
  pub short : length text ≤ MOST_TEXT_BYTES
