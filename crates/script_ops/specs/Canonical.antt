-- The canonical texts of ops: the words with one space between, and numbers in decimal.
use Rattle.std.specs.Prelude.{ℕ, ◌==◌, List, [], ◌∷◌, ◌++◌, All, codes, decimal, Some, None, if◌then◌else◌}
use Rattle.std.specs.List.{flat_map}
use Rattle.path_names.specs.NamesIn.{path_ids, AreKnown}
use Rattle.path_names.specs.PathTexts.{path_text}
use Rattle.path_names.specs.ShortNames.{AreShort, component_ids}
use Rattle.script_ops.specs.declared.op.Op.{Op}
use Rattle.script_ops.specs.declared.op.Op.TheVariants as ops

-- a byte of a written text: a newline is `\n`, and a backslash is two
abbrev pub escaped : ℕ → List ℕ
escaped byte = if byte == 10 then 92 ∷ 110 ∷ [] else (if byte == 92 then 92 ∷ 92 ∷ [] else byte ∷ [])

-- a written text after its path: nothing where it is empty
abbrev pub text_after : List ℕ → List ℕ
text_after [] = []
text_after (b ∷ bs) = 32 ∷ flat_map escaped (b ∷ bs)

-- an op, as a line of a script may say it
abbrev pub op_text : List (List ℕ) → Op → List ℕ
op_text names (ops.Mkdir path) = codes "mkdir " ++ path_text names path
op_text names (ops.Rmdir path) = codes "rmdir " ++ path_text names path
op_text names (ops.Write path text) = codes "write " ++ path_text names path ++ text_after text
op_text names (ops.Read path) = codes "read " ++ path_text names path
op_text names (ops.List path) = codes "list " ++ path_text names path
op_text names (ops.Flush None) = codes "flush"
op_text names (ops.Flush (Some domain)) = codes "flush " ++ decimal domain
op_text names ops.Tick = codes "tick"
op_text names (ops.Access task cpu addr) = codes "access " ++ decimal task ++ codes " " ++ decimal cpu ++ codes " " ++ decimal addr
op_text names (ops.Touch cpu path task offset) = codes "touch " ++ path_text names path ++ codes " " ++ decimal offset ++ codes " " ++ decimal task ++ codes " " ++ decimal cpu
op_text names (ops.DropLine addr) = codes "clflush " ++ decimal addr
op_text names (ops.DropRegion path offset) = codes "clflush " ++ path_text names path ++ codes " " ++ decimal offset

-- (For proofs.) the numbers of the names in an op
abbrev pub op_ids : Op → List ℕ
op_ids (ops.Mkdir path) = path_ids path
op_ids (ops.Rmdir path) = path_ids path
op_ids (ops.Write path text) = path_ids path
op_ids (ops.Read path) = path_ids path
op_ids (ops.List path) = path_ids path
op_ids (ops.Flush domain) = []
op_ids ops.Tick = []
op_ids (ops.Access task cpu addr) = []
op_ids (ops.Touch cpu path task offset) = path_ids path
op_ids (ops.DropLine addr) = []
op_ids (ops.DropRegion path offset) = path_ids path

-- (For proofs.) the numbers of the names that are components of the path in an op
abbrev pub op_component_ids : Op → List ℕ
op_component_ids (ops.Mkdir path) = component_ids path
op_component_ids (ops.Rmdir path) = component_ids path
op_component_ids (ops.Write path text) = component_ids path
op_component_ids (ops.Read path) = component_ids path
op_component_ids (ops.List path) = component_ids path
op_component_ids (ops.Flush domain) = []
op_component_ids ops.Tick = []
op_component_ids (ops.Access task cpu addr) = []
op_component_ids (ops.Touch cpu path task offset) = component_ids path
op_component_ids (ops.DropLine addr) = []
op_component_ids (ops.DropRegion path offset) = component_ids path

-- (For proofs.) an op whose components have short names
abbrev pub IsShort : List (List ℕ) → Op → Type 0
IsShort names op = AreShort names (op_component_ids op)

-- (For proofs.) ops whose components have short names
abbrev pub AreAllShort : List (List ℕ) → List Op → Type 0
AreAllShort names ops = All (IsShort names) ops

-- (For proofs.) an op whose names are known
abbrev pub IsNamed : ℕ → Op → Type 0
IsNamed count op = AreKnown count (op_ids op)

-- (For proofs.) ops whose names are known
abbrev pub AreNamed : ℕ → List Op → Type 0
AreNamed count ops = All (IsNamed count) ops
