-- Runs of which no command asks that a group be exclusive.
-- (For functions and proofs: no promise of the program stands on it.)
use Rattle.std.specs.Prelude.{ℕ, Bool, false, List}
use Rattle.std.specs.Option.{option_map_or}
use Rattle.num_text.specs.Blanks.{trim}
use Rattle.path_names.specs.declared.files.FileKind.TheVariants.{Mode}
use Rattle.path_names.specs.declared.path_ref.PathRef.{PathRef}
use Rattle.path_names.specs.declared.path_ref.PathRef.TheVariants.{File}
use Rattle.rc_base.specs.declared.names.Mode.TheVariants.{Exclusive}
use Rattle.run_law.specs.TreeHistory.{TreeEntryValue}
use Rattle.script_ops.specs.Values.{ScriptValue, op_at}
use Rattle.script_ops.specs.declared.op.Op.{Op}
use Rattle.script_ops.specs.declared.op.Op.TheVariants as ops
use Rattle.tree_law.specs.commands.Mode.{is_named}

-- whether a text that is written to a file asks for the mode exclusive
abbrev pub is_exclusive_text : PathRef → List ℕ → Bool
is_exclusive_text (File dir Mode) text = is_named (trim text) Exclusive
is_exclusive_text path text = false

-- whether a command asks that a group be exclusive
abbrev pub asks_exclusive : Op → Bool
asks_exclusive (ops.Write path text) = is_exclusive_text path text
asks_exclusive op = false

-- whether a command of a run does
abbrev pub asks_in : ScriptValue → TreeEntryValue → Bool
asks_in script h = option_map_or asks_exclusive (op_at script h.thread h.op) false
