-- Scripts of which no command asks that a group be exclusive.
-- (For functions and proofs: no promise of the program stands on it.)
use Rattle.std.specs.Prelude.{ℕ, Bool, false, List}
use Rattle.num_text.specs.Blanks.{trim}
use Rattle.pair_text.specs.declared.op.PairOp.{PairOp}
use Rattle.pair_text.specs.declared.op.PairOp.TheVariants as ops
use Rattle.path_names.specs.declared.files.FileKind.{FileKind}
use Rattle.path_names.specs.declared.files.FileKind.TheVariants.{Mode}
use Rattle.rc_base.specs.declared.names.Mode.TheVariants.{Exclusive}
use Rattle.tree_law.specs.commands.Mode.{is_named}

-- whether a text that is written to a file of this kind asks for the mode exclusive
abbrev pub is_exclusive_text : FileKind → List ℕ → Bool
is_exclusive_text Mode text = is_named (trim text) Exclusive
is_exclusive_text kind text = false

-- whether an op asks that a group be exclusive
abbrev pub asks_exclusive : PairOp → Bool
asks_exclusive (ops.Write file text) = is_exclusive_text file.kind text
asks_exclusive op = false
