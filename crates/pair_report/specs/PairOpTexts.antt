-- The canonical texts of the commands of a pair script: the words with one space between.
use Rattle.std.specs.Prelude.{ℕ, List, [], ◌++◌, codes, Option, Some, None}
use Rattle.pair_text.specs.declared.file.PairFile.{PairFile}
use Rattle.pair_text.specs.declared.op.PairOp.{PairOp}
use Rattle.pair_text.specs.declared.op.PairOp.TheVariants as ops
use Rattle.path_names.specs.PathTable.{file_name}
use Rattle.script_ops.specs.Canonical.{text_after}

-- the directory of a group, as it stands in front of a slash: that of the default group, the root, is empty there
abbrev pub group_prefix : Option (List ℕ) → List ℕ
group_prefix None = []
group_prefix (Some name) = codes "/" ++ name

-- the path of a file
abbrev pub file_path : PairFile → List ℕ
file_path file = group_prefix file.group ++ codes "/" ++ file_name file.kind

-- a command, as a line of a script may say it; a use of a line is none
abbrev pub command_text : PairOp → List ℕ
command_text (ops.Mkdir name) = codes "mkdir /" ++ name
command_text (ops.Rmdir name) = codes "rmdir /" ++ name
command_text (ops.Write file text) = codes "write " ++ file_path file ++ text_after text
command_text (ops.Read file) = codes "read " ++ file_path file
command_text ops.Flush = codes "flush"
command_text (ops.Use task cpu line code) = []
