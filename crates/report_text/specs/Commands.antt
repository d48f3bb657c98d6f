-- The lines of commands in a report.
use Rattle.std.specs.Prelude.{ℕ, ◌+◌, List, [], ◌∷◌, ◌++◌, codes, decimal, Option, Some, None}
use Rattle.report_pieces.specs.Pieces.{barred}
use Rattle.report_pieces.specs.Results.{result_of, words_of}
use Rattle.run_law.specs.Journals.{JournalsValue}
use Rattle.run_law.specs.TreeHistory.{TreeEntryValue, state_after}
use Rattle.run_replay.specs.Playbacks.{given}
use Rattle.script_ops.specs.Values.{ScriptValue, op_at}
use Rattle.tree_law.specs.State.{State}

-- what an accepted read or list gave, line by line
abbrev pub given_lines : Option (List ℕ) → List ℕ
given_lines None = []
given_lines (Some text) = barred text

-- `K T.O `: the position, the thread and the op's number
unfoldable pub command_place : ℕ → TreeEntryValue → List ℕ
command_place k h = decimal k ++ codes " " ++ decimal h.thread ++ codes "." ++ decimal h.op ++ codes " "

-- `K T.O OP: RESULT`: the same, the op, and the result; after it what it gave
unfoldable pub command_line : ScriptValue → JournalsValue → State → ℕ → TreeEntryValue → List ℕ
command_line script j s k h = command_place k h ++ words_of script h ++ codes ": " ++ result_of script j h ++ codes "\n" ++ given_lines (given script s h)

-- the lines of these commands, numbered from k, from a state of the tree on
abbrev pub command_lines : ScriptValue → JournalsValue → State → ℕ → List TreeEntryValue → List ℕ
command_lines script j s k [] = []
command_lines script j s k (h ∷ hs) =
    command_line script j s k h ++ command_lines script j (state_after script.machine s h.looks (op_at script h.thread h.op)) (k + 1) hs
