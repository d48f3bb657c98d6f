-- The values of commands.
use Rattle.std.specs.Prelude.{ℕ, ◌+◌, List, [], ◌∷◌, ◌++◌, codes, map, Option, Some, None}
use Rattle.std.specs.Str.Lines.{lines}
use Rattle.json_report.specs.Values.{array_of, object_of, whole}
use Rattle.report_pieces.specs.Results.{result_of, words_of}
use Rattle.run_replay.specs.Playbacks.{given}
use Rattle.run_law.specs.Journals.{JournalsValue}
use Rattle.run_law.specs.TreeHistory.{TreeEntryValue, state_after}
use Rattle.script_ops.specs.Values.{ScriptValue, op_at}
use Rattle.serde_json.specs.Data.{Data, string}
use Rattle.tree_law.specs.State.{State}

-- the lines of the text that an accepted read or list gave
abbrev pub text_member : Option (List ℕ) → List (List ℕ × Data)
text_member None = []
text_member (Some text) = (codes "text", array_of (map string (lines text))) ∷ []

-- the command at a position, in the state before it: the number of its op, its result, what it gave, its thread and its words
abbrev pub command_members : ScriptValue → JournalsValue → State → ℕ → TreeEntryValue → List (List ℕ × Data)
command_members script j s position h =
    (codes "at", whole position)
    ∷ (codes "op", whole h.op)
    ∷ (codes "result", string (result_of script j h))
    ∷ (text_member (given script s h)
    ++ (codes "thread", whole h.thread)
    ∷ (codes "words", string (words_of script h))
    ∷ [])

-- the command at a position, in the state before it, as an object
unfoldable pub command_value : ScriptValue → JournalsValue → State → ℕ → TreeEntryValue → Data
command_value script j s position h = object_of (command_members script j s position h)

-- these commands, numbered from a position, from a state of the tree on
abbrev pub command_values : ScriptValue → JournalsValue → State → ℕ → List TreeEntryValue → List Data
command_values script j s position [] = []
command_values script j s position (h ∷ hs) =
    command_value script j s position h ∷ command_values script j (state_after script.machine s h.looks (op_at script h.thread h.op)) (position + 1) hs
