-- The lines of commands in a report of a pair script.
use Rattle.std.specs.Prelude.{ℕ, ◌+◌, Bool, if◌then◌else◌, List, [], ◌∷◌, ◌++◌, codes, decimal}
use Rattle.pair_law.specs.State.{PairState, opening}
use Rattle.pair_law.specs.Steps.{next}
use Rattle.pair_law.specs.Texts.{text_of}
use Rattle.pair_text.specs.Values.{Machines, PairScriptValue, commands_of}
use Rattle.pair_text.specs.declared.op.PairOp.{PairOp}
use Rattle.pair_text.specs.declared.op.PairOp.TheVariants as ops
use Rattle.pair_report.specs.PairOpTexts.{command_text}
use Rattle.rc_base.specs.declared.replies.Reply.{Reply}
use Rattle.rc_base.specs.declared.replies.Reply.TheVariants as replies
use Rattle.report_pieces.specs.Pieces.{barred, reply_text}

-- what an accepted read gives in a state, line by line; no other command gives something
abbrev pub given_lines : Machines → PairState → PairOp → Reply → List ℕ
given_lines m s (ops.Read file) replies.Ok = barred (text_of m s file)
given_lines m s op reply = []

-- `K OP: RESULT`: the position of the command, the command, and its result; after it what it gave
unfoldable pub command_line : Machines → PairState → ℕ → PairOp → Reply → List ℕ
command_line m s k op reply = decimal k ++ codes " " ++ command_text op ++ codes ": " ++ reply_text reply ++ codes "\n" ++ given_lines m s op reply

-- the lines of these commands with their replies, numbered from k, from a state on
abbrev pub command_lines : Machines → PairState → ℕ → List PairOp → List Reply → List ℕ
command_lines m s k [] replies = []
command_lines m s k (op ∷ ops) [] = []
command_lines m s k (op ∷ ops) (reply ∷ replies) = command_line m s k op reply ++ command_lines m (next m s op).state (k + 1) ops replies

-- the lines of the commands of a script, but not of a quiet report
abbrev pub commands_part : PairScriptValue → List Reply → Bool → List ℕ
commands_part script replies quiet = if quiet then [] else command_lines script.machines (opening script.machines script.tasks) 0 (commands_of script) replies
