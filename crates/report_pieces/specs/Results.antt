-- What is said of the op of an entry: its words and its result.
use Rattle.std.specs.Prelude.{ℕ, if◌then◌else◌, List, [], ◌++◌, codes, Bool, Option, Some, None}
use Rattle.rc_base.specs.declared.replies.Reply.{Reply}
use Rattle.rc_base.specs.declared.replies.Reply.TheVariants as replies
use Rattle.report_pieces.specs.Pieces.{reply_text}
use Rattle.run_counts.specs.Touches.{accesses_by, first_hit}
use Rattle.run_law.specs.Journals.{JournalsValue}
use Rattle.run_law.specs.TreeHistory.{TreeEntryValue}
use Rattle.script_ops.specs.Canonical.{op_text}
use Rattle.script_ops.specs.Values.{ScriptValue, op_at}
use Rattle.script_ops.specs.declared.op.Op.{Op}
use Rattle.script_ops.specs.declared.op.Op.TheVariants as ops

-- ` hit` or ` miss`, where there was an access
abbrev pub hit_text : Option Bool → List ℕ
hit_text None = []
hit_text (Some hit) = if hit then codes " hit" else codes " miss"

-- the result of an op: its reply, and for an accepted touch whether its access hit
abbrev pub result_text : JournalsValue → ℕ → ℕ → Op → Reply → List ℕ
result_text j thread number (ops.Touch cpu path task offset) replies.Ok = codes "ok" ++ hit_text (first_hit (accesses_by j thread number))
result_text j thread number op reply = reply_text reply

-- the result of an entry, by its op, where the op is there
abbrev pub result_by : JournalsValue → TreeEntryValue → Option Op → List ℕ
result_by j h None = reply_text h.reply
result_by j h (Some op) = result_text j h.thread h.op op h.reply

-- the result of an entry: its reply, and for an accepted touch whether its access hit
abbrev pub result_of : ScriptValue → JournalsValue → TreeEntryValue → List ℕ
result_of script j h = result_by j h (op_at script h.thread h.op)

-- the canonical text of an op, where it is there
abbrev pub words_by : List (List ℕ) → Option Op → List ℕ
words_by names None = []
words_by names (Some op) = op_text names op

-- the words of an entry's op
abbrev pub words_of : ScriptValue → TreeEntryValue → List ℕ
words_of script h = words_by script.names (op_at script h.thread h.op)
