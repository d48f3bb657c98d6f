-- What makes journals a run, clause by clause: each is said of any journals, and all ten together are a run.
use Rattle.std.specs.Prelude.{◌≡◌, ℕ, ◌<◌, ◌↔◌, true, false, IsSome, IsTrue, Some, filter, length}
use Rattle.cache_core.specs.History.{IsLegal}
use Rattle.cache_core.specs.declared.entry.SliceEntry.{SliceEntry}
use Rattle.machine.specs.Slices.{slice_count}
use Rattle.run_law.specs.Growth.{EntriesInOrder, MarksInOrder}
use Rattle.run_law.specs.Journals.{At, JournalsValue, slice_at}
use Rattle.run_law.specs.Looks.{AreMatched}
use Rattle.run_law.specs.Ops.{is_command}
use Rattle.run_law.specs.Order.{Makes}
use Rattle.run_law.specs.Runs.{IsRun}
use Rattle.run_law.specs.Slices.{shape_in}
use Rattle.run_law.specs.TreeHistory.{IsLegalTree, TreeEntryValue}
use Rattle.run_law.specs.Truth.{IsTrueAccess, IsTrueCommand, is_made_by, is_of_access, is_taken_from}
use Rattle.script_ops.specs.Values.{ScriptValue, op_at}
use Rattle.script_ops.specs.declared.op.Op.{Op}

-- each command of the script stands in the tree's history once
abbrev pub CommandsStandOnce : ScriptValue → JournalsValue → Type 0
CommandsStandOnce script j = (thread op : ℕ) (c : Op) → op_at script thread op ≡ Some c → IsTrue (is_command c) → length (filter (is_taken_from thread op) j.tree) ≡ 1

-- the tree's history is legal
abbrev pub TreeIsLegal : ScriptValue → JournalsValue → Type 0
TreeIsLegal script j = IsLegalTree script j.tree

-- each slice's history is legal
abbrev pub SlicesAreLegal : ScriptValue → JournalsValue → Type 0
SlicesAreLegal script j = (i : ℕ) → i < slice_count script.machine → IsLegal (shape_in script.machine i) (slice_at j i)

-- the entry of an access is true to it
abbrev pub AccessesAreTrue : ScriptValue → JournalsValue → Type 0
AccessesAreTrue script j = (i p : ℕ) (e : SliceEntry) (op : Op) → At (slice_at j i) p e → op_at script e.thread e.op ≡ Some op → is_of_access op e.what ≡ true → IsTrueAccess script j.tree e op

-- every other entry of an op of the script is true to a command
abbrev pub OthersAreTrue : ScriptValue → JournalsValue → Type 0
OthersAreTrue script j = (i p : ℕ) (e : SliceEntry) (op : Op) → At (slice_at j i) p e → op_at script e.thread e.op ≡ Some op → is_of_access op e.what ≡ false → IsTrueCommand script j.tree i e op

-- an entry of an op of the script stands after all entries of other commands before its epoch; one of no op is passed over
abbrev pub StandAfterCommands : ScriptValue → JournalsValue → Type 0
StandAfterCommands script j =
    (i p q k : ℕ) (e earlier : SliceEntry) (command : TreeEntryValue)
    → At (slice_at j i) p e → At (slice_at j i) q earlier → At j.tree k command → IsSome (op_at script e.thread e.op)
    → IsTrue (is_made_by command.thread command.op earlier) → k < e.epoch → (IsTrue (is_made_by command.thread command.op e) → ⊥)
    → q < p

-- in each slice the entries of an op are those that it makes there, and no others stand there
pub record EntriesStandOnce (script : ScriptValue) (j : JournalsValue) : Type 0 where
  pub each : (i thread op : ℕ) (c : Op) → i < slice_count script.machine → op_at script thread op ≡ Some c → Makes script j i thread op c (filter (is_made_by thread op) (slice_at j i))
  pub no_others : (i p : ℕ) (e : SliceEntry) → At (slice_at j i) p e → IsSome (op_at script e.thread e.op)

-- (For proofs.) the ten clauses
pub record MeetsClauses (script : ScriptValue) (j : JournalsValue) : Type 0 where
  pub commands_once : CommandsStandOnce script j
  pub tree_legal : TreeIsLegal script j
  pub slices_legal : SlicesAreLegal script j
  pub accesses_true : AccessesAreTrue script j
  pub others_true : OthersAreTrue script j
  pub after_commands : StandAfterCommands script j
  pub looks_matched : AreMatched script j
  pub entries_once : EntriesStandOnce script j
  pub marks : MarksInOrder script j
  pub entries_in_order : EntriesInOrder script j

-- (For proofs.) Journals that have a list for each slice are a run exactly where they meet all clauses.
abbrev pub RunsByClauses : Type 0
RunsByClauses = (script : ScriptValue) (j : JournalsValue) → length j.slices ≡ slice_count script.machine → IsRun script j ↔ MeetsClauses script j
