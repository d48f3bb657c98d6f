-- Which journals have a text: there is a list for each slice, and each number is in its range.
use Rattle.std.specs.Prelude.{◌≡◌, ℕ, ◌^◌, ◌<◌, ◌≤◌, List, length, All, Option, Some, None, Ok}
use Rattle.cache_core.specs.declared.entry.SliceEntry.{SliceEntry}
use Rattle.cache_core.specs.declared.entry.What.{What}
use Rattle.cache_core.specs.declared.entry.What.TheVariants.{Access, Raise, Flush, Lock, Look, Drop}
use Rattle.cbm.specs.Validity.{checked}
use Rattle.machine.specs.Slices.{domain_in, slice_count, slice_of_line}
use Rattle.machine.specs.declared.parameters.Parameters.{Parameters}
use Rattle.rc_base.specs.Replies.{refused}
use Rattle.rc_base.specs.declared.replies.Reply.{Reply}
use Rattle.rc_base.specs.declared.replies.Reply.TheVariants as replies
use Rattle.run_law.specs.Journals.{At, JournalsValue}
use Rattle.run_law.specs.TreeHistory.{TreeEntryValue}
use Rattle.script_ops.specs.Values.{ScriptValue, total_weight}
use Rattle.tree_law.specs.Space.{geometry_of}

-- a mask that may be written in this machine: a number of 32 bits that is valid
abbrev pub IsMask : Parameters → ℕ → Type 0
IsMask m mask = (mask < 2 ^ 32) × (checked (geometry_of m) mask ≡ Ok mask)

-- a line below 2^53
abbrev pub IsLine : ℕ → Type 0
IsLine line = line < 2 ^ 53

-- a line below 2^53 of this slice, by its number over all domains
abbrev pub IsLineIn : Parameters → ℕ → ℕ → Type 0
IsLineIn m i line = IsLine line × (slice_of_line m (domain_in m i) line ≡ i)

-- a way of the machine, or none
abbrev pub IsWay : Parameters → Option ℕ → Type 0
IsWay m None = Unit {0}
IsWay m (Some way) = way < m.ways

-- what happened in this slice has a text
abbrev pub HasText : Parameters → ℕ → What → Type 0
HasText m i (Access hit way owner rmid mask line) = (way < m.ways) × (owner.0 < 2 ^ 32) × (rmid < 2 ^ 16) × IsMask m mask × IsLineIn m i line
HasText m i Raise = Unit {0}
HasText m i Flush = Unit {0}
HasText m i (Lock mask first_line) = IsMask m mask × IsLine first_line
HasText m i (Look rmid lines) = (rmid < 2 ^ 16) × (lines < 2 ^ 64)
HasText m i (Drop line way) = IsLineIn m i line × IsWay m way

-- an entry of this slice has a text
pub record IsWritableEntry (m : Parameters) (i : ℕ) (e : SliceEntry) : Type 0 where
  pub thread : e.thread < 2 ^ 32
  pub op : e.op < 2 ^ 32
  pub epoch : e.epoch < 2 ^ 64
  pub what : HasText m i e.what

-- a command was accepted, or refused with the error of its reason
abbrev pub IsWritableReply : Reply → Type 0
IsWritableReply replies.Ok = Unit {0}
IsWritableReply (replies.Refused errno why arg) = (replies.Refused errno why arg ≡ refused why arg) × (arg < 2 ^ 64)

-- a command that the tree took has a text, in a script of this weight
pub record IsWritableCommand (weight : ℕ) (e : TreeEntryValue) : Type 0 where
  pub thread : e.thread < 2 ^ 32
  pub op : e.op < 2 ^ 32
  pub reply : IsWritableReply e.reply
  pub few : length e.looks ≤ weight
  pub looks : All (λ n. n < 2 ^ 64) e.looks

-- the entries of a slice have a text, in a script of this weight
pub record IsWritableSlice (m : Parameters) (weight i : ℕ) (entries : List SliceEntry) : Type 0 where
  pub few : length entries ≤ weight
  pub each : All (IsWritableEntry m i) entries

-- Journals have a text as those of this script: there is a list for each slice of its machine, no list of entries or of counts is
-- longer than all its ops weigh, and each number is in the range of its field.
pub record IsWritable (script : ScriptValue) (j : JournalsValue) : Type 0 where
  pub all : length j.slices ≡ slice_count script.machine
  pub tree : All (IsWritableCommand (total_weight script)) j.tree
  pub slices : (i : ℕ) (entries : List SliceEntry) → At j.slices i entries → IsWritableSlice script.machine (total_weight script) i entries
