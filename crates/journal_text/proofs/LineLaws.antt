-- The lines of the journals of a script tell what they are made of, and none has a newline.
use Rattle.std.proofs.Common.{◌≡◌, ℕ, ◌<◌, ◌≤◌, ◌^◌, arith}
use Rattle.cache_core.specs.declared.entry.SliceEntry.{SliceEntry}
use Rattle.journal_text.specs.Lines.{command_line, entry_line, slice_line}
use Rattle.journal_text.specs.Writable.{IsWritableCommand, IsWritableEntry}
use Rattle.journal_text.proofs.laws.Newlines.{HasNoNewline, HasNoNewline-command_line, HasNoNewline-entry_line, HasNoNewline-slice_line}
use Rattle.journal_text.proofs.laws.Values as values
use Rattle.machine.specs.Slices.{slice_count}
use Rattle.run_law.specs.TreeHistory.{TreeEntryValue}
use Rattle.script_ops.specs.Values.{IsLawful, ScriptValue, total_weight}

module _ (script : ScriptValue) (lawful : IsLawful script) where
  -- what all ops weigh has 64 bits
  total_weight-lt : total_weight script < 2 ^ 64
  total_weight-lt = omega (arith, lawful.light)

  -- and so has the number of a slice
  slice-lt : (slice : ℕ) → slice < slice_count script.machine → slice < 2 ^ 64
  slice-lt slice there = omega (arith, there, lawful.in_range.slice_total)

  -- the line before the entries of a slice tells how many they are
  pub slice_line-injective : (slice a b : ℕ) → slice < slice_count script.machine → a ≤ total_weight script → b ≤ total_weight script → slice_line script.machine slice a ≡ slice_line script.machine slice b → a ≡ b
  slice_line-injective slice a b there few_a few_b same =
      let small = slice-lt slice there in
      (values.slice_line-injective script.machine slice slice a b small small (omega (arith, few_a, total_weight-lt)) (omega (arith, few_b, total_weight-lt)) same).1

  -- the line of an entry tells the entry
  pub entry_line-injective : (slice : ℕ) (a b : SliceEntry) → IsWritableEntry script.machine slice a → IsWritableEntry script.machine slice b → entry_line a ≡ entry_line b → a ≡ b
  entry_line-injective slice a b writable_a writable_b same = values.entry_line-injective script.machine slice slice a b lawful.in_range.way_limit writable_a writable_b same

  -- the line of a command tells the command
  pub command_line-injective : (a b : TreeEntryValue) → IsWritableCommand (total_weight script) a → IsWritableCommand (total_weight script) b → command_line a ≡ command_line b → a ≡ b
  command_line-injective a b writable_a writable_b same = values.command_line-injective (total_weight script) a b total_weight-lt writable_a writable_b same

  -- none has a newline
  pub slice_line-one : (slice a : ℕ) → slice < slice_count script.machine → a ≤ total_weight script → HasNoNewline (slice_line script.machine slice a)
  slice_line-one slice a there few = HasNoNewline-slice_line script.machine slice a (slice-lt slice there) (omega (arith, few, total_weight-lt))

  pub entry_line-one : (slice : ℕ) (e : SliceEntry) → IsWritableEntry script.machine slice e → HasNoNewline (entry_line e)
  entry_line-one slice e writable = HasNoNewline-entry_line script.machine slice e lawful.in_range.way_limit writable

  pub command_line-one : (e : TreeEntryValue) → IsWritableCommand (total_weight script) e → HasNoNewline (command_line e)
  command_line-one e writable = HasNoNewline-command_line (total_weight script) e total_weight-lt writable
