-- What is left of journals while they are read, where slices are judged and let go of.
-- (For functions and proofs: no promise of the program stands on it.)
use Rattle.std.specs.Prelude.{◌≡◌, length, map, Option, Some, None}
use Rattle.check_parts.specs.declared.left_journals.LeftJournals.{LeftJournals}
use Rattle.check_parts.specs.CrowdedSlices.{HasMoreEntries}
use Rattle.check_parts.specs.JudgedSlices.{IsJudged}
use Rattle.check_parts.specs.declared.judged_slices.JudgedSlices.{JudgedSlices}
use Rattle.journal_text.specs.States.{PartsRead}
use Rattle.run_law.specs.Entries.{entries_of, entry_value}
use Rattle.script_ops.specs.Values.{ScriptValue}

-- the commands and the slice that is being read are kept, and of the slices, which have more entries than the script weighs, those
-- that were not judged
pub record IsRest (script : ScriptValue) (judged : JudgedSlices) (kept parts : PartsRead) : Type 0 where
  pub tree : kept.tree ≡ parts.tree
  pub entries : kept.entries ≡ parts.entries
  pub count : length kept.slices ≡ length parts.slices
  pub more : HasMoreEntries script parts.slices
  pub rest : IsJudged script judged parts.tree parts.slices kept.slices

-- all is kept, where no slice was judged
abbrev pub IsLeft : ScriptValue → Option JudgedSlices → PartsRead → PartsRead → Type 0
IsLeft script None kept parts = parts ≡ kept
IsLeft script (Some judged) kept parts = IsRest script judged kept parts

-- the commands, the slices and the entries of the slice that is being read, as they are kept
abbrev pub kept_in : LeftJournals → PartsRead
kept_in left = record { tree = map entry_value left.tree.items; slices = map entries_of left.slices.items; entries = left.entries.items }

-- this is left of these parts of journals of the script
abbrev pub KeepsLeft : LeftJournals → ScriptValue → PartsRead → Type 0
KeepsLeft left script parts = IsLeft script left.judged (kept_in left) parts
