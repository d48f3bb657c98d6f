-- The lines of slices in a report: the entries of each slice's journal.
use Rattle.std.specs.Prelude.{ℕ, ◌+◌, Bool, if◌then◌else◌, List, [], ◌∷◌, ◌++◌, codes, decimal}
use Rattle.std.specs.List.{flat_map, range_with_len}
use Rattle.cache_core.specs.declared.entry.SliceEntry.{SliceEntry}
use Rattle.machine.specs.Slices.{slice_number}
use Rattle.machine.specs.declared.parameters.Parameters.{Parameters}
use Rattle.report_pieces.specs.EntryTexts.{entry_line}
use Rattle.run_law.specs.Journals.{JournalsValue, slice_at}
use Rattle.script_ops.specs.Values.{ScriptValue}

-- the lines of these entries, numbered from p
abbrev pub entry_lines : Parameters → ℕ → List SliceEntry → List ℕ
entry_lines m p [] = []
entry_lines m p (e ∷ es) = entry_line m p e ++ entry_lines m (p + 1) es

-- `slice D.X`
abbrev pub slice_heading : ℕ → ℕ → List ℕ
slice_heading domain slice = codes "slice " ++ decimal domain ++ codes "." ++ decimal slice ++ codes "\n"

-- the heading of a slice, and the lines of its entries
abbrev pub slice_text : ScriptValue → JournalsValue → ℕ → ℕ → List ℕ
slice_text script j domain slice = slice_heading domain slice ++ entry_lines script.machine 0 (slice_at j (slice_number script.machine domain slice))

-- each slice of a domain, rising
abbrev pub domain_slices : ScriptValue → JournalsValue → ℕ → List ℕ
domain_slices script j domain = flat_map (slice_text script j domain) (range_with_len 0 script.machine.slices)

-- each slice of each domain, rising
unfoldable pub slices_text : ScriptValue → JournalsValue → List ℕ
slices_text script j = flat_map (domain_slices script j) (range_with_len 0 script.machine.domains)

-- the entries of the slices, where they are asked for
abbrev pub journal_part : ScriptValue → JournalsValue → Bool → List ℕ
journal_part script j asked = if asked then slices_text script j else []
