-- The values of slices: the entries of their journals.
use Rattle.std.specs.Prelude.{ℕ, Bool, if◌then◌else◌, ◌+◌, ◌/◌, ◌%◌, List, [], ◌∷◌, codes, map}
use Rattle.std.specs.List.{range_with_len}
use Rattle.cache_core.specs.declared.entry.SliceEntry.{SliceEntry}
use Rattle.json_report.specs.Values.{array_of, object_of, whole}
use Rattle.machine.specs.Slices.{slice_count}
use Rattle.machine.specs.declared.parameters.Parameters.{Parameters}
use Rattle.report_pieces.specs.EntryTexts.{entry_text}
use Rattle.run_law.specs.Journals.{JournalsValue, slice_at}
use Rattle.script_ops.specs.Values.{ScriptValue}
use Rattle.serde_json.specs.Data.{Data, string}

-- these entries, each as its line of the text report, numbered from p
abbrev pub entry_values : Parameters → ℕ → List SliceEntry → List Data
entry_values m p [] = []
entry_values m p (e ∷ es) = string (entry_text m p e) ∷ entry_values m (p + 1) es

-- a slice by its number over all domains, its domain, its entries, and its number in the domain
abbrev pub slice_members : Parameters → ℕ → List SliceEntry → List (List ℕ × Data)
slice_members m i entries =
    (codes "domain", whole (i / m.slices))
    ∷ (codes "entries", array_of (entry_values m 0 entries))
    ∷ (codes "slice", whole (i % m.slices))
    ∷ []

-- a slice by its number over all domains, as an object
unfoldable pub slice_value : ScriptValue → JournalsValue → ℕ → Data
slice_value script j i = object_of (slice_members script.machine i (slice_at j i))

-- each slice of each domain, rising
abbrev pub slice_values : ScriptValue → JournalsValue → List Data
slice_values script j = map (slice_value script j) (range_with_len 0 (slice_count script.machine))

-- the entries of the slices, where they are asked for
abbrev pub journal_part : ScriptValue → JournalsValue → Bool → List (List ℕ × Data)
journal_part script j asked = if asked then (codes "journal", array_of (slice_values script j)) ∷ [] else []
