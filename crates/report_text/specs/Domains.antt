-- The lines of domains in a report.
use Rattle.std.specs.Prelude.{ℕ, ◌*◌, nat_lt, if◌then◌else◌, List, [], ◌++◌, codes, decimal}
use Rattle.std.specs.List.{flat_map, range_with_len}
use Rattle.machine.specs.declared.parameters.Parameters.{Parameters}
use Rattle.run_counts.specs.Domains.{rmid_lines, valid_lines}
use Rattle.run_law.specs.Journals.{JournalsValue}
use Rattle.script_ops.specs.Values.{ScriptValue}

-- `, rmid R N` for an RMID with lines
abbrev pub rmid_text : ℕ → ℕ → List ℕ
rmid_text rmid lines = if nat_lt 0 lines then codes ", rmid " ++ decimal rmid ++ codes " " ++ decimal lines else []

-- each of the first RMIDs with lines, rising, by how many it has
abbrev pub rmids_told : ℕ → (ℕ → ℕ) → List ℕ
rmids_told rmids lines = flat_map (λ rmid. rmid_text rmid (lines rmid)) (range_with_len 0 rmids)

-- the line of a domain by its number, how many lines are valid in it, and how many each RMID has
abbrev pub domain_told : Parameters → ℕ → ℕ → (ℕ → ℕ) → List ℕ
domain_told m domain valid lines =
    codes "domain " ++ decimal domain ++ codes ": valid " ++ decimal valid ++ codes " of " ++ decimal (m.sets * m.ways) ++ rmids_told m.rmids lines ++ codes "\n"

-- `domain D: valid V of C`, and each RMID with lines
abbrev pub domain_line : ScriptValue → JournalsValue → ℕ → List ℕ
domain_line script j domain = domain_told script.machine domain (valid_lines script j domain) (rmid_lines script j domain)
