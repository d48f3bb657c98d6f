-- The values of domains.
use Rattle.std.specs.Prelude.{ℕ, ◌*◌, nat_lt, if◌then◌else◌, List, [], ◌∷◌, codes, map}
use Rattle.std.specs.List.{flat_map, range_with_len}
use Rattle.json_report.specs.Values.{array_of, object_of, whole}
use Rattle.run_counts.specs.Domains.{rmid_lines, valid_lines}
use Rattle.run_law.specs.Journals.{JournalsValue}
use Rattle.script_ops.specs.Values.{ScriptValue}
use Rattle.serde_json.specs.Data.{Data}

-- an RMID with its number of lines, where it has any
abbrev pub rmid_value : ℕ → ℕ → List Data
rmid_value rmid lines = if nat_lt 0 lines then object_of ((codes "lines", whole lines) ∷ (codes "rmid", whole rmid) ∷ []) ∷ [] else []

-- each of the first RMIDs with lines, rising, by how many it has
abbrev pub rmid_values : ℕ → (ℕ → ℕ) → List Data
rmid_values rmids lines = flat_map (λ rmid. rmid_value rmid (lines rmid)) (range_with_len 0 rmids)

-- a domain by its number: how many lines it has room for, the RMIDs with lines, and how many valid lines there are
unfoldable pub domain_of_counts : ℕ → ℕ → List Data → ℕ → Data
domain_of_counts domain places rmids valid =
    object_of
    ((codes "domain", whole domain)
    ∷ (codes "places", whole places)
    ∷ (codes "rmids", array_of rmids)
    ∷ (codes "valid", whole valid)
    ∷ [])

-- a domain at the end of a run
abbrev pub domain_value : ScriptValue → JournalsValue → ℕ → Data
domain_value script j domain =
    domain_of_counts domain (script.machine.sets * script.machine.ways) (rmid_values script.machine.rmids (rmid_lines script j domain)) (valid_lines script j domain)

-- each domain, rising
abbrev pub domain_values : ScriptValue → JournalsValue → List Data
domain_values script j = map (domain_value script j) (range_with_len 0 script.machine.domains)
