-- The lines of domains at the end of a run.
use Rattle.std.specs.Prelude.{ℕ}
use Rattle.cache_core.specs.History.{lines_of, valid_of}
use Rattle.lists.specs.Sums.{sum_below}
use Rattle.machine.specs.Slices.{slice_number}
use Rattle.run_law.specs.Journals.{JournalsValue, slice_at}
use Rattle.run_law.specs.Slices.{shape_in}
use Rattle.script_ops.specs.Values.{ScriptValue}

-- the sum of this number over the slices of a domain
abbrev pub over_slices : ScriptValue → ℕ → (ℕ → ℕ) → ℕ
over_slices script domain f = sum_below script.machine.slices (λ slice. f (slice_number script.machine domain slice))

-- how many lines an RMID has in a domain at the end
abbrev pub rmid_lines : ScriptValue → JournalsValue → ℕ → ℕ → ℕ
rmid_lines script j domain rmid = over_slices script domain (λ i. lines_of (shape_in script.machine i) (slice_at j i) rmid)

-- how many valid lines a domain has at the end
abbrev pub valid_lines : ScriptValue → JournalsValue → ℕ → ℕ
valid_lines script j domain = over_slices script domain (λ i. valid_of (shape_in script.machine i) (slice_at j i))
