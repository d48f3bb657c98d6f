-- The canonical texts of a set of CPUs, and that they read back.
use Rattle.std.specs.Prelude.{ℕ, Bool, ◌+◌, ◌-◌, ◌/◌, ◌%◌, ◌^◌, ◌<◌, ◌≤◌, ◌==◌, nat_le, List, [], ◌∷◌, ◌++◌, map, decimal, Ok, if◌then◌else◌}
use Rattle.std.specs.Int.{div_ceil}
use Rattle.std.specs.List.{join_with_byte}
use Rattle.num_text.specs.Printed.{hexadecimal}
use Rattle.cpu_lists.specs.declared.runs.Run.{Run}
use Rattle.cpu_lists.specs.Sets.{numbers_of, answer_of, Says}
use Rattle.cpu_lists.specs.Masks.{mask_cpus}
use Rattle.cpu_lists.specs.Lists.{list_cpus}

-- a hexadecimal digit for every four CPUs begun
abbrev pub digits_for : ℕ → ℕ
digits_for cpus = div_ceil cpus 4

-- a set of up to 64 CPUs: a group for every 32 begun, each of 8 digits but the first, which has the digits of its CPUs
unfoldable pub mask_text : ℕ → ℕ → List ℕ
mask_text cpus set =
    if nat_le cpus 32 then hexadecimal (digits_for cpus) set else
    hexadecimal (digits_for (cpus - 32)) (set / 2 ^ 32) ++ 44 ∷ hexadecimal 8 (set % 2 ^ 32)

-- runs, and a number before them
abbrev pub joined : ℕ → List Run → List Run
joined n [] = record { first = n; last = n } ∷ []
joined n (run ∷ runs) = if run.first == n + 1 then record { first = n; last = run.last } ∷ runs else record { first = n; last = n } ∷ run ∷ runs

-- the maximal runs of adjacent numbers, of rising numbers
abbrev pub runs_of : List ℕ → List Run
runs_of [] = []
runs_of (n ∷ ns) = joined n (runs_of ns)

-- a run of one as `a`, a longer one as `a-b`
abbrev pub run_text : Run → List ℕ
run_text run = if run.first == run.last then decimal run.first else decimal run.first ++ 45 ∷ decimal run.last

-- (For proofs.) a run, after a comma where it is not the first
abbrev pub element_text : Bool → Run → List ℕ
element_text is_first run = if is_first then run_text run else 44 ∷ run_text run

-- the maximal runs of a set of up to 64 CPUs, rising and separated by commas
unfoldable pub list_text : ℕ → List ℕ
list_text set = join_with_byte 44 (map run_text (runs_of (numbers_of 64 set)))

-- (For proofs.) reading the mask text of a set of CPUs that exist gives the set
abbrev pub MaskReadsBack : Type 0
MaskReadsBack = (cpus set : ℕ) → cpus ≤ 64 → set < 2 ^ cpus → Says (Ok set) (answer_of cpus (mask_cpus (mask_text cpus set)))

-- (For proofs.) reading the list text of a set of CPUs that exist gives the set
abbrev pub ListReadsBack : Type 0
ListReadsBack = (cpus set : ℕ) → cpus ≤ 64 → set < 2 ^ cpus → Says (Ok set) (answer_of cpus (list_cpus (list_text set)))
