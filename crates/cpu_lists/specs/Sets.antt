-- Sets of CPU numbers, and what a reader answers of a text that names some.
use Rattle.std.specs.Prelude.{◌≡◌, ℕ, ◌-◌, ◌^◌, min, Bool, ◌==◌, nat_eq, nat_le, List, [], ◌∷◌, filter, Option, Some, None, Result, Ok, Err, IsOkAnd}
use Rattle.std.specs.Int.{bit_at}
use Rattle.std.specs.List.{list_any, range_with_len}
use Rattle.cpu_lists.specs.declared.fault.CpuFault.{CpuFault}
use Rattle.cpu_lists.specs.declared.fault.CpuFault.TheVariants.{Bad, NotACpu}

-- (For proofs.) whether a number is one of these
abbrev pub is_among : List ℕ → ℕ → Bool
is_among numbers n = list_any (nat_eq n) numbers

-- whether a set has a number, where bit c of the set is CPU c
abbrev pub has : ℕ → ℕ → Bool
has set n = bit_at set n == 1

-- the numbers below a length that a set has, rising
unfoldable pub numbers_of : ℕ → ℕ → List ℕ
numbers_of len set = filter (has set) (range_with_len 0 len)

-- (For proofs.) those of a set of 64 that stand from here on
unfoldable pub numbers_from : ℕ → ℕ → List ℕ
numbers_from set from = filter (has set) (range_with_len from (64 - from))

-- (For proofs.) a set has exactly these numbers
abbrev pub IsSetOf : List ℕ → ℕ → Type 0
IsSetOf numbers set = (n : ℕ) → has set n ≡ is_among numbers n

-- the lesser of a number and another, where there is one
abbrev pub lesser : ℕ → Option ℕ → ℕ
lesser n None = n
lesser n (Some m) = min n m

-- the least of these numbers
abbrev pub least : List ℕ → Option ℕ
least [] = None
least (n ∷ ns) = Some (lesser n (least ns))

-- these numbers, where none of them is no CPU
abbrev pub judged : List ℕ → Option ℕ → Result (List ℕ) CpuFault
judged numbers None = Ok numbers
judged numbers (Some stranger) = Err (NotACpu (min stranger (2 ^ 64 - 1)))

-- the numbers that were read, where all are CPUs of the machine; Bad without a reading, and NotACpu with the least that is none
unfoldable pub answer_of : ℕ → Option (List ℕ) → Result (List ℕ) CpuFault
answer_of cpus None = Err Bad
answer_of cpus (Some numbers) = judged numbers (least (filter (nat_le cpus) numbers))

-- (For proofs.) a reader answers a set of these numbers, or this fault
abbrev pub Says : Result ℕ CpuFault → Result (List ℕ) CpuFault → Type 0
Says (Ok set) answer = IsOkAnd answer (λ numbers. IsSetOf numbers set)
Says (Err fault) answer = answer ≡ Err fault
