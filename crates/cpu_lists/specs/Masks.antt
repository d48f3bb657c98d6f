-- The CPUs that a mask text names.
use Rattle.std.specs.Prelude.{ℕ, ◌*◌, ◌^◌, Bool, ◌==◌, nat_le, List, [], ◌∷◌, length, Option, Some, None, if◌then◌else◌}
use Rattle.std.specs.Option.{option_and_then, option_map}
use Rattle.std.specs.List.{slice_split}
use Rattle.std.specs.Int.Digits.{number_from_digits}
use Rattle.num_text.specs.Numbers.{number_of, without_prefix}
use Rattle.cpu_lists.specs.Sets.{numbers_of}

-- the separator of groups, and of the elements of a list
abbrev pub comma : ℕ → Bool
comma b = b == 44

-- what all pieces say, where each says something
abbrev pub each : {A : Type 0} → (List ℕ → Option A) → List (List ℕ) → Option (List A)
each says [] = Some []
each says (piece ∷ pieces) = option_and_then (λ a. option_map (λ all. a ∷ all) (each says pieces)) (says piece)

-- a group is 1 to 8 hexadecimal digits
abbrev pub group_of : List ℕ → Option ℕ
group_of piece = if nat_le (length piece) 8 then number_of 16 piece else None

-- the number whose digits to the base 2^32 are these groups, the last the least
abbrev pub value_of : List ℕ → ℕ
value_of groups = number_from_digits (2 ^ 32) groups

-- the places of the 1-bits of that number
abbrev pub cpus_in : List ℕ → List ℕ
cpus_in groups = numbers_of (32 * length groups) (value_of groups)

-- nothing for no CPU, or groups separated by commas, after an optional `0x` or `0X`
unfoldable pub mask_cpus : List ℕ → Option (List ℕ)
mask_cpus [] = Some []
mask_cpus (b ∷ bs) = option_map cpus_in (each group_of (slice_split comma (without_prefix (b ∷ bs))))
