-- The numbers that texts spell.
use Rattle.std.specs.Prelude.{ℕ, ◌^◌, ◌-◌, min, Bool, ◌||◌, nat_lt, nat_eq, List, [], ◌∷◌, drop, Option, Some, None, codes, if◌then◌else◌}
use Rattle.std.specs.Option.{option_and_then, option_map}
use Rattle.std.specs.List.{list_all, starts_with}
use Rattle.std.specs.Char.{is_digit}
use Rattle.std.specs.Str.Parse.{digits_value}

-- the number, of any size, that one digit or more of this base spell; no other text spells a number
abbrev pub number_of : ℕ → List ℕ → Option ℕ
number_of base [] = None
number_of base (c ∷ cs) = if list_all (λ b. is_digit b base) (c ∷ cs) then Some (digits_value base (c ∷ cs)) else None

-- the decimal number that a text spells
abbrev pub dec_of : List ℕ → Option ℕ
dec_of text = number_of 10 text

-- whether a text begins with `0x` or `0X`
abbrev pub has_prefix : List ℕ → Bool
has_prefix text = starts_with nat_eq text (codes "0x") || starts_with nat_eq text (codes "0X")

-- the text after an optional `0x` or `0X`
abbrev pub without_prefix : List ℕ → List ℕ
without_prefix text = if has_prefix text then drop 2 text else text

-- the hexadecimal number that a text spells, after an optional `0x` or `0X`
abbrev pub hex_of : List ℕ → Option ℕ
hex_of text = number_of 16 (without_prefix text)

-- the number that a text spells, hexadecimal after `0x` or `0X` and else decimal
abbrev pub num_of : List ℕ → Option ℕ
num_of text = if has_prefix text then number_of 16 (drop 2 text) else number_of 10 text

-- the number, where it is below the limit
abbrev pub below : ℕ → Option ℕ → Option ℕ
below limit number = option_and_then (λ n. if nat_lt n limit then Some n else None) number

-- the number, or 2 ^ 64 - 1 where it is greater
abbrev pub capped : Option ℕ → Option ℕ
capped number = option_map (λ n. min n (2 ^ 64 - 1)) number
