-- The canonical texts of numbers, and the laws that they read back.
use Rattle.std.specs.Prelude.{◌≡◌, ℕ, ◌-◌, ◌^◌, ◌<◌, false, List, ◌++◌, length, replicate, Some, decimal}
use Rattle.std.specs.Fmt.{digits}
use Rattle.num_text.specs.Numbers.{dec_of, hex_of}

-- a number in a base, in lower case, filled with zeros on the left to this width
unfoldable pub filled : ℕ → ℕ → ℕ → List ℕ
filled base width n = replicate (width - length (digits base false n)) 48 ++ digits base false n

-- a number in hexadecimal, in lower case, filled with zeros on the left to this width
abbrev pub hexadecimal : ℕ → ℕ → List ℕ
hexadecimal width n = filled 16 width n

-- (For proofs.) reading the decimal text of a number gives the number
abbrev pub DecimalReadsBack : Type 0
DecimalReadsBack = (n : ℕ) → n < 2 ^ 64 → dec_of (decimal n) ≡ Some n

-- (For proofs.) reading the hexadecimal text of a number, of any width, gives the number
abbrev pub HexadecimalReadsBack : Type 0
HexadecimalReadsBack = (width n : ℕ) → n < 2 ^ 64 → hex_of (hexadecimal width n) ≡ Some n
