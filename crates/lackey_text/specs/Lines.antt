-- What a line of a trace says. The format is that of Valgrind's lackey with `--trace-mem=yes`.
use Rattle.std.specs.Prelude.{ℕ, ◌<◌, ◌≤◌, ◌+◌, Bool, ◌==◌, nat_eq, nat_le, if◌then◌else◌, List, [], ◌∷◌, codes, Option, None, Some}
use Rattle.std.specs.List.{after_first, before_first, list_any, starts_with}
use Rattle.std.specs.Option.{option_and_then}
use Rattle.rc_base.specs.Texts.{is_text}
use Rattle.num_text.specs.Numbers.{below, dec_of, number_of}
use Rattle.line_words.specs.Lines.{words}
use Rattle.lackey_text.specs.declared.limits.TheConstants.{MEMORY_BYTES, MOST_SIZE}
use Rattle.lackey_text.specs.declared.line.LackeyKind.{LackeyKind}
use Rattle.lackey_text.specs.declared.line.LackeyKind.TheVariants.{Code, Load, Store, Modify}
use Rattle.lackey_text.specs.declared.line.LackeyLine.{LackeyLine}
use Rattle.lackey_text.specs.declared.line.LackeyLine.TheVariants.{Skip, Use}

-- the comma between an address and a size
abbrev pub comma : ℕ → Bool
comma b = b == 44

-- what Valgrind says of itself begins with `==`
abbrev pub is_message : List ℕ → Bool
is_message line = starts_with nat_eq line (codes "==")

-- the kind that a word names
abbrev pub kind_of : List ℕ → Option LackeyKind
kind_of word =
    if is_text word (codes "I") then Some Code else
    if is_text word (codes "L") then Some Load else
    if is_text word (codes "S") then Some Store else
    if is_text word (codes "M") then Some Modify else None

-- an address in memory: hexadecimal digits of either case, without a prefix
abbrev pub addr_of : List ℕ → Option ℕ
addr_of text = below MEMORY_BYTES (number_of 16 text)

-- a size: from 1 to the most, in decimal digits
abbrev pub size_of : List ℕ → Option ℕ
size_of text = option_and_then (λ n. if n == 0 then None else Some n) (below (MOST_SIZE + 1) (dec_of text))

-- a use, where each of its bytes has an address
abbrev pub use_at : LackeyKind → ℕ → ℕ → Option LackeyLine
use_at kind addr size = if nat_le (addr + size) MEMORY_BYTES then Some (Use kind addr size) else None

-- the use that a kind and a word `ADDR,SIZE` are
abbrev pub use_of : LackeyKind → List ℕ → Option LackeyLine
use_of kind word =
    if list_any comma word
    then option_and_then (λ addr. option_and_then (λ size. use_at kind addr size) (size_of (after_first comma word))) (addr_of (before_first comma word))
    else None

-- no words say nothing of memory, and two are a use
abbrev pub said_by : List (List ℕ) → Option LackeyLine
said_by [] = Some Skip
said_by (kind ∷ word ∷ []) = option_and_then (λ k. use_of k word) (kind_of kind)
said_by words = None

-- what a line says; None where it is none of a trace
abbrev pub line_of : List ℕ → Option LackeyLine
line_of line = if is_message line then Some Skip else said_by (words line)

-- (For proofs.) A use has from 1 to the most bytes, and each has an address.
abbrev pub IsInMemory : LackeyLine → Type 0
IsInMemory Skip = Unit {0}
IsInMemory (Use kind addr size) = (0 < size) × (size ≤ MOST_SIZE) × (addr + size ≤ MEMORY_BYTES)
