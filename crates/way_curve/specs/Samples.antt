-- Samples of uses: those of the lines whose hash falls into one of so many equal parts.
use Rattle.std.specs.Prelude.{ℕ, ◌*◌, ◌/◌, ◌%◌, ◌^◌, Bool, true, false, nat_lt, bit_xor, List, Option, Some, None}
use Rattle.std.specs.List.{filter}
use Rattle.lackey_text.specs.declared.uses.LineUse.{LineUse}

-- a number with its high bits folded down by so many places, times a factor, modulo 2^64
abbrev pub folded_times : ℕ → ℕ → ℕ → ℕ
folded_times z places factor = bit_xor z (z / 2 ^ places) * factor % 2 ^ 64

-- the number with which the hash of a line ends, before its last fold
abbrev pub mixed_line : ℕ → ℕ
mixed_line line = folded_times (folded_times line 30 0xbf58476d1ce4e5b9) 27 0x94d049bb133111eb

-- The hash of a line, a number below 2^64: the finalizer of the generator SplitMix64 (Steele, Lea and Flood) on the line's number.
unfoldable pub line_hash : ℕ → ℕ
line_hash line = bit_xor (mixed_line line) (mixed_line line / 2 ^ 31)

-- Whether the sample of one line of so many has this line: the upper half of its hash, a number below 2^32, falls into the first of so
-- many equal parts.
unfoldable pub is_sampled : ℕ → ℕ → Bool
is_sampled one_of line = nat_lt (line_hash line / 2 ^ 32 * one_of) (2 ^ 32)

-- the uses of the lines that the sample of one line of so many has, in order
abbrev pub sample_of : ℕ → List LineUse → List LineUse
sample_of one_of uses = filter (λ (u : LineUse). is_sampled one_of u.line) uses

-- the uses of a sample, and all uses where none is taken
abbrev pub sampled : Option ℕ → List LineUse → List LineUse
sampled None uses = uses
sampled (Some one_of) uses = sample_of one_of uses

-- (For proofs.) whether a line is in the sample, and true where none is taken
abbrev pub is_kept : Option ℕ → ℕ → Bool
is_kept None line = true
is_kept (Some one_of) line = is_sampled one_of line

-- How many sets the caches of a sample have, out of those of the cache that is asked about: of one line of so many as many times fewer,
-- rounded down; all of them where no sample is taken.
abbrev pub sample_sets : Option ℕ → ℕ → ℕ
sample_sets None sets = sets
sample_sets (Some one_of) sets = sets / one_of

-- By how much the misses of a sample of one line of so many are scaled, where that is asked for: by as many.
abbrev pub scale_of : Bool → Option ℕ → Option ℕ
scale_of false one_of = None
scale_of true one_of = one_of
