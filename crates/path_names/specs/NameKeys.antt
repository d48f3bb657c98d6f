-- Short names as numbers.
-- (For functions and proofs: no promise of the program stands on it.)
use Rattle.std.specs.Prelude.{ℕ, ◌+◌, ◌*◌, Bool, ◌&&◌, nat_lt, nat_le, List, length}
use Rattle.std.specs.List.{fold, list_all}
use Rattle.path_names.specs.declared.name_key.TheConstants.{MOST_KEY_BYTES}

-- a byte
abbrev pub is_byte : ℕ → Bool
is_byte byte = nat_lt byte 256

-- whether a name is bytes, and so few that their key is a number of 128 bits
abbrev pub has_key : List ℕ → Bool
has_key name = nat_le (length name) MOST_KEY_BYTES && list_all is_byte name

-- the number whose digits of base 256 are the bytes, after a leading 1
abbrev pub key_of : List ℕ → ℕ
key_of name = fold (λ key byte. key * 256 + byte) 1 name
