-- The text of `bit_usage`.
use Rattle.std.specs.Prelude.{ℕ, zero, suc, List, [], ◌∷◌, ◌++◌, decimal, codes, map}
use Rattle.std.specs.List.{enumerate_from, join_with_byte}
use Rattle.mode_rules.specs.declared.domain_use.DomainUse.{DomainUse}
use Rattle.bit_usage.specs.Letters.{letter_of}

-- the letters of the first n ways, from the greatest way down
abbrev pub letters_of : DomainUse → ℕ → List ℕ
letters_of used zero = []
letters_of used (suc n) = letter_of used n ∷ letters_of used n

-- a domain with its letters
abbrev pub domain_text : ℕ → ℕ × DomainUse → List ℕ
domain_text ways (id, used) = decimal id ++ codes "=" ++ letters_of used ways

-- the domains, separated by semicolons
unfoldable pub usage_text : ℕ → List DomainUse → List ℕ
usage_text ways used = join_with_byte 59 (map (domain_text ways) (enumerate_from 0 used))
