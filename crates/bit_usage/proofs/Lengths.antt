-- How long the text of a domain is.
use Rattle.std.proofs.Common.{◌≡◌, ℕ, zero, suc, ◌+◌, ◌<◌, length, refl, ap, arith}
use Rattle.mode_rules.specs.declared.domain_use.DomainUse.{DomainUse}
use Rattle.std.proofs.lemmas.List.{length-append}
use Rattle.bit_usage.specs.Usage.{domain_text, letters_of}
use Rattle.num_text.proofs.laws.Prints.{length-decimal_digit}

-- how long the number of a domain is
pub ruleset decimal_digit = (length-decimal_digit)

-- a letter for each way
pub length-letters_of : (used : DomainUse) (ways : ℕ) → length (letters_of used ways) ≡ ways
length-letters_of used zero = refl
length-letters_of used (suc n) = ap suc (length-letters_of used n)

-- the text of a domain is its id, an equals sign and the letters
pub length-domain_text : (id ways : ℕ) (used : DomainUse) → id < 10 → length (domain_text ways (id, used)) ≡ 2 + ways
length-domain_text id ways used small =
    simp (length-append) (omega (arith, length-decimal_digit id small, length-letters_of used ways))
