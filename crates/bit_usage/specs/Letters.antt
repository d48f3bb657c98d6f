-- The letter of a way, by who uses it.
use Rattle.std.specs.Prelude.{ℕ, ◌&&◌, if◌then◌else◌}
use Rattle.cbm.specs.Masks.{has_way}
use Rattle.mode_rules.specs.declared.domain_use.DomainUse.{DomainUse}
use Rattle.bit_usage.specs.declared.letters.TheConstants.{PSEUDO_LOCKED, EXCLUSIVE, HARDWARE_AND_SOFTWARE, HARDWARE, SOFTWARE, UNUSED}

-- the first letter that holds of a way
unfoldable pub letter_of : DomainUse → ℕ → ℕ
letter_of used way =
    if has_way used.region way then PSEUDO_LOCKED else
    if has_way used.exclusive way then EXCLUSIVE else
    if has_way used.hardware way && has_way used.shared way then HARDWARE_AND_SOFTWARE else
    if has_way used.hardware way then HARDWARE else
    if has_way used.shared way then SOFTWARE else UNUSED
