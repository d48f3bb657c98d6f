-- What is known of an access by whether it hit and its way.
use Rattle.std.proofs.Common.{◌≡◌, ℕ, ◌+◌, Bool, true, false, refl}
use Rattle.cache_core.specs.Places.{CacheValue}
use Rattle.cache_core.specs.Stands.{Accesses, Adds, clock_after, touched_as}
use Rattle.cache_core.specs.declared.entry.What.TheVariants.{Access}
use Rattle.rc_base.specs.declared.names.Tag.{Tag}

-- it is one entry more, which says both
pub Adds-touched_as : (old new : CacheValue) (tag : Tag) (line : ℕ) (hit : Bool) (way : ℕ) → Accesses old new tag line (touched_as hit way) → Adds old new tag.epoch (Access hit way tag.owner tag.rmid tag.mask line)
Adds-touched_as old new tag line true way h = h
Adds-touched_as old new tag line false way h = h

-- the clock goes on by one
pub clock_after-touched_as : (clock : ℕ) (hit : Bool) (way : ℕ) → clock_after clock (touched_as hit way) ≡ clock + 1
clock_after-touched_as clock true way = refl
clock_after-touched_as clock false way = refl
