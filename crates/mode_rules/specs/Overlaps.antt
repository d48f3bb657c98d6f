-- What stands against a mask, by the mode of its group and by what others use.
use Rattle.std.specs.Prelude.{ℕ, Bool, true, false, ◌&&◌, ◌||◌, not, ◌==◌, [], ◌∷◌, Result}
use Rattle.rc_base.specs.declared.names.Mode.{Mode}
use Rattle.rc_base.specs.declared.names.Mode.TheVariants.{Shareable, LockSetup, Locked}
use Rattle.rc_base.specs.declared.names.Mode.TheVariants as modes
use Rattle.cbm.specs.Masks.{overlaps}
use Rattle.mode_rules.specs.declared.domain_use.DomainUse.{DomainUse}
use Rattle.mode_rules.specs.declared.overlap.Overlap.{Overlap}
use Rattle.mode_rules.specs.declared.overlap.Overlap.TheVariants.{Exclusive, Region, Other, Hardware, HasRegion}
use Rattle.mode_rules.specs.Refusals.{first_of}

-- whether the masks of a group of this mode keep apart from those of shareable and exclusive groups and from shareable bits
abbrev pub keeps_apart : Mode → Bool
keeps_apart Shareable = false
keeps_apart modes.Exclusive = true
keeps_apart LockSetup = true
keeps_apart Locked = true

-- whether a group of this mode is about to set up a region
abbrev pub sets_up : Mode → Bool
sets_up Shareable = false
sets_up modes.Exclusive = false
sets_up LockSetup = true
sets_up Locked = false

-- whether a mask overlaps that of another counted group, which is a shareable or an exclusive one
abbrev pub overlaps_counted : ℕ → DomainUse → Bool
overlaps_counted mask others = overlaps mask others.shared || overlaps mask others.exclusive

-- whether the cache has a region
abbrev pub has_region : DomainUse → Bool
has_region others = not (others.region == 0)

-- whether this stands against the mask of a group of this mode
abbrev pub stands_against : Mode → ℕ → DomainUse → Overlap → Bool
stands_against mode mask others Exclusive = overlaps mask others.exclusive
stands_against mode mask others Region = overlaps mask others.region
stands_against mode mask others Other = keeps_apart mode && overlaps_counted mask others
stands_against mode mask others Hardware = keeps_apart mode && overlaps mask others.hardware
stands_against mode mask others HasRegion = sets_up mode && has_region others

-- Ok for a mask that a group of this mode may have, and else the first that stands against it
unfoldable pub write_overlap : Mode → ℕ → DomainUse → Result (Unit {0}) Overlap
write_overlap mode mask others = first_of (stands_against mode mask others) (Exclusive ∷ Region ∷ Other ∷ Hardware ∷ HasRegion ∷ [])

-- Ok for a mask that a group may keep when it leaves pseudo-locksetup, and else the first that stands against it
unfoldable pub leaving_overlap : ℕ → DomainUse → Result (Unit {0}) Overlap
leaving_overlap mask others = first_of (stands_against LockSetup mask others) (Exclusive ∷ Region ∷ [])

-- whether a mask keeps apart from all counted groups and from other hardware
unfoldable pub is_apart : ℕ → DomainUse → Bool
is_apart mask others = not (overlaps_counted mask others) && not (overlaps mask others.hardware)
