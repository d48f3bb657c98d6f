-- The windows of journals on data and code masks.
use Rattle.std.specs.Prelude.{ℕ, length}
use Rattle.cache_core.specs.declared.entry.SliceEntry.{SliceEntry}
use Rattle.cbm.specs.Masks.{ways_of}
use Rattle.pair_text.specs.Values.{PairScriptValue}
use Rattle.pair_text.specs.declared.side.Side.{Side}
use Rattle.pair_law.specs.CdpRuns.{CdpJournalsValue, owner_on}
use Rattle.pair_law.specs.CdpWindows.{IsCdpWindow}
use Rattle.pair_law.specs.Entries.{slice_in}
use Rattle.private_lru.specs.Isolation.{IsIsolated, between}
use Rattle.rc_base.specs.declared.names.Gid.{Gid}

-- in every window the side of the group is isolated: its covered accesses hit just where they would in a private cache of as many ways
-- as its mask has
abbrev pub WindowsAreIsolated : PairScriptValue → CdpJournalsValue → Type 0
WindowsAreIsolated script j =
    (domain from to : ℕ) (opening : SliceEntry) (group : Gid) (side : Side) (mask last : ℕ) → IsCdpWindow script j domain from to opening group side mask last
    → IsIsolated script.machines.machine.sets (owner_on group side).0 (length (ways_of mask)) opening.what (between (slice_in j.slices domain) from to)
