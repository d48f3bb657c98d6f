-- The private cache of the law of one slice as a set under a policy.
use Rattle.std.specs.Prelude.{◌≡◌, ℕ, ◌^◌, ◌<◌, ◌≤◌, true, List, is_some, length, map}
use Rattle.cbm.specs.Masks.{ways_of}
use Rattle.private_lru.specs.declared.item.Item.{Item}
use Rattle.private_lru.specs.declared.item.Item.TheVariants.{Use, Drop}
use Rattle.private_lru.specs.Private.{private_hit}
use Rattle.policy_law.specs.Policies.{Event, way_of, set_after, empty_set}
use Rattle.policy_law.specs.Policies.Event.{Access as Accessed, Drop as Dropped}
use Rattle.policy_law.specs.KnownPolicies.{Stamps, lru}
use Rattle.policy_law.specs.SliceSets.{ways_in}

-- what an item of a private cache is to a set: an access by the group, or a drop
abbrev pub event_of : List ℕ → Item → Event
event_of mask (Use x) = Accessed true mask x
event_of mask (Drop x) = Dropped x

-- A use after these items hits in a private cache of as many ways as the mask has just where its line is in the set under the policy
-- that sees the same items alone.
abbrev pub PrivateIsLru : Type 0
PrivateIsLru =
    (ways mask : ℕ) (s : Stamps) (earlier : List Item) (x : ℕ)
    → ways ≤ 64 → mask < 2 ^ ways → 0 < length (ways_in ways mask) → ((w : ℕ) → s.stamp w < s.clock)
    → private_hit (length (ways_of mask)) earlier x ≡ is_some (way_of x (set_after lru (empty_set s) (map (event_of (ways_in ways mask)) earlier)).places)
