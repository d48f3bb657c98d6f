-- Policies that do not isolate, each with a few events of one set in which the group hears its neighbour.
use Rattle.std.specs.Prelude.{ℕ, ◌+◌, ◌*◌, ◌%◌, Bool, true, false, nat_lt, List, [], ◌∷◌}
use Rattle.policy_law.specs.Policies.{Policy, Event, Access}
use Rattle.policy_law.specs.Isolation.{Hears, IsIsolated}
use Rattle.policy_law.specs.KnownPolicies.{tree, nru, srrip, random}

-- What is heard in such events refutes isolation.
abbrev pub HeardIsNotIsolated : Type 0 → Type 0
HeardIsNotIsolated S =
    (policy : Policy S) (mask : List ℕ) (s : S) (own : ℕ → Bool) (events : List Event) (at : ℕ) → Hears policy mask s own events at → IsIsolated policy mask s s → ⊥

-- ---- four ways, and lines of the group that are below 10

-- whether a line is the group's
abbrev pub is_own : ℕ → Bool
is_own x = nat_lt x 10

-- the group's use of a line
abbrev pub own_use : List ℕ → ℕ → Event
own_use mask x = Access true mask x

-- another's
abbrev pub its_use : List ℕ → ℕ → Event
its_use mask x = Access false mask x

-- all ways of the cache
abbrev pub four_ways : List ℕ
four_ways = 0 ∷ 1 ∷ 2 ∷ 3 ∷ []

-- masks of some of them
abbrev pub three_ways : List ℕ
three_ways = 0 ∷ 1 ∷ 2 ∷ []

abbrev pub low_ways : List ℕ
low_ways = 0 ∷ 1 ∷ []

abbrev pub high_ways : List ℕ
high_ways = 2 ∷ 3 ∷ []

abbrev pub last_way : List ℕ
last_way = 3 ∷ []

-- a tree, of which the group has three leaves: a use of the fourth turns the root's bit
abbrev pub TreesAreHeard : Type 0
TreesAreHeard = Hears (tree 2) three_ways (λ level node. false) is_own
    (own_use three_ways 0 ∷ own_use three_ways 1 ∷ own_use three_ways 2 ∷ own_use three_ways 0 ∷ its_use last_way 10
    ∷ own_use three_ways 3 ∷ own_use three_ways 2 ∷ []) 5

-- bits that are reset when all ways have theirs set: the neighbour's last one resets the group's
abbrev pub ResetsAreHeard : Type 0
ResetsAreHeard = Hears (nru (λ mask. four_ways)) low_ways (λ w. false) is_own
    (own_use low_ways 0 ∷ own_use low_ways 1 ∷ its_use high_ways 10 ∷ its_use high_ways 11 ∷ own_use low_ways 0
    ∷ own_use low_ways 2 ∷ own_use low_ways 1 ∷ []) 4

-- intervals that age in all ways: the neighbour's misses age the line that the group uses most
abbrev pub AgesAreHeard : Type 0
AgesAreHeard = Hears (srrip (λ mask. four_ways)) low_ways (λ w. 3) is_own
    (own_use low_ways 0 ∷ own_use low_ways 0 ∷ own_use low_ways 1 ∷ its_use last_way 10 ∷ its_use last_way 11 ∷ its_use last_way 12
    ∷ its_use last_way 13 ∷ own_use low_ways 2 ∷ own_use low_ways 0 ∷ []) 4

-- one generator of numbers: the neighbour's fill takes the number that the group would have had
abbrev pub GeneratorsAreHeard : Type 0
GeneratorsAreHeard = Hears (random (λ s. (s * 5 + 3) % 16)) low_ways 0 is_own
    (own_use low_ways 0 ∷ own_use low_ways 1 ∷ its_use high_ways 10 ∷ own_use low_ways 2 ∷ own_use low_ways 0 ∷ []) 3
