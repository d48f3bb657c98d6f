-- A group that has a mask and its lines for itself, its private cache, and the policies that respect a mask.
use Rattle.std.specs.Prelude.{◌≡◌, ◌≢◌, ℕ, ◌<◌, Bool, true, false, not, ◌&&◌, nat_eq, nat_lt, List, [], ◌∷◌, None, find, length, slice_get, take}
use Rattle.std.specs.Cmp.Lexicographic.{pointwise}
use Rattle.std.specs.List.{list_all}
use Rattle.policy_law.specs.Policies.{Policy, HeldLine, Event, Access, Drop, has_way, way_of, is_empty, hits_of, set_after, empty_set}

-- whether it is a mask with a way, and with none of these
abbrev pub is_apart : List ℕ → List ℕ → Bool
is_apart ways mask = nat_lt 0 (length mask) && list_all (λ (w : ℕ). not (has_way ways w)) mask

-- The group fills in the mask alone and uses its own lines; another fills elsewhere and uses none of them. Anyone may drop a line.
abbrev pub keeps_apart : List ℕ → (ℕ → Bool) → Event → Bool
keeps_apart mask own (Access true its x) = pointwise nat_eq its mask && own x
keeps_apart mask own (Access false its x) = is_apart mask its && not (own x)
keeps_apart mask own (Drop x) = true

-- What the private cache sees: the accesses of the group, and all drops. No one else fills there, so it has the ways of the mask
-- alone.
abbrev pub private_events : List Event → List Event
private_events [] = []
private_events (Access true mask x ∷ es) = Access true mask x ∷ private_events es
private_events (Access false mask x ∷ es) = private_events es
private_events (Drop x ∷ es) = Drop x ∷ private_events es

-- Among others the group hits just where it does in its private cache, from this state and that on.
abbrev pub IsIsolated : {S : Type 0} → Policy S → List ℕ → S → S → Type 0
IsIsolated policy mask s t =
    (own : ℕ → Bool) (events : List Event) → list_all (keeps_apart mask own) events ≡ true → hits_of policy (empty_set s) events ≡ hits_of policy (empty_set t) (private_events events)

-- a line of the group is nowhere in the set, and no way of the mask is empty
abbrev pub NeedsVictim : List ℕ → (ℕ → Bool) → ℕ → List HeldLine → Type 0
NeedsVictim mask own x places = (own x ≡ true) × (way_of x places ≡ None) × (find (is_empty places) mask ≡ None)

-- Wherever a line of the group needs a victim, after whatever events, it is the one that the private cache has.
abbrev pub VictimsAgree : {S : Type 0} → Policy S → List ℕ → S → S → Type 0
VictimsAgree policy mask s t =
    (own : ℕ → Bool) (events : List Event) (x : ℕ) → list_all (keeps_apart mask own) events ≡ true
    → NeedsVictim mask own x (set_after policy (empty_set s) events).places
    → policy.victim mask (set_after policy (empty_set s) events).state ≡ policy.victim mask (set_after policy (empty_set t) (private_events events)).state

-- a fill stays in its mask, whatever the state is
abbrev pub KeepsMasks : {S : Type 0} → Policy S → Type 0
KeepsMasks {S} policy = (mask : List ℕ) (s : S) → 0 < length mask → has_way mask (policy.victim mask s) ≡ true

-- The policy respects the mask. Two states that agree, as far as the mask is concerned, have the same victim there; they stay in
-- agreement after the same use of one of its ways, and after others use other ways.
pub record Respects {S : Type 0} (Agree : S → S → Type 0) (policy : Policy S) (mask : List ℕ) : Type 0 where
  pub victim : (s t : S) → Agree s t → policy.victim mask s ≡ policy.victim mask t
  pub hit : (s t : S) (w : ℕ) → Agree s t → has_way mask w ≡ true → Agree (policy.on_hit mask w s) (policy.on_hit mask w t)
  pub fill : (s t : S) (w : ℕ) → Agree s t → has_way mask w ≡ true → Agree (policy.on_fill mask w s) (policy.on_fill mask w t)
  pub drop : (s t : S) (w : ℕ) → Agree s t → has_way mask w ≡ true → Agree (policy.on_drop w s) (policy.on_drop w t)
  pub others_hit : (s t : S) (its : List ℕ) (w : ℕ) → Agree s t → is_apart mask its ≡ true → has_way mask w ≡ false → Agree (policy.on_hit its w s) t
  pub others_fill : (s t : S) (its : List ℕ) (w : ℕ) → Agree s t → is_apart mask its ≡ true → has_way mask w ≡ false → Agree (policy.on_fill its w s) t
  pub others_drop : (s t : S) (w : ℕ) → Agree s t → has_way mask w ≡ false → Agree (policy.on_drop w s) t

-- In these events, after this state, the group hears its neighbours: its accesses before number `at` hit just where they do in its
-- private cache, and that one, counted from 0, does not.
pub record Hears {S : Type 0} (policy : Policy S) (mask : List ℕ) (s : S) (own : ℕ → Bool) (events : List Event) (at : ℕ) : Type 0 where
  pub apart : list_all (keeps_apart mask own) events ≡ true
  pub before : take at (hits_of policy (empty_set s) events) ≡ take at (hits_of policy (empty_set s) (private_events events))
  pub differs : slice_get (hits_of policy (empty_set s) events) at ≢ slice_get (hits_of policy (empty_set s) (private_events events)) at
