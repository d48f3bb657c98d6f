-- The laws of any policy.
use Rattle.std.specs.Prelude.{◌≡◌, ◌≢◌, ◌↔◌, ℕ, ◌<◌, Bool, true, List, length}
use Rattle.std.specs.List.{list_all}
use Rattle.policy_law.specs.Policies.{Policy, HeldLine, Event, has_way, set_after, hits_of, empty_set}
use Rattle.policy_law.specs.Isolation.{keeps_apart, private_events, IsIsolated, NeedsVictim, VictimsAgree, KeepsMasks, Respects}

-- A group is isolated on each mask that the policy respects.
abbrev pub PoliciesIsolate : {S : Type 0} → (S → S → Type 0) → Type 0
PoliciesIsolate {S} Agree =
    (policy : Policy S) (mask : List ℕ) (s t : S)
    → 0 < length mask → KeepsMasks policy → Respects Agree policy mask → Agree s t → IsIsolated policy mask s t

-- The private cache holds its lines in ways of the mask alone.
abbrev pub PrivateWays : Type 0 → Type 0
PrivateWays S =
    (policy : Policy S) (mask : List ℕ) (s : S) (own : ℕ → Bool) (events : List Event)
    → 0 < length mask → KeepsMasks policy → list_all (keeps_apart mask own) events ≡ true
    → list_all (λ (p : HeldLine). has_way mask p.way) (set_after policy (empty_set s) (private_events events)).places ≡ true

-- A group is isolated exactly where its victims are those of its private cache.
abbrev pub VictimsDecide : Type 0 → Type 0
VictimsDecide S = (policy : Policy S) (mask : List ℕ) (s t : S) → 0 < length mask → KeepsMasks policy → IsIsolated policy mask s t ↔ VictimsAgree policy mask s t

-- Where after some events a victim is another, there are events in which the group hears it by its hits.
abbrev pub OtherVictimsAreHeard : Type 0 → Type 0
OtherVictimsAreHeard S =
    (policy : Policy S) (mask : List ℕ) (s t : S) (own : ℕ → Bool) (events : List Event) (x : ℕ)
    → 0 < length mask → KeepsMasks policy → list_all (keeps_apart mask own) events ≡ true → NeedsVictim mask own x (set_after policy (empty_set s) events).places
    → policy.victim mask (set_after policy (empty_set s) events).state ≢ policy.victim mask (set_after policy (empty_set t) (private_events events)).state
    → (script : List Event) × (list_all (keeps_apart mask own) script ≡ true) × (hits_of policy (empty_set s) script ≢ hits_of policy (empty_set t) (private_events script))
