-- Under a policy that respects the mask the group hits as in its private cache.
use Rattle.std.proofs.Common.{◌≡◌, ℕ, ◌<◌, Bool, true, false, not, ◌==◌, List, [], ◌∷◌, length, Option, Some, None, refl, sym, ◌∙◌, ap, subst, inl, inr}
use Rattle.std.specs.Prelude.{filter, find, is_some, nat_eq}
use Rattle.std.specs.Cmp.Lexicographic.{pointwise, bytes_decides}
use Rattle.std.specs.List.{list_all}
use Rattle.std.proofs.lemmas.Bool.{cases_Bool, and_parts, not-true}
use Rattle.policy_law.specs.Policies.{Policy, HeldLine, CacheSet, Event, Access, Drop, has_way, way_of, is_empty, fill_way, after_access, after_drop, set_after, hits_of, empty_set}
use Rattle.policy_law.specs.Isolation.{KeepsMasks, is_apart, keeps_apart, private_events, Respects, IsIsolated}
use Rattle.policy_law.proofs.laws.Places.{way_of-within_other, has_way-filled}
use Rattle.policy_law.proofs.Play.{IsPrivate, way_of-private, find-private, fill_way-same, IsPrivate-own, IsPrivate-other, IsPrivate-drop, IsPrivate-drop_other, agree-own, agree-other, agree-drop, agree-drop_other}

-- what is asked of an access of the group
pub keeps-own : (m its : List ℕ) (own : ℕ → Bool) (x : ℕ) → keeps_apart m own (Access true its x) ≡ true → (its ≡ m) × (own x ≡ true)
keeps-own m its own x h =
    let parts = and_parts (pointwise nat_eq its m) (own x) h in
    ((bytes_decides its m).0 parts.0, parts.1)

-- and of an access of another
pub keeps-other : (m its : List ℕ) (own : ℕ → Bool) (x : ℕ) → keeps_apart m own (Access false its x) ≡ true → (is_apart m its ≡ true) × (own x ≡ false)
keeps-other m its own x h =
    let parts = and_parts (is_apart m its) (not (own x)) h in
    (parts.0, not-true (own x) parts.1)

-- a line of another is not in the private cache
pub way_of-private_other : {S : Type 0} (m : List ℕ) (own : ℕ → Bool) (x : ℕ) (c d : CacheSet S) → IsPrivate m own c d → own x ≡ false → way_of x d.places ≡ None
way_of-private_other m own x c d p other = ap (way_of x) p.places ∙ way_of-within_other m own x c.places p.owned other

-- the hits agree from any such two sets on
pub hits_of-private : {S : Type 0} {Agree : S → S → Type 0} (policy : Policy S) (m : List ℕ) (own : ℕ → Bool) → 0 < length m → KeepsMasks policy → Respects Agree policy m → (events : List Event) (c d : CacheSet S)
    → IsPrivate m own c d → Agree c.state d.state → list_all (keeps_apart m own) events ≡ true → hits_of policy c events ≡ hits_of policy d (private_events events)
hits_of-private policy m own some keeps r [] c d p agree h = refl
hits_of-private policy m own some keeps r (Access true its x ∷ es) c d p agree h =
    let parts = and_parts (keeps_apart m own (Access true its x)) (list_all (keeps_apart m own) es) h in
    let asked = keeps-own m its own x parts.0 in
    let there : way_of x d.places ≡ way_of x c.places = way_of-private m own x c d p asked.1 in
    let same : fill_way policy m c ≡ fill_way policy m d =
    fill_way-same policy m c d (find (is_empty c.places) m) refl (sym (find-private m own c d p)) (λ none. r.victim c.state d.state agree) in
    let ih : hits_of policy (after_access policy m x c (way_of x c.places)) es ≡ hits_of policy (after_access policy m x d (way_of x c.places)) (private_events es) =
    hits_of-private policy m own some keeps r es (after_access policy m x c (way_of x c.places)) (after_access policy m x d (way_of x c.places))
    (IsPrivate-own policy m own x c d (way_of x c.places) p asked.1 some keeps (λ none. same))
    (agree-own policy m own x c d (way_of x c.places) r p asked.1 some keeps refl (λ none. same) agree) parts.1 in
    rw (asked.0, there) (ap (λ hits. is_some (way_of x c.places) ∷ hits) ih)
hits_of-private policy m own some keeps r (Access false its x ∷ es) c d p agree h =
    let parts = and_parts (keeps_apart m own (Access false its x)) (list_all (keeps_apart m own) es) h in
    let asked = keeps-other m its own x parts.0 in
    hits_of-private policy m own some keeps r es (after_access policy its x c (way_of x c.places)) d
    (IsPrivate-other policy m its own x c d (way_of x c.places) p asked.1 asked.0 keeps)
    (agree-other policy m its own x c d (way_of x c.places) r p asked.1 asked.0 keeps refl agree) parts.1
hits_of-private policy m own some keeps r (Drop x ∷ es) c d p agree h = elim (cases_Bool (own x)) [
  | inl mine ↦
      let there : way_of x d.places ≡ way_of x c.places = way_of-private m own x c d p mine in
      subst (λ o. hits_of policy (after_drop policy x c (way_of x c.places)) es ≡ hits_of policy (after_drop policy x d o) (private_events es)) (sym there)
      (hits_of-private policy m own some keeps r es (after_drop policy x c (way_of x c.places)) (after_drop policy x d (way_of x c.places))
      (IsPrivate-drop policy m own x c d (way_of x c.places) p) (agree-drop policy m own x c d (way_of x c.places) r p mine refl agree) h)
  | inr other ↦
      let none : way_of x d.places ≡ None = way_of-private_other m own x c d p other in
      subst (λ o. hits_of policy (after_drop policy x c (way_of x c.places)) es ≡ hits_of policy (after_drop policy x d o) (private_events es)) (sym none)
      (hits_of-private policy m own some keeps r es (after_drop policy x c (way_of x c.places)) d
      (IsPrivate-drop_other policy m own x c d (way_of x c.places) p other) (agree-drop_other policy m own x c d (way_of x c.places) r p other refl agree) h)
]

-- two empty sets are such
pub IsPrivate-empty_set : {S : Type 0} (m : List ℕ) (own : ℕ → Bool) (s t : S) → IsPrivate m own (empty_set s) (empty_set t)
IsPrivate-empty_set m own s t = record { places = refl; owned = tt }

-- each mask that a policy respects isolates
pub IsIsolated-respected : {S : Type 0} {Agree : S → S → Type 0} (policy : Policy S) (m : List ℕ) (s t : S) → 0 < length m → KeepsMasks policy → Respects Agree policy m → Agree s t → IsIsolated policy m s t
IsIsolated-respected policy m s t some keeps r agree own events h = hits_of-private policy m own some keeps r events (empty_set s) (empty_set t) (IsPrivate-empty_set m own s t) agree h

-- ---- the ways of a private cache

-- each of them stays in the mask
list_all-filter : (p q : HeldLine → Bool) (ps : List HeldLine) → list_all p ps ≡ true → list_all p (filter q ps) ≡ true
list_all-filter p q [] h = refl
list_all-filter p q (x ∷ xs) h =
    let parts = and_parts (p x) (list_all p xs) h in
    let ih : list_all p (filter q xs) ≡ true = list_all-filter p q xs parts.1 in
    elim (cases_Bool (q x)) [ inl k ↦ rw k (rw parts.0 ih) | inr k ↦ rw k ih ]

-- after an access
list_all-after_access : {S : Type 0} (policy : Policy S) (m : List ℕ) (x : ℕ) (d : CacheSet S) (o : Option ℕ) → 0 < length m → KeepsMasks policy → list_all (λ (p : HeldLine). has_way m p.way) d.places ≡ true
    → list_all (λ (p : HeldLine). has_way m p.way) (after_access policy m x d o).places ≡ true
list_all-after_access policy m x d (Some w) some keeps h = h
list_all-after_access policy m x d None some keeps h =
    let its : has_way m (fill_way policy m d) ≡ true = has_way-filled policy m d keeps some (find (is_empty d.places) m) refl in
    rw its (list_all-filter (λ (p : HeldLine). has_way m p.way) (λ (p : HeldLine). not (p.way == fill_way policy m d)) d.places h)

-- after a drop
list_all-after_drop : {S : Type 0} (policy : Policy S) (m : List ℕ) (x : ℕ) (d : CacheSet S) (o : Option ℕ) → list_all (λ (p : HeldLine). has_way m p.way) d.places ≡ true → list_all (λ (p : HeldLine). has_way m p.way) (after_drop policy x d o).places ≡ true
list_all-after_drop policy m x d None h = h
list_all-after_drop policy m x d (Some w) h = list_all-filter (λ (p : HeldLine). has_way m p.way) (λ (p : HeldLine). not (p.line == x)) d.places h

-- after all that it sees
pub list_all-set_after : {S : Type 0} (policy : Policy S) (m : List ℕ) (own : ℕ → Bool) → 0 < length m → KeepsMasks policy → (events : List Event) (d : CacheSet S) → list_all (keeps_apart m own) events ≡ true
    → list_all (λ (p : HeldLine). has_way m p.way) d.places ≡ true → list_all (λ (p : HeldLine). has_way m p.way) (set_after policy d (private_events events)).places ≡ true
list_all-set_after policy m own some keeps [] d h its = its
list_all-set_after policy m own some keeps (Access true mask x ∷ es) d h its =
    let parts = and_parts (keeps_apart m own (Access true mask x)) (list_all (keeps_apart m own) es) h in
    let same : mask ≡ m = (keeps-own m mask own x parts.0).0 in
    rw same (list_all-set_after policy m own some keeps es (after_access policy m x d (way_of x d.places)) parts.1 (list_all-after_access policy m x d (way_of x d.places) some keeps its))
list_all-set_after policy m own some keeps (Access false mask x ∷ es) d h its =
    let parts = and_parts (keeps_apart m own (Access false mask x)) (list_all (keeps_apart m own) es) h in
    list_all-set_after policy m own some keeps es d parts.1 its
list_all-set_after policy m own some keeps (Drop x ∷ es) d h its =
    list_all-set_after policy m own some keeps es (after_drop policy x d (way_of x d.places)) h (list_all-after_drop policy m x d (way_of x d.places) its)
