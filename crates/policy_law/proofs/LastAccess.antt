-- The last access of a group that is isolated under a policy.
use Rattle.std.proofs.Common.{◌≡◌, ℕ, Bool, true, false, List, [], ◌∷◌, ◌++◌, length, get_or, refl, sym, ◌∙◌, ap}
use Rattle.std.specs.Prelude.{is_some, nat_eq}
use Rattle.std.specs.Cmp.Lexicographic.{pointwise, bytes_decides}
use Rattle.std.specs.List.{list_all}
use Rattle.std.proofs.Math.Seq.{get_or-append_seam}
use Rattle.std.proofs.lemmas.Bool.{and_from, and_parts}
use Rattle.policy_law.specs.Policies.{Policy, CacheSet, Event, way_of, after_event, set_after, empty_set, hits_of}
use Rattle.policy_law.specs.Policies.Event.{Access as Accessed, Drop as Dropped}
use Rattle.policy_law.specs.Isolation.{IsIsolated, keeps_apart, private_events}

-- the hits of one access more
hits_of-push : {S : Type 0} (policy : Policy S) (m : List ℕ) (x : ℕ) (es : List Event) (c : CacheSet S) → hits_of policy c (es ++ Accessed true m x ∷ []) ≡ hits_of policy c es ++ is_some (way_of x (set_after policy c es).places) ∷ []
hits_of-push policy m x [] c = refl
hits_of-push policy m x (Accessed true its y ∷ es) c = ap (λ l. is_some (way_of y c.places) ∷ l) (hits_of-push policy m x es (after_event policy c (Accessed true its y)))
hits_of-push policy m x (Accessed false its y ∷ es) c = hits_of-push policy m x es (after_event policy c (Accessed false its y))
hits_of-push policy m x (Dropped y ∷ es) c = hits_of-push policy m x es (after_event policy c (Dropped y))

-- what the private cache sees of one access more
private_events-push : (m : List ℕ) (x : ℕ) (es : List Event) → private_events (es ++ Accessed true m x ∷ []) ≡ private_events es ++ Accessed true m x ∷ []
private_events-push m x [] = refl
private_events-push m x (Accessed true its y ∷ es) = ap (λ l. Accessed true its y ∷ l) (private_events-push m x es)
private_events-push m x (Accessed false its y ∷ es) = private_events-push m x es
private_events-push m x (Dropped y ∷ es) = ap (λ l. Dropped y ∷ l) (private_events-push m x es)

-- a test of two lists
pub list_all-append : (p : Event → Bool) (xs ys : List Event) → list_all p xs ≡ true → list_all p ys ≡ true → list_all p (xs ++ ys) ≡ true
list_all-append p [] ys h k = k
list_all-append p (x ∷ xs) ys h k = let parts = and_parts (p x) (list_all p xs) h in and_from (p x) (list_all p (xs ++ ys)) parts.0 (list_all-append p xs ys parts.1 k)

-- the last of two equal lists
last-same : (l r : List Bool) (a b : Bool) → l ≡ r → l ++ a ∷ [] ≡ r ++ b ∷ [] → a ≡ b
last-same l r a b same e =
    let there : l ++ a ∷ [] ≡ l ++ b ∷ [] = e ∙ ap (λ k. k ++ b ∷ []) (sym same) in
    sym (get_or-append_seam l a [] false) ∙ (ap (λ k. get_or k (length l) false) there ∙ get_or-append_seam l b [] false)

-- a line of an isolated group is there just where it is in its private cache
pub is_some-isolated : {S : Type 0} (policy : Policy S) (m : List ℕ) (own : ℕ → Bool) (s t : S) (es : List Event) (x : ℕ) → IsIsolated policy m s t → list_all (keeps_apart m own) es ≡ true → own x ≡ true
    → is_some (way_of x (set_after policy (empty_set s) es).places) ≡ is_some (way_of x (set_after policy (empty_set t) (private_events es)).places)
is_some-isolated policy m own s t es x isolated h mine =
    let itself : pointwise nat_eq m m ≡ true = (bytes_decides m m).1 refl in
    let one : list_all (keeps_apart m own) (Accessed true m x ∷ []) ≡ true = rw (itself, mine) refl in
    let all : hits_of policy (empty_set s) (es ++ Accessed true m x ∷ []) ≡ hits_of policy (empty_set t) (private_events (es ++ Accessed true m x ∷ [])) =
    isolated own (es ++ Accessed true m x ∷ []) (list_all-append (keeps_apart m own) es (Accessed true m x ∷ []) h one) in
    last-same (hits_of policy (empty_set s) es) (hits_of policy (empty_set t) (private_events es)) _ _ (isolated own es h)
    (sym (hits_of-push policy m x es (empty_set s)) ∙ (all ∙ (ap (hits_of policy (empty_set t)) (private_events-push m x es) ∙ hits_of-push policy m x (private_events es) (empty_set t))))
