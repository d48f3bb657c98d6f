-- A set under a policy, and the private cache beside it.
use Rattle.std.proofs.Common.{◌≡◌, ℕ, ◌<◌, Bool, true, false, not, ◌==◌, List, ◌∷◌, length, Option, Some, None, refl, sym, ◌∙◌, ap, subst, inl, inr}
use Rattle.std.specs.Prelude.{filter, find, nat_lt}
use Rattle.std.specs.List.{list_all}
use Rattle.std.proofs.lemmas.Bool.{cases_Bool, eqb-true, true≢false, and_parts, ltb-true}
use Rattle.policy_law.specs.Policies.{Policy, HeldLine, CacheSet, has_way, way_of, is_empty, fill_way, after_access, after_drop}
use Rattle.policy_law.specs.Isolation.{KeepsMasks, is_apart, Respects}
use Rattle.policy_law.proofs.laws.Places.{within, AreOwned, way_of-within, has_way-way_of, is_empty-within, find-same, has_way-filled, filter-swap, within-filter, AreOwned-filter, has_way-owned, has_way-apart}

-- the private cache holds what the ways of the mask hold
pub record IsPrivate {S : Type 0} (m : List ℕ) (own : ℕ → Bool) (c d : CacheSet S) : Type 0 where
  pub places : d.places ≡ within m c.places
  pub owned : AreOwned m own c.places

-- a line of the group is where it is in the private cache
pub way_of-private : {S : Type 0} (m : List ℕ) (own : ℕ → Bool) (x : ℕ) (c d : CacheSet S) → IsPrivate m own c d → own x ≡ true → way_of x d.places ≡ way_of x c.places
way_of-private m own x c d p mine = ap (way_of x) p.places ∙ way_of-within m own x c.places p.owned mine

-- the same way of the mask is the first that is empty
pub find-private : {S : Type 0} (m : List ℕ) (own : ℕ → Bool) (c d : CacheSet S) → IsPrivate m own c d → find (is_empty c.places) m ≡ find (is_empty d.places) m
find-private m own c d p = find-same (is_empty c.places) (is_empty d.places) m (λ w h. sym (is_empty-within m w c.places h) ∙ ap (λ ps. is_empty ps w) (sym p.places))

-- the same way is filled, where the victims are the same
pub fill_way-same : {S : Type 0} (policy : Policy S) (m : List ℕ) (c d : CacheSet S) (o : Option ℕ) → find (is_empty c.places) m ≡ o → find (is_empty d.places) m ≡ o
    → (o ≡ None → policy.victim m c.state ≡ policy.victim m d.state) → fill_way policy m c ≡ fill_way policy m d
fill_way-same policy m c d None e f same = rw (e, f) (same refl)
fill_way-same policy m c d (Some w) e f same = rw (e, f) refl

-- after an access of the group
pub IsPrivate-own : {S : Type 0} (policy : Policy S) (m : List ℕ) (own : ℕ → Bool) (x : ℕ) (c d : CacheSet S) (o : Option ℕ) → IsPrivate m own c d → own x ≡ true → 0 < length m → KeepsMasks policy
    → (o ≡ None → fill_way policy m c ≡ fill_way policy m d) → IsPrivate m own (after_access policy m x c o) (after_access policy m x d o)
IsPrivate-own policy m own x c d (Some w) p mine some keeps same = record { places = p.places; owned = p.owned }
IsPrivate-own policy m own x c d None p mine some keeps same =
    let its : has_way m (fill_way policy m c) ≡ true = has_way-filled policy m c keeps some (find (is_empty c.places) m) refl in
    record {
      places =
          ap (λ (w : ℕ). record { way = w; line = x } ∷ filter (λ (r : HeldLine). not (r.way == w)) d.places) (sym (same refl))
          ∙ (ap (λ ps. record { way = fill_way policy m c; line = x } ∷ filter (λ (r : HeldLine). not (r.way == fill_way policy m c)) ps) p.places
          ∙ rw its (ap (λ ps. record { way = fill_way policy m c; line = x } ∷ ps) (filter-swap (λ (r : HeldLine). not (r.way == fill_way policy m c)) (λ (r : HeldLine). has_way m r.way) c.places)));
      owned = (its ∙ sym mine, AreOwned-filter m own (λ (r : HeldLine). not (r.way == fill_way policy m c)) c.places p.owned);
    }

-- a way that is taken out
eqb-from_not : (v w : ℕ) → not (v == w) ≡ false → v ≡ w
eqb-from_not v w gone = elim (cases_Bool (v == w)) [ inl k ↦ eqb-true v w k | inr k ↦ let no : true ≡ false = rw k at gone in absurd (true≢false no) ]

-- another fills outside the mask
has_way-filled_other : {S : Type 0} (policy : Policy S) (m its : List ℕ) (c : CacheSet S) → is_apart m its ≡ true → KeepsMasks policy → has_way m (fill_way policy its c) ≡ false
has_way-filled_other policy m its c apart keeps =
    let parts = and_parts (nat_lt 0 (length its)) (list_all (λ (w : ℕ). not (has_way m w)) its) apart in
    has_way-apart m its (fill_way policy its c) parts.1 (has_way-filled policy its c keeps (ltb-true 0 (length its) parts.0) (find (is_empty c.places) its) refl)

-- after an access of another
pub IsPrivate-other : {S : Type 0} (policy : Policy S) (m its : List ℕ) (own : ℕ → Bool) (x : ℕ) (c d : CacheSet S) (o : Option ℕ) → IsPrivate m own c d → own x ≡ false → is_apart m its ≡ true → KeepsMasks policy
    → IsPrivate m own (after_access policy its x c o) d
IsPrivate-other policy m its own x c d (Some w) p other apart keeps = record { places = p.places; owned = p.owned }
IsPrivate-other policy m its own x c d None p other apart keeps =
    let away : has_way m (fill_way policy its c) ≡ false = has_way-filled_other policy m its c apart keeps in
    record {
      places = p.places ∙ rw away (sym (within-filter m (λ (r : HeldLine). not (r.way == fill_way policy its c)) c.places
          (λ r h gone. ap (has_way m) (eqb-from_not r.way (fill_way policy its c) gone) ∙ away)));
      owned = (away ∙ sym other, AreOwned-filter m own (λ (r : HeldLine). not (r.way == fill_way policy its c)) c.places p.owned);
    }

-- after a drop of a line of the group
pub IsPrivate-drop : {S : Type 0} (policy : Policy S) (m : List ℕ) (own : ℕ → Bool) (x : ℕ) (c d : CacheSet S) (o : Option ℕ) → IsPrivate m own c d → IsPrivate m own (after_drop policy x c o) (after_drop policy x d o)
IsPrivate-drop policy m own x c d None p = p
IsPrivate-drop policy m own x c d (Some w) p = record {
  places = ap (λ ps. filter (λ (r : HeldLine). not (r.line == x)) ps) p.places ∙ filter-swap (λ (r : HeldLine). not (r.line == x)) (λ (r : HeldLine). has_way m r.way) c.places;
  owned = AreOwned-filter m own (λ (r : HeldLine). not (r.line == x)) c.places p.owned;
}

-- after a drop of a line of another
pub IsPrivate-drop_other : {S : Type 0} (policy : Policy S) (m : List ℕ) (own : ℕ → Bool) (x : ℕ) (c d : CacheSet S) (o : Option ℕ) → IsPrivate m own c d → own x ≡ false → IsPrivate m own (after_drop policy x c o) d
IsPrivate-drop_other policy m own x c d None p other = p
IsPrivate-drop_other policy m own x c d (Some w) p other = record {
  places = p.places ∙ sym (within-filter m (λ (r : HeldLine). not (r.line == x)) c.places (λ r h gone. has_way-owned m own r c.places p.owned h ∙ (ap own (eqb-from_not r.line x gone) ∙ other)));
  owned = AreOwned-filter m own (λ (r : HeldLine). not (r.line == x)) c.places p.owned;
}

-- the agreement of states after an access of the group
pub agree-own : {S : Type 0} {Agree : S → S → Type 0} (policy : Policy S) (m : List ℕ) (own : ℕ → Bool) (x : ℕ) (c d : CacheSet S) (o : Option ℕ) → Respects Agree policy m → IsPrivate m own c d → own x ≡ true → 0 < length m → KeepsMasks policy
    → way_of x c.places ≡ o → (o ≡ None → fill_way policy m c ≡ fill_way policy m d) → Agree c.state d.state → Agree (after_access policy m x c o).state (after_access policy m x d o).state
agree-own {Agree} policy m own x c d (Some w) r p mine some keeps found same agree = r.hit c.state d.state w agree (has_way-way_of m own x w c.places p.owned found ∙ mine)
agree-own {Agree} policy m own x c d None r p mine some keeps found same agree =
    subst (λ w. Agree (policy.on_fill m (fill_way policy m c) c.state) (policy.on_fill m w d.state)) (same refl)
    (r.fill c.state d.state (fill_way policy m c) agree (has_way-filled policy m c keeps some (find (is_empty c.places) m) refl))

-- after an access of another
pub agree-other : {S : Type 0} {Agree : S → S → Type 0} (policy : Policy S) (m its : List ℕ) (own : ℕ → Bool) (x : ℕ) (c d : CacheSet S) (o : Option ℕ) → Respects Agree policy m → IsPrivate m own c d → own x ≡ false → is_apart m its ≡ true → KeepsMasks policy
    → way_of x c.places ≡ o → Agree c.state d.state → Agree (after_access policy its x c o).state d.state
agree-other policy m its own x c d (Some w) r p other apart keeps found agree = r.others_hit c.state d.state its w agree apart (has_way-way_of m own x w c.places p.owned found ∙ other)
agree-other policy m its own x c d None r p other apart keeps found agree = r.others_fill c.state d.state its (fill_way policy its c) agree apart (has_way-filled_other policy m its c apart keeps)

-- after a drop of a line of the group
pub agree-drop : {S : Type 0} {Agree : S → S → Type 0} (policy : Policy S) (m : List ℕ) (own : ℕ → Bool) (x : ℕ) (c d : CacheSet S) (o : Option ℕ) → Respects Agree policy m → IsPrivate m own c d → own x ≡ true
    → way_of x c.places ≡ o → Agree c.state d.state → Agree (after_drop policy x c o).state (after_drop policy x d o).state
agree-drop policy m own x c d None r p mine found agree = agree
agree-drop policy m own x c d (Some w) r p mine found agree = r.drop c.state d.state w agree (has_way-way_of m own x w c.places p.owned found ∙ mine)

-- after a drop of a line of another
pub agree-drop_other : {S : Type 0} {Agree : S → S → Type 0} (policy : Policy S) (m : List ℕ) (own : ℕ → Bool) (x : ℕ) (c d : CacheSet S) (o : Option ℕ) → Respects Agree policy m → IsPrivate m own c d → own x ≡ false
    → way_of x c.places ≡ o → Agree c.state d.state → Agree (after_drop policy x c o).state d.state
agree-drop_other policy m own x c d None r p other found agree = agree
agree-drop_other policy m own x c d (Some w) r p other found agree = r.others_drop c.state d.state w agree (has_way-way_of m own x w c.places p.owned found ∙ other)
