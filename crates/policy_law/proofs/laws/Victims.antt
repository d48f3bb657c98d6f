-- A group is isolated exactly where its victims are those of the private cache.
use Rattle.std.proofs.Common.{◌≡◌, ◌≢◌, ◌⊎◌, ℕ, ◌<◌, Bool, true, false, not, ◌==◌, List, [], ◌∷◌, length, Option, Some, None, refl, sym, ◌∙◌, ap, subst, inl, inr}
use Rattle.std.specs.Prelude.{filter, find, is_some, nat_eq}
use Rattle.std.specs.Cmp.Lexicographic.{pointwise, bytes_decides}
use Rattle.std.specs.List.{list_all}
use Rattle.std.proofs.lemmas.Bool.{and_from, cases_Bool, cases_eq, ne_eqb, true≢false, and_parts}
use Rattle.std.proofs.lemmas.Option.{none-some}
use Rattle.policy_law.specs.Policies.{Policy, HeldLine, CacheSet, Event, Access, Drop, has_way, way_of, is_empty, fill_way, after_access, after_drop, after_event, set_after, hits_of, empty_set}
use Rattle.policy_law.specs.Isolation.{KeepsMasks, keeps_apart, private_events, IsIsolated, NeedsVictim, VictimsAgree}
use Rattle.policy_law.proofs.laws.Places.{AreOwned, AreOwned-filter, find-none, has_way-way_of}
use Rattle.policy_law.proofs.Play.{IsPrivate, way_of-private, find-private, fill_way-same, IsPrivate-own, IsPrivate-other, IsPrivate-drop, IsPrivate-drop_other}
use Rattle.policy_law.proofs.Isolated.{keeps-own, keeps-other, way_of-private_other, IsPrivate-empty_set}
use Rattle.policy_law.proofs.laws.LinesOnce.{AreOnce, AreOnce-filter, AreOnce-after_access, AreOnce-after_drop, way_of-held, way_of-kept, way_of-taken}

-- two accesses of the group
keeps_apart-two : (m : List ℕ) (own : ℕ → Bool) (x y : ℕ) → own x ≡ true → own y ≡ true → list_all (keeps_apart m own) (Access true m x ∷ Access true m y ∷ []) ≡ true
keeps_apart-two m own x y mine yours = let itself : pointwise nat_eq m m ≡ true = (bytes_decides m m).1 refl in rw (itself, mine, yours) refl

-- the last of two hits
second-same : {a b c d : Bool} → a ∷ b ∷ [] ≡ c ∷ d ∷ [] → b ≡ d
second-same e = cc

-- equal lists have equal tails
tail-same : {a b : Bool} {l r : List Bool} → a ∷ l ≡ b ∷ r → l ≡ r
tail-same e = cc

-- the fill takes another way, and leaves this line
is_some-way_of_kept : {S : Type 0} (policy : Policy S) (m : List ℕ) (x y v : ℕ) (c : CacheSet S) → way_of x c.places ≡ None → find (is_empty c.places) m ≡ None → way_of y c.places ≡ Some v → (v == policy.victim m c.state) ≡ false → (x == y) ≡ false
    → is_some (way_of y (after_event policy c (Access true m x)).places) ≡ true
is_some-way_of_kept policy m x y v c missed full here away other =
    let filled : fill_way policy m c ≡ policy.victim m c.state = rw full refl in
    let kept : way_of y (filter (λ (p : HeldLine). not (p.way == fill_way policy m c)) c.places) ≡ Some v = way_of-kept y v (fill_way policy m c) c.places here (ap (λ w. v == w) filled ∙ away) in
    rw (missed, other) (ap is_some kept)

-- the fill takes the way of this line
is_some-way_of_taken : {S : Type 0} (policy : Policy S) (m : List ℕ) (x y : ℕ) (d : CacheSet S) → way_of x d.places ≡ None → find (is_empty d.places) m ≡ None → way_of y d.places ≡ Some (policy.victim m d.state) → AreOnce d.places → (x == y) ≡ false
    → is_some (way_of y (after_event policy d (Access true m x)).places) ≡ false
is_some-way_of_taken policy m x y d missed full here once other =
    let filled : fill_way policy m d ≡ policy.victim m d.state = rw full refl in
    let gone : way_of y (filter (λ (p : HeldLine). not (p.way == fill_way policy m d)) d.places) ≡ None = way_of-taken y (fill_way policy m d) d.places (here ∙ ap (λ (w : ℕ). Some w) (sym filled)) once in
    rw (missed, other) (ap is_some gone)

-- events from two sets on in which the group's hits differ
abbrev pub Heard : {S : Type 0} → Policy S → List ℕ → (ℕ → Bool) → CacheSet S → CacheSet S → Type 0
Heard policy m own c d = (script : List Event) × (list_all (keeps_apart m own) script ≡ true) × (hits_of policy c script ≢ hits_of policy d (private_events script))

-- two accesses tell another victim
Heard-victim : {S : Type 0} (policy : Policy S) (m : List ℕ) (own : ℕ → Bool) (x : ℕ) (c d : CacheSet S) → 0 < length m → KeepsMasks policy → IsPrivate m own c d → AreOnce c.places
    → NeedsVictim m own x c.places → (policy.victim m c.state ≡ policy.victim m d.state → ⊥) → Heard policy m own c d
Heard-victim policy m own x c d some keeps p once needs differ =
    let v : ℕ = policy.victim m d.state in
    let full_there : find (is_empty d.places) m ≡ None = sym (find-private m own c d p) ∙ needs.2 in
    let once_there : AreOnce d.places = subst AreOnce (sym p.places) (AreOnce-filter (λ (q : HeldLine). has_way m q.way) c.places once) in
    let owned_there : AreOwned m own d.places = subst (AreOwned m own) (sym p.places) (AreOwned-filter m own (λ (q : HeldLine). has_way m q.way) c.places p.owned) in
    let held = way_of-held v d.places (find-none (is_empty d.places) m v full_there (keeps m d.state some)) once_there in
    let yours : own held.0 ≡ true = sym (has_way-way_of m own held.0 v d.places owned_there held.1) ∙ keeps m d.state some in
    let here : way_of held.0 c.places ≡ Some v = sym (way_of-private m own held.0 c d p yours) ∙ held.1 in
    let missed_there : way_of x d.places ≡ None = way_of-private m own x c d p needs.0 ∙ needs.1 in
    let other : (x == held.0) ≡ false = ne_eqb x held.0 (λ e. none-some v (sym needs.1 ∙ (ap (λ z. way_of z c.places) e ∙ here))) in
    let stays = is_some-way_of_kept policy m x held.0 v c needs.1 needs.2 here (ne_eqb v (policy.victim m c.state) (λ e. differ (sym e))) other in
    let goes = is_some-way_of_taken policy m x held.0 d missed_there full_there held.1 once_there other in
    (Access true m x ∷ Access true m held.0 ∷ [], keeps_apart-two m own x held.0 needs.0 yours, λ e. true≢false (sym stays ∙ (second-same e ∙ goes)))

-- the fill takes one way, or the victims differ
fill_way-cases : {S : Type 0} (policy : Policy S) (m : List ℕ) (own : ℕ → Bool) (c d : CacheSet S) → IsPrivate m own c d → (o : Option ℕ) → find (is_empty c.places) m ≡ o
    → (fill_way policy m c ≡ fill_way policy m d) ⊎ ((find (is_empty c.places) m ≡ None) × (policy.victim m c.state ≡ policy.victim m d.state → ⊥))
fill_way-cases policy m own c d p (Some w) e = inl (fill_way-same policy m c d (Some w) e (sym (find-private m own c d p) ∙ e) (λ none. absurd (none-some w (sym none))))
fill_way-cases policy m own c d p None e = elim (cases_eq (policy.victim m c.state) (policy.victim m d.state)) [
  | inl same ↦ inl (fill_way-same policy m c d None e (sym (find-private m own c d p) ∙ e) (λ none. same))
  | inr differ ↦ inr (e, differ)
]

-- a line is found, or it is not
cases-found : (o : Option ℕ) → (o ≡ None) ⊎ ((w : ℕ) × (o ≡ Some w))
cases-found None = inl refl
cases-found (Some w) = inr (w, refl)

-- another victim after these events is heard
pub Heard-after : {S : Type 0} (policy : Policy S) (m : List ℕ) (own : ℕ → Bool) (x : ℕ) → 0 < length m → KeepsMasks policy → (events : List Event) (c d : CacheSet S)
    → IsPrivate m own c d → AreOnce c.places → list_all (keeps_apart m own) events ≡ true → NeedsVictim m own x (set_after policy c events).places
    → (policy.victim m (set_after policy c events).state ≡ policy.victim m (set_after policy d (private_events events)).state → ⊥) → Heard policy m own c d
Heard-after policy m own x some keeps [] c d p once h needs differ = Heard-victim policy m own x c d some keeps p once needs differ
Heard-after policy m own x some keeps (Access true its z ∷ es) c d p once h needs differ =
    let parts = and_parts (keeps_apart m own (Access true its z)) (list_all (keeps_apart m own) es) h in
    let asked = keeps-own m its own z parts.0 in
    let itself : pointwise nat_eq m m ≡ true = (bytes_decides m m).1 refl in
    let there : way_of z d.places ≡ way_of z c.places = way_of-private m own z c d p asked.1 in
    let needs_at : NeedsVictim m own x (set_after policy (after_access policy m z c (way_of z c.places)) es).places =
    subst (λ l. NeedsVictim m own x (set_after policy (after_access policy l z c (way_of z c.places)) es).places) asked.0 needs in
    let differ_at : policy.victim m (set_after policy (after_access policy m z c (way_of z c.places)) es).state ≡ policy.victim m (set_after policy (after_access policy m z d (way_of z c.places)) (private_events es)).state → ⊥ =
    subst (λ l. policy.victim m (set_after policy (after_access policy l z c (way_of z c.places)) es).state ≡ policy.victim m (set_after policy (after_access policy l z d (way_of z c.places)) (private_events es)).state → ⊥) asked.0
    (subst (λ o. policy.victim m (set_after policy (after_access policy its z c (way_of z c.places)) es).state ≡ policy.victim m (set_after policy (after_access policy its z d o) (private_events es)).state → ⊥) there differ) in
    let on : (way_of z c.places ≡ None → fill_way policy m c ≡ fill_way policy m d) → Heard policy m own c d = λ same.
    let r = Heard-after policy m own x some keeps es (after_access policy m z c (way_of z c.places)) (after_access policy m z d (way_of z c.places))
    (IsPrivate-own policy m own z c d (way_of z c.places) p asked.1 some keeps same) (AreOnce-after_access policy m z c (way_of z c.places) refl once) parts.1 needs_at differ_at in
    (Access true m z ∷ r.0, and_from (keeps_apart m own (Access true m z)) (list_all (keeps_apart m own) r.0) (and_from (pointwise nat_eq m m) (own z) itself asked.1) r.1, λ e. r.2 (subst (λ o. hits_of policy (after_access policy m z c (way_of z c.places)) r.0 ≡ hits_of policy (after_access policy m z d o) (private_events r.0)) there (tail-same e))) in
    elim (cases-found (way_of z c.places)) [
      | inr found ↦ on (λ none. absurd (none-some found.0 (sym none ∙ found.1)))
      | inl missed ↦ elim (fill_way-cases policy m own c d p (find (is_empty c.places) m) refl) [
        | inl same ↦ on (λ none. same)
        | inr other ↦ Heard-victim policy m own z c d some keeps p once (asked.1, missed, other.0) other.1
      ]
    ]
Heard-after policy m own x some keeps (Access false its z ∷ es) c d p once h needs differ =
    let parts = and_parts (keeps_apart m own (Access false its z)) (list_all (keeps_apart m own) es) h in
    let asked = keeps-other m its own z parts.0 in
    let r = Heard-after policy m own x some keeps es (after_access policy its z c (way_of z c.places)) d
    (IsPrivate-other policy m its own z c d (way_of z c.places) p asked.1 asked.0 keeps) (AreOnce-after_access policy its z c (way_of z c.places) refl once) parts.1 needs differ in
    (Access false its z ∷ r.0, and_from (keeps_apart m own (Access false its z)) (list_all (keeps_apart m own) r.0) parts.0 r.1, r.2)
Heard-after policy m own x some keeps (Drop z ∷ es) c d p once h needs differ = elim (cases_Bool (own z)) [
  | inl yours ↦
      let there : way_of z d.places ≡ way_of z c.places = way_of-private m own z c d p yours in
      let differ_at = subst (λ o. policy.victim m (set_after policy (after_drop policy z c (way_of z c.places)) es).state ≡ policy.victim m (set_after policy (after_drop policy z d o) (private_events es)).state → ⊥) there differ in
      let r = Heard-after policy m own x some keeps es (after_drop policy z c (way_of z c.places)) (after_drop policy z d (way_of z c.places))
      (IsPrivate-drop policy m own z c d (way_of z c.places) p) (AreOnce-after_drop policy z c (way_of z c.places) once) h needs differ_at in
      (Drop z ∷ r.0, r.1, λ e. r.2 (subst (λ o. hits_of policy (after_drop policy z c (way_of z c.places)) r.0 ≡ hits_of policy (after_drop policy z d o) (private_events r.0)) there e))
  | inr other ↦
      let none : way_of z d.places ≡ None = way_of-private_other m own z c d p other in
      let differ_at = subst (λ o. policy.victim m (set_after policy (after_drop policy z c (way_of z c.places)) es).state ≡ policy.victim m (set_after policy (after_drop policy z d o) (private_events es)).state → ⊥) none differ in
      let r = Heard-after policy m own x some keeps es (after_drop policy z c (way_of z c.places)) d
      (IsPrivate-drop_other policy m own z c d (way_of z c.places) p other) (AreOnce-after_drop policy z c (way_of z c.places) once) h needs differ_at in
      (Drop z ∷ r.0, r.1, λ e. r.2 (subst (λ o. hits_of policy (after_drop policy z c (way_of z c.places)) r.0 ≡ hits_of policy (after_drop policy z d o) (private_events r.0)) none e))
]

-- from empty sets on
pub Heard-empty_set : {S : Type 0} (policy : Policy S) (m : List ℕ) (s t : S) (own : ℕ → Bool) (events : List Event) (x : ℕ) → 0 < length m → KeepsMasks policy → list_all (keeps_apart m own) events ≡ true
    → NeedsVictim m own x (set_after policy (empty_set s) events).places
    → (policy.victim m (set_after policy (empty_set s) events).state ≡ policy.victim m (set_after policy (empty_set t) (private_events events)).state → ⊥) → Heard policy m own (empty_set s) (empty_set t)
Heard-empty_set policy m s t own events x some keeps h needs differ =
    Heard-after policy m own x some keeps events (empty_set s) (empty_set t) (IsPrivate-empty_set m own s t) tt h needs differ

-- where a group is isolated its victims agree
pub VictimsAgree-isolated : {S : Type 0} (policy : Policy S) (m : List ℕ) (s t : S) → 0 < length m → KeepsMasks policy → IsIsolated policy m s t → VictimsAgree policy m s t
VictimsAgree-isolated policy m s t some keeps isolated own events x h needs =
    elim (cases_eq (policy.victim m (set_after policy (empty_set s) events).state) (policy.victim m (set_after policy (empty_set t) (private_events events)).state)) [
      | inl same ↦ same
      | inr differ ↦ let r = Heard-empty_set policy m s t own events x some keeps h needs differ in absurd (r.2 (isolated own r.0 r.1))
    ]

-- the victims agree from two sets on
abbrev pub AgreeFrom : {S : Type 0} → Policy S → List ℕ → (ℕ → Bool) → CacheSet S → CacheSet S → Type 0
AgreeFrom policy m own c d = (events : List Event) (x : ℕ) → list_all (keeps_apart m own) events ≡ true → NeedsVictim m own x (set_after policy c events).places
    → policy.victim m (set_after policy c events).state ≡ policy.victim m (set_after policy d (private_events events)).state

-- where victims agree the hits do
hits_of-agreeing : {S : Type 0} (policy : Policy S) (m : List ℕ) (own : ℕ → Bool) → 0 < length m → KeepsMasks policy → (events : List Event) (c d : CacheSet S)
    → IsPrivate m own c d → AgreeFrom policy m own c d → list_all (keeps_apart m own) events ≡ true → hits_of policy c events ≡ hits_of policy d (private_events events)
hits_of-agreeing policy m own some keeps [] c d p agree h = refl
hits_of-agreeing policy m own some keeps (Access true its z ∷ es) c d p agree h =
    let parts = and_parts (keeps_apart m own (Access true its z)) (list_all (keeps_apart m own) es) h in
    let asked = keeps-own m its own z parts.0 in
    let itself : pointwise nat_eq m m ≡ true = (bytes_decides m m).1 refl in
    let there : way_of z d.places ≡ way_of z c.places = way_of-private m own z c d p asked.1 in
    let same : way_of z c.places ≡ None → fill_way policy m c ≡ fill_way policy m d = λ none.
    elim (fill_way-cases policy m own c d p (find (is_empty c.places) m) refl) [ inl e ↦ e | inr other ↦ absurd (other.1 (agree [] z refl (asked.1, none, other.0))) ] in
    let agree_at : AgreeFrom policy m own (after_access policy m z c (way_of z c.places)) (after_access policy m z d (way_of z c.places)) = λ fs x k needs.
    subst (λ o. policy.victim m (set_after policy (after_access policy m z c (way_of z c.places)) fs).state ≡ policy.victim m (set_after policy (after_access policy m z d o) (private_events fs)).state) there
    (agree (Access true m z ∷ fs) x (rw (itself, asked.1) k) needs) in
    let ih : hits_of policy (after_access policy m z c (way_of z c.places)) es ≡ hits_of policy (after_access policy m z d (way_of z c.places)) (private_events es) =
    hits_of-agreeing policy m own some keeps es (after_access policy m z c (way_of z c.places)) (after_access policy m z d (way_of z c.places))
    (IsPrivate-own policy m own z c d (way_of z c.places) p asked.1 some keeps same) agree_at parts.1 in
    rw (asked.0, there) (ap (λ hits. is_some (way_of z c.places) ∷ hits) ih)
hits_of-agreeing policy m own some keeps (Access false its z ∷ es) c d p agree h =
    let parts = and_parts (keeps_apart m own (Access false its z)) (list_all (keeps_apart m own) es) h in
    let asked = keeps-other m its own z parts.0 in
    hits_of-agreeing policy m own some keeps es (after_access policy its z c (way_of z c.places)) d
    (IsPrivate-other policy m its own z c d (way_of z c.places) p asked.1 asked.0 keeps) (λ fs x k needs. agree (Access false its z ∷ fs) x (rw (parts.0) k) needs) parts.1
hits_of-agreeing policy m own some keeps (Drop z ∷ es) c d p agree h = elim (cases_Bool (own z)) [
  | inl yours ↦
      let there : way_of z d.places ≡ way_of z c.places = way_of-private m own z c d p yours in
      subst (λ o. hits_of policy (after_drop policy z c (way_of z c.places)) es ≡ hits_of policy (after_drop policy z d o) (private_events es)) (sym there)
      (hits_of-agreeing policy m own some keeps es (after_drop policy z c (way_of z c.places)) (after_drop policy z d (way_of z c.places)) (IsPrivate-drop policy m own z c d (way_of z c.places) p)
      (λ fs x k needs. subst (λ o. policy.victim m (set_after policy (after_drop policy z c (way_of z c.places)) fs).state ≡ policy.victim m (set_after policy (after_drop policy z d o) (private_events fs)).state) there (agree (Drop z ∷ fs) x k needs)) h)
  | inr other ↦
      let none : way_of z d.places ≡ None = way_of-private_other m own z c d p other in
      subst (λ o. hits_of policy (after_drop policy z c (way_of z c.places)) es ≡ hits_of policy (after_drop policy z d o) (private_events es)) (sym none)
      (hits_of-agreeing policy m own some keeps es (after_drop policy z c (way_of z c.places)) d (IsPrivate-drop_other policy m own z c d (way_of z c.places) p other)
      (λ fs x k needs. subst (λ o. policy.victim m (set_after policy (after_drop policy z c (way_of z c.places)) fs).state ≡ policy.victim m (set_after policy (after_drop policy z d o) (private_events fs)).state) none (agree (Drop z ∷ fs) x k needs)) h)
]

-- so the group is isolated
pub IsIsolated-agreeing : {S : Type 0} (policy : Policy S) (m : List ℕ) (s t : S) → 0 < length m → KeepsMasks policy → VictimsAgree policy m s t → IsIsolated policy m s t
IsIsolated-agreeing policy m s t some keeps agree own events h =
    hits_of-agreeing policy m own some keeps events (empty_set s) (empty_set t) (IsPrivate-empty_set m own s t) (agree own) h
