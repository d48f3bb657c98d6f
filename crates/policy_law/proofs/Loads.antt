-- A set after a lock is the set under the policy in which the ways of the region were filled one after the other.
use Rattle.std.proofs.Common.{◌≡◌, ℕ, zero, suc, ◌+◌, ◌-◌, ◌*◌, ◌<◌, Bool, true, false, cond, ◌&&◌, ◌==◌, nat_lt, List, [], ◌∷◌, Option, Some, None, refl, sym, ◌∙◌, ap, subst, inl, inr, arith}
use Rattle.std.specs.Prelude.{filter, map, option_map}
use Rattle.std.specs.List.{range_with_len}
use Rattle.std.proofs.lemmas.Bool.{cases_Bool, cases_lt, and_parts, eqb-true, eqb-false, lt-ltb, le-ltb, ltb-true, false≢true, true_from_ne_false}
use Rattle.std.proofs.lemmas.Option.{none-some, same_Some}
use Rattle.cbm.specs.Masks.{has_way}
use Rattle.cache_core.specs.Fills.{Resident, Holds}
use Rattle.cache_core.specs.History.{Shape, ways_below}
use Rattle.cache_core.proofs.laws.WaysBelow.{ways_below-lt}
use Rattle.policy_law.specs.Policies.{CacheSet, Event, way_of, is_empty, set_after, empty_set, fill_way, after_access}
use Rattle.policy_law.specs.Policies.Event.{Access as Accessed}
use Rattle.policy_law.specs.KnownPolicies.{Stamps, lru, with_at}
use Rattle.policy_law.proofs.laws.LinesOnce.{way_of-held}
use Rattle.policy_law.proofs.Steps.{IsSet-same, IsSet-fill}
use Rattle.policy_law.proofs.SetPlaces.{IsSet, IsSome-resident, way_of-missed}

-- the line of a region in a way of a set
abbrev pub line_in : Shape → ℕ → ℕ → ℕ → ℕ → ℕ
line_in m mask first_line set way = first_line + set + ways_below mask way * m.sets

-- what a lock puts into the ways below this one
abbrev left_below : Shape → ℕ → ℕ → ℕ → ℕ → ℕ → Option Resident
left_below m mask first_line set a w = cond (nat_lt w a && has_way mask w) (Some (record { line = line_in m mask first_line set w; rmid = 0 })) None

-- as many fills on from the first one
abbrev age_below : ℕ → ℕ → ℕ → ℕ
age_below mask a w = cond (nat_lt w a && has_way mask w) (w + 1) 0

-- the fills of these ways
abbrev pub fills : Shape → ℕ → ℕ → ℕ → List ℕ → List Event
fills m mask first_line set ways = map (λ w. Accessed false (w ∷ []) (line_in m mask first_line set w)) ways

-- ways of a region have lines of their own
line_in-differ : (m : Shape) (mask first_line set v a : ℕ) → 0 < m.sets → v < a → has_way mask v ≡ true → line_in m mask first_line set v ≡ line_in m mask first_line set a → ⊥
line_in-differ m mask first_line set v a some less has same =
    let lower : ways_below mask v < ways_below mask a = ways_below-lt mask v a less has in
    let d : ℕ = ways_below mask a - (ways_below mask v + 1) in
    let more : ways_below mask a ≡ ways_below mask v + 1 + d = omega arith in
    let product : ways_below mask a * m.sets ≡ ways_below mask v * m.sets + m.sets + d * m.sets = ap (λ k. k * m.sets) more ∙ grind arith in
    omega arith

-- a way that holds a line of it
Holds-below : (m : Shape) (mask first_line set a x v : ℕ) → Holds (left_below m mask first_line set a) x v → (v < a) × (has_way mask v ≡ true) × (line_in m mask first_line set v ≡ x)
Holds-below m mask first_line set a x v h = elim (cases_Bool (nat_lt v a && has_way mask v)) [
  | inl k ↦
      let parts = and_parts (nat_lt v a) (has_way mask v) k in
      let there : Some (line_in m mask first_line set v) ≡ Some x = rw k at h in
      (ltb-true v a parts.0, parts.1, same_Some (line_in m mask first_line set v) x there)
  | inr k ↦ let none : None ≡ Some x = rw k at h in absurd (none-some x none)
]

-- a way below the next one is this one, or below it
lt-next : (v a : ℕ) → (v == a) ≡ false → nat_lt v (a + 1) ≡ nat_lt v a
lt-next v a other = elim (cases_lt v a) [
  | inl l ↦ lt-ltb v (a + 1) (omega arith) ∙ sym (lt-ltb v a l)
  | inr l ↦
      let differs : v ≡ a → ⊥ = eqb-false v a other in
      elim (cases_lt a v) [
        | inl k ↦ le-ltb v (a + 1) (omega arith) ∙ sym (le-ltb v a l)
        | inr k ↦ absurd (differs (omega arith))
      ]
]

-- the ages after a fill
age_below-next : (mask a w : ℕ) → has_way mask a ≡ true → age_below mask (a + 1) w ≡ with_at (age_below mask a) a (a + 1) w
age_below-next mask a w has = elim (cases_Bool (w == a)) [
  | inl k ↦
      let one : w ≡ a = eqb-true w a k in
      let less : nat_lt w (a + 1) ≡ true = lt-ltb w (a + 1) (omega arith) in
      let its : has_way mask w ≡ true = ap (has_way mask) one ∙ has in
      rw (k, less, its) (omega arith)
  | inr k ↦ rw k (ap (λ b. cond (b && has_way mask w) (w + 1) 0) (lt-next w a k))
]

-- they are below the next one's
age_below-lt : (mask a w : ℕ) → age_below mask a w < a + 1
age_below-lt mask a w = elim (cases_Bool (nat_lt w a && has_way mask w)) [
  | inl k ↦ let l : w < a = ltb-true w a (and_parts (nat_lt w a) (has_way mask w) k).0 in rw k (omega arith)
  | inr k ↦ rw k (omega arith)
]

-- a way outside the region changes nothing
skip : {A : Type 0} (mask a v : ℕ) (x y : A) → has_way mask a ≡ false → cond (nat_lt v (a + 1) && has_way mask v) x y ≡ cond (nat_lt v a && has_way mask v) x y
skip mask a v x y none = elim (cases_Bool (v == a)) [
  | inl k ↦
      let one : v ≡ a = eqb-true v a k in
      let its : has_way mask v ≡ false = ap (has_way mask) one ∙ none in
      ap (λ b. cond (nat_lt v (a + 1) && b) x y) its ∙ (both (nat_lt v (a + 1)) (nat_lt v a) ∙ ap (λ b. cond (nat_lt v a && b) x y) (sym its))
  | inr k ↦ ap (λ b. cond (b && has_way mask v) x y) (lt-next v a k)
]
  where
    both : (b c : Bool) → cond (b && false) x y ≡ cond (c && false) x y
    both true true = refl
    both true false = refl
    both false true = refl
    both false false = refl

-- one fill more
IsSet-next : (m : Shape) (mask first_line set a : ℕ) (c : CacheSet Stamps) → 0 < m.sets → a < m.ways → has_way mask a ≡ true → IsSet m.ways (left_below m mask first_line set a) (age_below mask a) c
    → IsSet m.ways (left_below m mask first_line set (a + 1)) (age_below mask (a + 1)) (after_access lru (a ∷ []) (line_in m mask first_line set a) c (way_of (line_in m mask first_line set a) c.places))
IsSet-next m mask first_line set a c some within has is =
    let x : ℕ = line_in m mask first_line set a in
    let missed : way_of x c.places ≡ None = way_of-missed m.ways x (left_below m mask first_line set a) (age_below mask a) c is
    (λ v l h. let p = Holds-below m mask first_line set a x v h in line_in-differ m mask first_line set v a some p.0 p.1 p.2) (way_of x c.places) refl in
    let not_below : nat_lt a a ≡ false = le-ltb a a (omega arith) in
    let gone : left_below m mask first_line set a a ≡ None = rw not_below refl in
    let empty : is_empty c.places a ≡ true = true_from_ne_false (is_empty c.places a) (λ full. false≢true (IsSome-resident m.ways a (left_below m mask first_line set a) (age_below mask a) c is full None gone)) in
    let filled : fill_way lru (a ∷ []) c ≡ a = rw empty refl in
    let below : nat_lt a (a + 1) ≡ true = lt-ltb a (a + 1) (omega arith) in
    let holds : Holds (left_below m mask first_line set (a + 1)) x a = rw (below, has) refl in
    subst (λ o. IsSet m.ways (left_below m mask first_line set (a + 1)) (age_below mask (a + 1)) (after_access lru (a ∷ []) x c o)) (sym missed)
    (IsSet-fill m.ways x a (a + 1) (a ∷ []) (left_below m mask first_line set a) (left_below m mask first_line set (a + 1)) (age_below mask a) (age_below mask (a + 1)) c within missed filled holds
    (λ v k. ap (λ b. cond (b && has_way mask v) (Some (record { line = line_in m mask first_line set v; rmid = 0 })) None) (lt-next v a k)) (age_below-lt mask a) (λ w. age_below-next mask a w has) is)

-- all of them
IsSet-fills : (m : Shape) (mask first_line set k a : ℕ) (c : CacheSet Stamps) → 0 < m.sets → a + k ≡ m.ways → IsSet m.ways (left_below m mask first_line set a) (age_below mask a) c
    → IsSet m.ways (left_below m mask first_line set m.ways) (age_below mask m.ways) (set_after lru c (fills m mask first_line set (filter (has_way mask) (range_with_len a k))))
IsSet-fills m mask first_line set zero a c some sum is =
    let all : a ≡ m.ways = omega arith in
    subst (λ b. IsSet m.ways (left_below m mask first_line set b) (age_below mask b) c) all is
IsSet-fills m mask first_line set (suc k) a c some sum is = elim (cases_Bool (has_way mask a)) [
  | inl has ↦
      rw has (IsSet-fills m mask first_line set k (a + 1) (after_access lru (a ∷ []) (line_in m mask first_line set a) c (way_of (line_in m mask first_line set a) c.places)) some (omega arith)
      (IsSet-next m mask first_line set a c some (omega arith) has is))
  | inr none ↦
      rw none (IsSet-fills m mask first_line set k (a + 1) c some (omega arith)
      (IsSet-same m.ways (left_below m mask first_line set a) (left_below m mask first_line set (a + 1)) (age_below mask a) (age_below mask (a + 1)) c
      (λ v. skip mask a v (Some (record { line = line_in m mask first_line set v; rmid = 0 })) None none) (λ v. skip mask a v (v + 1) 0 none) is))
]

-- before the first one
IsSet-empty : (m : Shape) (mask first_line set : ℕ) (s : Stamps) → ((w : ℕ) → s.stamp w < s.clock) → IsSet m.ways (left_below m mask first_line set 0) (age_below mask 0) (empty_set s)
IsSet-empty m mask first_line set s past = record {
  sound = λ y w e. absurd (none-some w e);
  whole = λ y w l h. let p = Holds-below m mask first_line set 0 y w h in absurd (let less : w < 0 = p.0 in omega arith);
  once = tt;
  older = λ v w a b l. absurd (false≢true (sym a));
  tied = λ v w a b e l. absurd (false≢true (sym a));
  past = past;
}

-- the set after a lock: all ways of the region are as old
pub IsSet-loaded : (m : Shape) (set mask first_line : ℕ) (residents : ℕ → Option Resident) (age : ℕ → ℕ) (now : ℕ) (s : Stamps) → 0 < m.sets → ((w : ℕ) → s.stamp w < s.clock)
    → ((w : ℕ) → residents w ≡ cond (has_way mask w) (Some (record { line = line_in m mask first_line set w; rmid = 0 })) None) → ((w : ℕ) → has_way mask w ≡ true → age w ≡ now)
    → IsSet m.ways residents age (set_after lru (empty_set s) (fills m mask first_line set (filter (has_way mask) (range_with_len 0 m.ways))))
IsSet-loaded m set mask first_line residents age now s some past left used =
    let c : CacheSet Stamps = set_after lru (empty_set s) (fills m mask first_line set (filter (has_way mask) (range_with_len 0 m.ways))) in
    let zero_plus : 0 + m.ways ≡ m.ways = omega arith in
    let is : IsSet m.ways (left_below m mask first_line set m.ways) (age_below mask m.ways) c = IsSet-fills m mask first_line set m.ways 0 (empty_set s) some zero_plus (IsSet-empty m mask first_line set s past) in
    let same : (w : ℕ) → w < m.ways → left_below m mask first_line set m.ways w ≡ residents w = λ w l. let below : nat_lt w m.ways ≡ true = lt-ltb w m.ways l in rw below (sym (left w)) in
    let inside : (v : ℕ) → is_empty c.places v ≡ false → (v < m.ways) × (has_way mask v ≡ true) = λ v full.
    let held = way_of-held v c.places full is.once in
    let p = Holds-below m mask first_line set m.ways held.0 v (is.sound held.0 v held.1).1 in (p.0, p.1) in
    let aged : (v : ℕ) → (v < m.ways) × (has_way mask v ≡ true) → age_below mask m.ways v ≡ v + 1 = λ v p. let below : nat_lt v m.ways ≡ true = lt-ltb v m.ways p.0 in let its : has_way mask v ≡ true = p.1 in rw (below, its) refl in
    record {
      sound = λ y w e. let r = is.sound y w e in (r.0, subst (λ (o : Option Resident). option_map (λ (q : Resident). q.line) o ≡ Some y) (same w r.0) r.1);
      whole = λ y w l h. is.whole y w l (subst (λ (o : Option Resident). option_map (λ (q : Resident). q.line) o ≡ Some y) (sym (same w l)) h);
      once = is.once;
      older = λ v w a b less.
          let v_used : age v ≡ now = used v (inside v a).1 in
          let w_used : age w ≡ now = used w (inside w b).1 in
          absurd (omega arith);
      tied = λ v w a b e less.
          let v_aged : age_below mask m.ways v ≡ v + 1 = aged v (inside v a) in
          let w_aged : age_below mask m.ways w ≡ w + 1 = aged w (inside w b) in
          is.older v w a b (subst (λ z. z < age_below mask m.ways w) (sym v_aged) (subst (λ z. v + 1 < z) (sym w_aged) (omega arith)));
      past = is.past;
    }
