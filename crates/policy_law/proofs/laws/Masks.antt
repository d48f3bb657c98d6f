-- The ways of a mask, and the first, the least and those picked of them.
use Rattle.std.proofs.Common.{◌≡◌, ℕ, zero, suc, ◌%◌, ◌<◌, Bool, true, false, cond, not, ◌&&◌, ◌==◌, nat_lt, List, [], ◌∷◌, length, Option, Some, None, refl, sym, ◌∙◌, ap, inl, inr, arith}
use Rattle.std.specs.Prelude.{find, unwrap_or, slice_index}
use Rattle.std.specs.List.{list_all}
use Rattle.std.proofs.lemmas.Bool.{cases_Bool, eq-eqb, ne_eqb, true≢false, and_parts, false_from_ne_true, ltb-true}
use Rattle.policy_law.specs.Policies.{has_way}
use Rattle.policy_law.specs.Isolation.{is_apart}
use Rattle.policy_law.specs.KnownPolicies.{with_at, least_way, first_way, nth_way}
use Rattle.policy_law.proofs.laws.Places.{has_way-find, has_way-apart}

-- the first
pub has_way-first_way : (mask : List ℕ) → 0 < length mask → has_way mask (first_way mask) ≡ true
has_way-first_way [] some = absurd (omega arith)
has_way-first_way (w ∷ ws) some = let same : (w == w) ≡ true = eq-eqb w w refl in rw same refl

-- one of them by its place
has_way-index : (mask : List ℕ) (k : ℕ) → k < length mask → has_way mask (slice_index mask k) ≡ true
has_way-index [] k within = absurd (omega arith)
has_way-index (w ∷ ws) zero within = let same : (w == w) ≡ true = eq-eqb w w refl in rw same refl
has_way-index (w ∷ ws) (suc k) within = elim (cases_Bool (w == slice_index ws k)) [
  | inl h ↦ rw h refl
  | inr h ↦ rw h (has_way-index ws k (omega arith))
]

-- what is picked
pub has_way-nth_way : (mask : List ℕ) (number : ℕ) → 0 < length mask → has_way mask (nth_way mask number) ≡ true
has_way-nth_way mask number some = has_way-index mask (number % length mask) (omega arith)

-- what is found, or the first
pub has_way-found : (p : ℕ → Bool) (mask : List ℕ) (o : Option ℕ) → find p mask ≡ o → 0 < length mask → has_way mask (unwrap_or o (first_way mask)) ≡ true
has_way-found p mask None e some = has_way-first_way mask some
has_way-found p mask (Some w) e some = has_way-find p mask w e

-- the ways behind the first
pub has_way-rest : (v w : ℕ) (ws : List ℕ) → has_way ws w ≡ true → has_way (v ∷ ws) w ≡ true
has_way-rest v w ws h = elim (cases_Bool (v == w)) [ inl k ↦ rw k refl | inr k ↦ rw k h ]

-- the first of some
pub has_way-front : (v : ℕ) (ws : List ℕ) → has_way (v ∷ ws) v ≡ true
has_way-front v ws = let same : (v == v) ≡ true = eq-eqb v v refl in rw same refl

-- one of two
cond-within : (mask : List ℕ) (b : Bool) (v w : ℕ) → has_way mask v ≡ true → has_way mask w ≡ true → has_way mask (cond b v w) ≡ true
cond-within mask true v w a b = a
cond-within mask false v w a b = b

-- the least
pub has_way-least_way : (mask : List ℕ) (key : ℕ → ℕ) (best : ℕ) (ways : List ℕ) → has_way mask best ≡ true → ((w : ℕ) → has_way ways w ≡ true → has_way mask w ≡ true) → has_way mask (least_way key best ways) ≡ true
has_way-least_way mask key best [] h all = h
has_way-least_way mask key best (w ∷ ws) h all =
    has_way-least_way mask key (cond (nat_lt (key w) (key best)) w best) ws (cond-within mask (nat_lt (key w) (key best)) w best (all w (has_way-front w ws)) h) (λ v k. all v (has_way-rest w v ws k))

-- the least by two keys in one order
pub least_way-same : (mask : List ℕ) (key other : ℕ → ℕ) → ((v w : ℕ) → has_way mask v ≡ true → has_way mask w ≡ true → nat_lt (key v) (key w) ≡ nat_lt (other v) (other w)) → (best : ℕ) (ways : List ℕ) → has_way mask best ≡ true
    → ((w : ℕ) → has_way ways w ≡ true → has_way mask w ≡ true) → least_way key best ways ≡ least_way other best ways
least_way-same mask key other same best [] h all = refl
least_way-same mask key other same best (w ∷ ws) h all =
    let here : has_way mask w ≡ true = all w (has_way-front w ws) in
    let ih : least_way key (cond (nat_lt (key w) (key best)) w best) ws ≡ least_way other (cond (nat_lt (key w) (key best)) w best) ws =
    least_way-same mask key other same (cond (nat_lt (key w) (key best)) w best) ws (cond-within mask (nat_lt (key w) (key best)) w best here h) (λ v k. all v (has_way-rest w v ws k)) in
    ih ∙ ap (λ b. least_way other (cond b w best) ws) (same w best here h)

-- a way of a mask is in no mask apart from it
pub has_way-away : (m its : List ℕ) (v : ℕ) → is_apart m its ≡ true → has_way m v ≡ true → has_way its v ≡ false
has_way-away m its v apart h =
    let parts = and_parts (nat_lt 0 (length its)) (list_all (λ (w : ℕ). not (has_way m w)) its) apart in
    false_from_ne_true (has_way its v) (λ k. true≢false (sym h ∙ has_way-apart m its v parts.1 k))

-- and is another than a way outside
pub way-other : (m : List ℕ) (v w : ℕ) → has_way m v ≡ true → has_way m w ≡ false → (v == w) ≡ false
way-other m v w h k = ne_eqb v w (λ e. true≢false (sym h ∙ (ap (has_way m) e ∙ k)))

-- a mask that is apart has a way
pub length-apart : (m its : List ℕ) → is_apart m its ≡ true → 0 < length its
length-apart m its apart = ltb-true 0 (length its) (and_parts (nat_lt 0 (length its)) (list_all (λ (w : ℕ). not (has_way m w)) its) apart).0

-- the same value at one way
pub with_at-same : {A : Type 0} (f g : ℕ → A) (w v : ℕ) (a : A) → f v ≡ g v → with_at f w a v ≡ with_at g w a v
with_at-same f g w v a h = elim (cases_Bool (v == w)) [ inl k ↦ rw k refl | inr k ↦ rw k h ]

-- no value where it is another way
pub with_at-other : {A : Type 0} (f : ℕ → A) (w v : ℕ) (a : A) → (v == w) ≡ false → with_at f w a v ≡ f v
with_at-other f w v a k = rw k refl

-- the same tests of all
pub list_all-same : (p q : ℕ → Bool) (ways : List ℕ) → ((w : ℕ) → has_way ways w ≡ true → p w ≡ q w) → list_all p ways ≡ list_all q ways
list_all-same p q [] same = refl
list_all-same p q (w ∷ ws) same =
    ap (λ b. b && list_all p ws) (same w (has_way-front w ws)) ∙ ap (λ b. q w && b) (list_all-same p q ws (λ v h. same v (has_way-rest w v ws h)))
