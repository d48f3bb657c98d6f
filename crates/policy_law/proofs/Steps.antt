-- One entry more in a slice, and in a set under the policy.
use Rattle.std.proofs.Common.{◌≡◌, ℕ, ◌<◌, true, false, not, ◌==◌, List, ◌∷◌, Option, Some, None, refl, sym, ◌∙◌, ap, subst, inl, inr, arith}
use Rattle.std.specs.Prelude.{filter, option_map}
use Rattle.std.proofs.lemmas.Bool.{cases_Bool, eqb-true, eqb-false, eq-eqb, ne_eqb, true≢false}
use Rattle.std.proofs.lemmas.Option.{none-some, same_Some}
use Rattle.cache_core.specs.Fills.{Resident, Holds}
use Rattle.policy_law.specs.Policies.{HeldLine, CacheSet, way_of, is_empty, fill_way, after_access, after_drop}
use Rattle.policy_law.specs.KnownPolicies.{Stamps, with_stamp, with_at, lru}
use Rattle.policy_law.proofs.laws.Stamped.{past-with_stamp}
use Rattle.policy_law.proofs.laws.LinesOnce.{AreOnce, AreOnce-after_access, AreOnce-after_drop, way_of-kept}
use Rattle.policy_law.proofs.SetPlaces.{IsSet, is_empty-filter, way_of-untaken, way_of-undropped, way_of-dropped}

-- nothing happens
pub IsSet-same : (n : ℕ) (residents residents' : ℕ → Option Resident) (age age' : ℕ → ℕ) (c : CacheSet Stamps) → ((v : ℕ) → residents' v ≡ residents v) → ((v : ℕ) → age' v ≡ age v) → IsSet n residents age c → IsSet n residents' age' c
IsSet-same n residents residents' age age' c same same_age is = record {
  sound = λ y w e. let r = is.sound y w e in (r.0, subst (λ (o : Option Resident). option_map (λ (q : Resident). q.line) o ≡ Some y) (sym (same w)) r.1);
  whole = λ y w l h. is.whole y w l (subst (λ (o : Option Resident). option_map (λ (q : Resident). q.line) o ≡ Some y) (same w) h);
  once = is.once;
  older = λ v w a b l. is.older v w a b (subst (λ z. z < age w) (same_age v) (subst (λ z. age' v < z) (same_age w) l));
  tied = λ v w a b e l. is.tied v w a b (sym (same_age v) ∙ (e ∙ same_age w)) l;
  past = is.past;
}

-- the order of stamps after a use
older-use : (s : Stamps) (age age' : ℕ → ℕ) (now way v u : ℕ) → ((w : ℕ) → age w < now) → ((w : ℕ) → s.stamp w < s.clock) → ((w : ℕ) → age' w ≡ with_at age way now w)
    → ((v == way) ≡ false → (u == way) ≡ false → age v < age u → s.stamp v < s.stamp u) → age' v < age' u → (with_stamp way s).stamp v < (with_stamp way s).stamp u
older-use s age age' now way v u before past aged same less =
    let both : with_at age way now v < with_at age way now u = subst (λ z. z < with_at age way now u) (aged v) (subst (λ z. age' v < z) (aged u) less) in
    let bv : age v < now = before v in
    let bu : age u < now = before u in
    let pv : s.stamp v < s.clock = past v in
    elim (cases_Bool (v == way)) [
      | inl k ↦ elim (cases_Bool (u == way)) [
        | inl l ↦ let f : now < now = rw (k, l) at both in absurd (omega arith)
        | inr l ↦ let f : now < age u = rw (k, l) at both in absurd (omega arith)
      ]
      | inr k ↦ elim (cases_Bool (u == way)) [
        | inl l ↦ rw (k, l) pv
        | inr l ↦ let f : age v < age u = rw (k, l) at both in rw (k, l) (same k l f)
      ]
    ]

-- and of ways that are as old
tied-use : (s : Stamps) (age age' : ℕ → ℕ) (now way v u : ℕ) → ((w : ℕ) → age w < now) → ((w : ℕ) → s.stamp w < s.clock) → ((w : ℕ) → age' w ≡ with_at age way now w)
    → ((v == way) ≡ false → (u == way) ≡ false → age v ≡ age u → s.stamp v < s.stamp u) → age' v ≡ age' u → v < u → (with_stamp way s).stamp v < (with_stamp way s).stamp u
tied-use s age age' now way v u before past aged same e less =
    let both : with_at age way now v ≡ with_at age way now u = sym (aged v) ∙ (e ∙ aged u) in
    let bv : age v < now = before v in
    let bu : age u < now = before u in
    elim (cases_Bool (v == way)) [
      | inl k ↦ elim (cases_Bool (u == way)) [
        | inl l ↦ let one : v ≡ u = eqb-true v way k ∙ sym (eqb-true u way l) in absurd (omega arith)
        | inr l ↦ let f : now ≡ age u = rw (k, l) at both in absurd (omega arith)
      ]
      | inr k ↦ elim (cases_Bool (u == way)) [
        | inl l ↦ let f : age v ≡ now = rw (k, l) at both in absurd (omega arith)
        | inr l ↦ let f : age v ≡ age u = rw (k, l) at both in rw (k, l) (same k l f)
      ]
    ]

-- a hit
pub IsSet-hit : (n x way now : ℕ) (mask : List ℕ) (residents residents' : ℕ → Option Resident) (age age' : ℕ → ℕ) (c : CacheSet Stamps) → ((v : ℕ) → residents' v ≡ residents v) → ((w : ℕ) → age w < now)
    → ((w : ℕ) → age' w ≡ with_at age way now w) → IsSet n residents age c → IsSet n residents' age' (after_access lru mask x c (Some way))
IsSet-hit n x way now mask residents residents' age age' c same before aged is = record {
  sound = (IsSet-same n residents residents' age age c same (λ v. refl) is).sound;
  whole = (IsSet-same n residents residents' age age c same (λ v. refl) is).whole;
  once = is.once;
  older = λ v u a b l. older-use c.state age age' now way v u before is.past aged (λ _ _. is.older v u a b) l;
  tied = λ v u a b e l. tied-use c.state age age' now way v u before is.past aged (λ _ _ f. is.tied v u a b f l) e l;
  past = λ v. past-with_stamp c.state way v (is.past v);
}

-- a fill
pub IsSet-fill : (n x way now : ℕ) (mask : List ℕ) (residents residents' : ℕ → Option Resident) (age age' : ℕ → ℕ) (c : CacheSet Stamps) → way < n → way_of x c.places ≡ None → fill_way lru mask c ≡ way
    → Holds residents' x way → ((v : ℕ) → (v == way) ≡ false → residents' v ≡ residents v) → ((w : ℕ) → age w < now)
    → ((w : ℕ) → age' w ≡ with_at age way now w) → IsSet n residents age c → IsSet n residents' age' (after_access lru mask x c None)
IsSet-fill n x way now mask residents residents' age age' c within missed filled holds same before aged is =
    let places : List HeldLine = record { way = way; line = x } ∷ filter (λ (p : HeldLine). not (p.way == way)) c.places in
    let stays : (v : ℕ) → is_empty places v ≡ false → (v == way) ≡ false → is_empty c.places v ≡ false = λ v h k.
    let away : (way == v) ≡ false = ne_eqb way v (λ e. true≢false (sym (eq-eqb v way (sym e)) ∙ k)) in
    is_empty-filter (λ (p : HeldLine). not (p.way == way)) v c.places (rw away at h) in
    let Result : ℕ → Type 0 = λ w. IsSet n residents' age' (record { places = record { way = w; line = x } ∷ filter (λ (p : HeldLine). not (p.way == w)) c.places; state = with_stamp w c.state }) in
    let at_way : Result way = record {
      sound = λ y v e. elim (cases_Bool (x == y)) [
        | inl k ↦
            let there : Some way ≡ Some v = rw k at e in
            let is_way : way ≡ v = same_Some way v there in
            (subst (λ w. w < n) is_way within, subst (λ w. Holds residents' y w) is_way (subst (λ z. Holds residents' z way) (eqb-true x y k) holds))
        | inr k ↦
            let rest : way_of y (filter (λ (p : HeldLine). not (p.way == way)) c.places) ≡ Some v = rw k at e in
            let r = way_of-untaken y v way c.places is.once rest in
            let h = is.sound y v r.0 in
            (h.0, subst (λ (o : Option Resident). option_map (λ (q : Resident). q.line) o ≡ Some y) (sym (same v r.1)) h.1)
      ];
      whole = λ y v l h. elim (cases_Bool (v == way)) [
        | inl k ↦
            let there : Holds residents' y way = subst (λ w. Holds residents' y w) (eqb-true v way k) h in
            let line : x ≡ y = same_Some x y (sym holds ∙ there) in
            let test : (x == y) ≡ true = eq-eqb x y line in
            rw test (ap (λ (w : ℕ). Some w) (sym (eqb-true v way k)))
        | inr k ↦
            let old : way_of y c.places ≡ Some v = is.whole y v l (subst (λ (o : Option Resident). option_map (λ (q : Resident). q.line) o ≡ Some y) (same v k) h) in
            let test : (x == y) ≡ false = ne_eqb x y (λ e. none-some v (sym missed ∙ (ap (λ z. way_of z c.places) e ∙ old))) in
            rw test (way_of-kept y v way c.places old k)
      ];
      once = subst (λ w. AreOnce (record { way = w; line = x } ∷ filter (λ (p : HeldLine). not (p.way == w)) c.places)) filled (AreOnce-after_access lru mask x c None missed is.once);
      older = λ v u a b less. older-use c.state age age' now way v u before is.past aged (λ k l. is.older v u (stays v a k) (stays u b l)) less;
      tied = λ v u a b e less. tied-use c.state age age' now way v u before is.past aged (λ k l f. is.tied v u (stays v a k) (stays u b l) f less) e less;
      past = λ v. past-with_stamp c.state way v (is.past v);
    } in
    subst Result (sym filled) at_way

-- a drop
pub IsSet-drop : (n x way : ℕ) (residents residents' : ℕ → Option Resident) (age age' : ℕ → ℕ) (c : CacheSet Stamps) → way < n → Holds residents x way → residents' way ≡ None → ((v : ℕ) → (v == way) ≡ false → residents' v ≡ residents v)
    → ((v : ℕ) → age' v ≡ age v) → IsSet n residents age c → IsSet n residents' age' (after_drop lru x c (Some way))
IsSet-drop n x way residents residents' age age' c within holds gone same same_age is =
    let here : way_of x c.places ≡ Some way = is.whole x way within holds in
    let stays : (v : ℕ) → is_empty (filter (λ (p : HeldLine). not (p.line == x)) c.places) v ≡ false → is_empty c.places v ≡ false = λ v h. is_empty-filter (λ (p : HeldLine). not (p.line == x)) v c.places h in
    record {
      sound = λ y v e. elim (cases_Bool (y == x)) [
        | inl k ↦ absurd (none-some v (sym (way_of-dropped x c.places) ∙ (ap (λ z. way_of z (filter (λ (p : HeldLine). not (p.line == x)) c.places)) (sym (eqb-true y x k)) ∙ e)))
        | inr k ↦
            let h = is.sound y v (sym (way_of-undropped x y c.places k) ∙ e) in
            let away : (v == way) ≡ false = ne_eqb v way (λ q. eqb-false y x k (same_Some y x (sym h.1 ∙ (ap (λ w. option_map (λ (r : Resident). r.line) (residents w)) q ∙ holds)))) in
            (h.0, subst (λ (o : Option Resident). option_map (λ (q : Resident). q.line) o ≡ Some y) (sym (same v away)) h.1)
      ];
      whole = λ y v l h. elim (cases_Bool (v == way)) [
        | inl k ↦ absurd (none-some y (sym (ap (λ (o : Option Resident). option_map (λ (r : Resident). r.line) o) gone) ∙ (ap (λ w. option_map (λ (r : Resident). r.line) (residents' w)) (sym (eqb-true v way k)) ∙ h)))
        | inr k ↦
            let old : way_of y c.places ≡ Some v = is.whole y v l (subst (λ (o : Option Resident). option_map (λ (q : Resident). q.line) o ≡ Some y) (same v k) h) in
            let other : (y == x) ≡ false = ne_eqb y x (λ q. eqb-false v way k (same_Some v way (sym old ∙ (ap (λ z. way_of z c.places) q ∙ here)))) in
            way_of-undropped x y c.places other ∙ old
      ];
      once = AreOnce-after_drop lru x c (Some way) is.once;
      older = λ v u a b l. is.older v u (stays v a) (stays u b) (subst (λ z. z < age u) (same_age v) (subst (λ z. age' v < z) (same_age u) l));
      tied = λ v u a b e l. is.tied v u (stays v a) (stays u b) (sym (same_age v) ∙ (e ∙ same_age u)) l;
      past = is.past;
    }
