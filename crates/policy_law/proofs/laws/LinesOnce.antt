-- No line stands in two ways of a set.
use Rattle.std.proofs.Common.{◌≡◌, ◌≢◌, ℕ, Bool, true, false, not, ◌==◌, List, [], ◌∷◌, Option, Some, None, refl, sym, ◌∙◌, ap, inl, inr}
use Rattle.std.specs.Prelude.{filter}
use Rattle.std.proofs.lemmas.Bool.{cases_Bool, eqb-true, eq-eqb, ne_eqb, true≢false}
use Rattle.std.proofs.lemmas.Option.{none-some, same_Some}
use Rattle.policy_law.specs.Policies.{Policy, HeldLine, CacheSet, way_of, is_empty, fill_way, after_access, after_drop}

-- no line stands twice
abbrev pub AreOnce : List HeldLine → Type 0
AreOnce [] = Unit {0}
AreOnce (p ∷ ps) = (way_of p.line ps ≡ None) × AreOnce ps

-- a line that is nowhere is in no part
pub way_of-filter_none : (x : ℕ) (q : HeldLine → Bool) (ps : List HeldLine) → way_of x ps ≡ None → way_of x (filter q ps) ≡ None
way_of-filter_none x q [] e = refl
way_of-filter_none x q (p ∷ ps) e = elim (cases_Bool (p.line == x)) [
  | inl k ↦ let no : Some p.way ≡ None = rw k at e in absurd (none-some p.way (sym no))
  | inr k ↦
      let rest : way_of x ps ≡ None = rw k at e in
      let ih : way_of x (filter q ps) ≡ None = way_of-filter_none x q ps rest in
      elim (cases_Bool (q p)) [ inl t ↦ rw t (rw k ih) | inr t ↦ rw t ih ]
]

-- fewer lines
pub AreOnce-filter : (q : HeldLine → Bool) (ps : List HeldLine) → AreOnce ps → AreOnce (filter q ps)
AreOnce-filter q [] once = tt
AreOnce-filter q (p ∷ ps) once = elim (cases_Bool (q p)) [
  | inl t ↦ rw t (way_of-filter_none p.line q ps once.0, AreOnce-filter q ps once.1)
  | inr t ↦ rw t (AreOnce-filter q ps once.1)
]

-- one line more, that was nowhere
pub AreOnce-after_access : {S : Type 0} (policy : Policy S) (mask : List ℕ) (x : ℕ) (c : CacheSet S) (o : Option ℕ) → way_of x c.places ≡ o → AreOnce c.places → AreOnce (after_access policy mask x c o).places
AreOnce-after_access policy mask x c (Some w) found once = once
AreOnce-after_access policy mask x c None found once =
    (way_of-filter_none x (λ (p : HeldLine). not (p.way == fill_way policy mask c)) c.places found, AreOnce-filter (λ (p : HeldLine). not (p.way == fill_way policy mask c)) c.places once)

-- a line less
pub AreOnce-after_drop : {S : Type 0} (policy : Policy S) (x : ℕ) (c : CacheSet S) (o : Option ℕ) → AreOnce c.places → AreOnce (after_drop policy x c o).places
AreOnce-after_drop policy x c None once = once
AreOnce-after_drop policy x c (Some w) once = AreOnce-filter (λ (p : HeldLine). not (p.line == x)) c.places once

-- the line of a way that holds one
pub way_of-held : (w : ℕ) (ps : List HeldLine) → is_empty ps w ≡ false → AreOnce ps → (y : ℕ) × (way_of y ps ≡ Some w)
way_of-held w [] h once = absurd (true≢false h)
way_of-held w (p ∷ ps) h once = elim (cases_Bool (p.way == w)) [
  | inl k ↦ (p.line, let same : (p.line == p.line) ≡ true = eq-eqb p.line p.line refl in rw same (ap (λ (v : ℕ). Some v) (eqb-true p.way w k)))
  | inr k ↦
      let rest : is_empty ps w ≡ false = rw k at h in
      let r = way_of-held w ps rest once.1 in
      let away : (p.line == r.0) ≡ false = ne_eqb p.line r.0 (λ e. none-some w (sym once.0 ∙ (ap (λ z. way_of z ps) e ∙ r.1))) in
      (r.0, rw away r.1)
]

-- it stays when another way is taken
pub way_of-kept : (y v w : ℕ) (ps : List HeldLine) → way_of y ps ≡ Some v → (v == w) ≡ false → way_of y (filter (λ (p : HeldLine). not (p.way == w)) ps) ≡ Some v
way_of-kept y v w [] e away = elim (none-some v e) [ ]
way_of-kept y v w (p ∷ ps) e away = elim (cases_Bool (p.line == y)) [
  | inl k ↦
      let there : Some p.way ≡ Some v = rw k at e in
      let kept : (p.way == w) ≡ false = ap (λ u. u == w) (same_Some p.way v there) ∙ away in
      rw kept (rw k there)
  | inr k ↦
      let rest : way_of y ps ≡ Some v = rw k at e in
      let ih : way_of y (filter (λ (q : HeldLine). not (q.way == w)) ps) ≡ Some v = way_of-kept y v w ps rest away in
      elim (cases_Bool (p.way == w)) [ inl t ↦ rw t ih | inr t ↦ rw t (rw k ih) ]
]

-- it goes when its own is
pub way_of-taken : (y w : ℕ) (ps : List HeldLine) → way_of y ps ≡ Some w → AreOnce ps → way_of y (filter (λ (p : HeldLine). not (p.way == w)) ps) ≡ None
way_of-taken y w [] e once = elim (none-some w e) [ ]
way_of-taken y w (p ∷ ps) e once = elim (cases_Bool (p.line == y)) [
  | inl k ↦
      let there : Some p.way ≡ Some w = rw k at e in
      let gone : (p.way == w) ≡ true = eq-eqb p.way w (same_Some p.way w there) in
      rw gone (way_of-filter_none y (λ (q : HeldLine). not (q.way == w)) ps (ap (λ z. way_of z ps) (sym (eqb-true p.line y k)) ∙ once.0))
  | inr k ↦
      let rest : way_of y ps ≡ Some w = rw k at e in
      let ih : way_of y (filter (λ (q : HeldLine). not (q.way == w)) ps) ≡ None = way_of-taken y w ps rest once.1 in
      elim (cases_Bool (p.way == w)) [ inl t ↦ rw t ih | inr t ↦ rw t (rw k ih) ]
]
