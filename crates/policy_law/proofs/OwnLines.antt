-- Sets that hold lines of one group alone.
use Rattle.std.proofs.Common.{◌≡◌, ℕ, Bool, true, false, not, ◌==◌, List, [], ◌∷◌, Option, Some, None, refl, sym, ◌∙◌, ap, inl, inr}
use Rattle.std.specs.Prelude.{filter}
use Rattle.std.specs.List.{list_all}
use Rattle.std.proofs.lemmas.Bool.{cases_Bool, and_from, and_parts, ne_eqb, true≢false}
use Rattle.policy_law.specs.Policies.{CacheSet, HeldLine, way_of, after_access, after_drop, fill_way}
use Rattle.policy_law.specs.KnownPolicies.{Stamps, lru}

-- each line is the group's
abbrev pub AreOwn : (ℕ → Bool) → List HeldLine → Type 0
AreOwn own places = list_all (λ (p : HeldLine). own p.line) places ≡ true

-- of fewer places too
AreOwn-filter : (own : ℕ → Bool) (q : HeldLine → Bool) (ps : List HeldLine) → AreOwn own ps → AreOwn own (filter q ps)
AreOwn-filter own q [] h = refl
AreOwn-filter own q (p ∷ ps) h =
    let parts = and_parts (own p.line) (list_all (λ (r : HeldLine). own r.line) ps) h in
    elim (cases_Bool (q p)) [
      | inl k ↦ rw k (and_from (own p.line) _ parts.0 (AreOwn-filter own q ps parts.1))
      | inr k ↦ rw k (AreOwn-filter own q ps parts.1)
    ]

-- after an access of the group
pub AreOwn-access : (own : ℕ → Bool) (mask : List ℕ) (x : ℕ) (d : CacheSet Stamps) (o : Option ℕ) → own x ≡ true → AreOwn own d.places → AreOwn own (after_access lru mask x d o).places
AreOwn-access own mask x d (Some w) mine h = h
AreOwn-access own mask x d None mine h = and_from (own x) _ mine (AreOwn-filter own (λ (p : HeldLine). not (p.way == fill_way lru mask d)) d.places h)

-- after a drop
pub AreOwn-drop : (own : ℕ → Bool) (x : ℕ) (d : CacheSet Stamps) (o : Option ℕ) → AreOwn own d.places → AreOwn own (after_drop lru x d o).places
AreOwn-drop own x d (Some w) h = AreOwn-filter own (λ (p : HeldLine). not (p.line == x)) d.places h
AreOwn-drop own x d None h = h

-- another's line is not there
pub way_of-foreign : (own : ℕ → Bool) (x : ℕ) (ps : List HeldLine) → AreOwn own ps → own x ≡ false → way_of x ps ≡ None
way_of-foreign own x [] h foreign = refl
way_of-foreign own x (p ∷ ps) h foreign =
    let parts = and_parts (own p.line) (list_all (λ (r : HeldLine). own r.line) ps) h in
    let other : (p.line == x) ≡ false = ne_eqb p.line x (λ e. true≢false (sym parts.0 ∙ (ap own e ∙ foreign))) in
    rw other (way_of-foreign own x ps parts.1 foreign)
