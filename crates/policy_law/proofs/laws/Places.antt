-- The places of a set in the ways of a mask.
use Rattle.std.proofs.Common.{◌≡◌, ℕ, ◌<◌, Bool, true, false, not, ◌&&◌, ◌==◌, List, [], ◌∷◌, length, Option, Some, None, refl, sym, ◌∙◌, ap, inl, inr}
use Rattle.std.specs.Prelude.{filter, find, unwrap_or}
use Rattle.std.specs.List.{list_any, list_all}
use Rattle.std.proofs.lemmas.Bool.{cases_Bool, eqb-true, eqb-false, eq-eqb, ne_eqb, false≢true, true≢false, and_parts, not-true}
use Rattle.std.proofs.lemmas.Option.{none-some, same_Some}
use Rattle.policy_law.specs.Policies.{Policy, HeldLine, CacheSet, has_way, way_of, is_empty}
use Rattle.policy_law.specs.Isolation.{KeepsMasks}

-- the places in ways of the mask
abbrev pub within : List ℕ → List HeldLine → List HeldLine
within m ps = filter (λ (p : HeldLine). has_way m p.way) ps

-- the ways of the mask, and no others, hold lines of the group
abbrev pub AreOwned : List ℕ → (ℕ → Bool) → List HeldLine → Type 0
AreOwned m own [] = Unit {0}
AreOwned m own (p ∷ ps) = (has_way m p.way ≡ own p.line) × AreOwned m own ps

-- a line of the group is found among them
pub way_of-within : (m : List ℕ) (own : ℕ → Bool) (x : ℕ) (ps : List HeldLine) → AreOwned m own ps → own x ≡ true → way_of x (within m ps) ≡ way_of x ps
way_of-within m own x [] owned mine = refl
way_of-within m own x (p ∷ ps) owned mine =
    let ih : way_of x (within m ps) ≡ way_of x ps = way_of-within m own x ps owned.1 mine in
    elim (cases_Bool (p.line == x)) [
      | inl k ↦ let here : has_way m p.way ≡ true = owned.0 ∙ (ap own (eqb-true p.line x k) ∙ mine) in rw here (rw k refl)
      | inr k ↦ elim (cases_Bool (has_way m p.way)) [
        | inl here ↦ rw here (rw k ih)
        | inr here ↦ rw here (rw k ih)
      ]
    ]

-- a line of another is not
pub way_of-within_other : (m : List ℕ) (own : ℕ → Bool) (x : ℕ) (ps : List HeldLine) → AreOwned m own ps → own x ≡ false → way_of x (within m ps) ≡ None
way_of-within_other m own x [] owned other = refl
way_of-within_other m own x (p ∷ ps) owned other =
    let ih : way_of x (within m ps) ≡ None = way_of-within_other m own x ps owned.1 other in
    elim (cases_Bool (has_way m p.way)) [
      | inl here ↦
          let away : (p.line == x) ≡ false = ne_eqb p.line x (λ e. true≢false (sym here ∙ (owned.0 ∙ (ap own e ∙ other)))) in
          rw here (rw away ih)
      | inr here ↦ rw here ih
    ]

-- the way of a line is the mask's just where the line is the group's
pub has_way-way_of : (m : List ℕ) (own : ℕ → Bool) (x w : ℕ) (ps : List HeldLine) → AreOwned m own ps → way_of x ps ≡ Some w → has_way m w ≡ own x
has_way-way_of m own x w [] owned e = elim (none-some w e) [ ]
has_way-way_of m own x w (p ∷ ps) owned e =
    elim (cases_Bool (p.line == x)) [
      | inl k ↦
          let there : Some p.way ≡ Some w = rw k at e in
          ap (has_way m) (sym (same_Some p.way w there)) ∙ (owned.0 ∙ ap own (eqb-true p.line x k))
      | inr k ↦ let rest : way_of x ps ≡ Some w = rw k at e in has_way-way_of m own x w ps owned.1 rest
    ]

-- whether a way of the mask is empty
pub is_empty-within : (m : List ℕ) (w : ℕ) (ps : List HeldLine) → has_way m w ≡ true → is_empty (within m ps) w ≡ is_empty ps w
is_empty-within m w [] here = refl
is_empty-within m w (p ∷ ps) here =
    let ih : is_empty (within m ps) w ≡ is_empty ps w = is_empty-within m w ps here in
    elim (cases_Bool (p.way == w)) [
      | inl k ↦ let its : has_way m p.way ≡ true = ap (has_way m) (eqb-true p.way w k) ∙ here in rw its (rw k refl)
      | inr k ↦ elim (cases_Bool (has_way m p.way)) [
        | inl its ↦ rw its (rw k ih)
        | inr its ↦ rw its (rw k ih)
      ]
    ]

-- the first way that passes, where two tests say the same of each
pub find-same : (p q : ℕ → Bool) (l : List ℕ) → ((w : ℕ) → has_way l w ≡ true → p w ≡ q w) → find p l ≡ find q l
find-same p q [] same = refl
find-same p q (v ∷ vs) same =
    let there : (v == v) ≡ true = eq-eqb v v refl in
    let first_way : p v ≡ q v = same v (rw there refl) in
    let ih : find p vs ≡ find q vs = find-same p q vs (λ w h. same w (elim (cases_Bool (v == w)) [ inl k ↦ rw k refl | inr k ↦ rw k h ])) in
    elim (cases_Bool (q v)) [
      | inl k ↦ rw (first_way ∙ k, k) refl
      | inr k ↦ rw (first_way ∙ k, k) ih
    ]

-- what is found is in the list
pub has_way-find : (p : ℕ → Bool) (l : List ℕ) (w : ℕ) → find p l ≡ Some w → has_way l w ≡ true
has_way-find p [] w e = elim (none-some w e) [ ]
has_way-find p (v ∷ vs) w e = elim (cases_Bool (v == w)) [
  | inl k ↦ rw k refl
  | inr k ↦ elim (cases_Bool (p v)) [
    | inl t ↦ let there : Some v ≡ Some w = rw t at e in absurd (eqb-false v w k (same_Some v w there))
    | inr t ↦ let rest : find p vs ≡ Some w = rw t at e in rw k (has_way-find p vs w rest)
  ]
]

-- where none is found, each way fails
pub find-none : (p : ℕ → Bool) (l : List ℕ) (w : ℕ) → find p l ≡ None → has_way l w ≡ true → p w ≡ false
find-none p [] w e h = elim (false≢true h) [ ]
find-none p (v ∷ vs) w e h = elim (cases_Bool (p v)) [
  | inl t ↦ let no : Some v ≡ None = rw t at e in absurd (none-some v (sym no))
  | inr t ↦ elim (cases_Bool (v == w)) [
    | inl k ↦ ap p (sym (eqb-true v w k)) ∙ t
    | inr k ↦ let rest : has_way vs w ≡ true = rw k at h in let none : find p vs ≡ None = rw t at e in find-none p vs w none rest
  ]
]

-- a fill takes a way of its mask
pub has_way-filled : {S : Type 0} (policy : Policy S) (mask : List ℕ) (c : CacheSet S) → KeepsMasks policy → 0 < length mask → (o : Option ℕ) → find (is_empty c.places) mask ≡ o → has_way mask (unwrap_or o (policy.victim mask c.state)) ≡ true
has_way-filled policy mask c keeps some None e = keeps mask c.state some
has_way-filled policy mask c keeps some (Some w) e = has_way-find (is_empty c.places) mask w e

-- filters in either order
pub filter-swap : (p q : HeldLine → Bool) (ps : List HeldLine) → filter p (filter q ps) ≡ filter q (filter p ps)
filter-swap p q [] = refl
filter-swap p q (x ∷ xs) =
    let ih : filter p (filter q xs) ≡ filter q (filter p xs) = filter-swap p q xs in
    elim (cases_Bool (p x)) [
      | inl a ↦ elim (cases_Bool (q x)) [ inl b ↦ rw (a, b) (rw a (ap (λ l. x ∷ l) ih)) | inr b ↦ rw (a, b) ih ]
      | inr a ↦ elim (cases_Bool (q x)) [ inl b ↦ rw (a, b) (rw a ih) | inr b ↦ rw (a, b) ih ]
    ]

-- taking out what is not in the ways of the mask changes nothing there
pub within-filter : (m : List ℕ) (q : HeldLine → Bool) (ps : List HeldLine) → ((p : HeldLine) → list_any (λ (r : HeldLine). (r.way == p.way) && (r.line == p.line)) ps ≡ true → q p ≡ false → has_way m p.way ≡ false) → within m (filter q ps) ≡ within m ps
within-filter m q [] away = refl
within-filter m q (p ∷ ps) away =
    let ih : within m (filter q ps) ≡ within m ps = within-filter m q ps (λ r h. away r (elim (cases_Bool ((p.way == r.way) && (p.line == r.line))) [ inl k ↦ rw k refl | inr k ↦ rw k h ])) in
    let w : (p.way == p.way) ≡ true = eq-eqb p.way p.way refl in
    let l : (p.line == p.line) ≡ true = eq-eqb p.line p.line refl in
    elim (cases_Bool (q p)) [
      | inl k ↦ elim (cases_Bool (has_way m p.way)) [ inl h ↦ rw k (rw h (ap (λ l. p ∷ l) ih)) | inr h ↦ rw k (rw h ih) ]
      | inr k ↦ let h : has_way m p.way ≡ false = away p (rw (w, l) refl) k in rw (k, h) ih
    ]

-- the same with fewer places
pub AreOwned-filter : (m : List ℕ) (own : ℕ → Bool) (q : HeldLine → Bool) (ps : List HeldLine) → AreOwned m own ps → AreOwned m own (filter q ps)
AreOwned-filter m own q [] owned = tt
AreOwned-filter m own q (p ∷ ps) owned = elim (cases_Bool (q p)) [
  | inl k ↦ rw k (owned.0, AreOwned-filter m own q ps owned.1)
  | inr k ↦ rw k (AreOwned-filter m own q ps owned.1)
]

-- the line of a place of theirs
pub has_way-owned : (m : List ℕ) (own : ℕ → Bool) (r : HeldLine) (ps : List HeldLine) → AreOwned m own ps → list_any (λ (p : HeldLine). (p.way == r.way) && (p.line == r.line)) ps ≡ true → has_way m r.way ≡ own r.line
has_way-owned m own r [] owned h = elim (false≢true h) [ ]
has_way-owned m own r (p ∷ ps) owned h = elim (cases_Bool ((p.way == r.way) && (p.line == r.line))) [
  | inl k ↦
      let parts = and_parts (p.way == r.way) (p.line == r.line) k in
      ap (has_way m) (sym (eqb-true p.way r.way parts.0)) ∙ (owned.0 ∙ ap own (eqb-true p.line r.line parts.1))
  | inr k ↦ let rest : list_any (λ (q : HeldLine). (q.way == r.way) && (q.line == r.line)) ps ≡ true = rw k at h in has_way-owned m own r ps owned.1 rest
]

-- a mask apart from these ways
pub has_way-apart : (ways mask : List ℕ) (w : ℕ) → list_all (λ (v : ℕ). not (has_way ways v)) mask ≡ true → has_way mask w ≡ true → has_way ways w ≡ false
has_way-apart ways [] w all h = elim (false≢true h) [ ]
has_way-apart ways (v ∷ vs) w all h =
    let parts = and_parts (not (has_way ways v)) (list_all (λ (u : ℕ). not (has_way ways u)) vs) all in
    elim (cases_Bool (v == w)) [
      | inl k ↦ ap (has_way ways) (sym (eqb-true v w k)) ∙ not-true (has_way ways v) parts.0
      | inr k ↦ let rest : has_way vs w ≡ true = rw k at h in has_way-apart ways vs w parts.1 rest
    ]
