-- A set of a slice and a set under the policy hold the same lines: what an access finds there.
use Rattle.std.proofs.Common.{◌≡◌, ℕ, ◌<◌, ◌≤◌, Bool, true, false, not, ◌==◌, List, [], ◌∷◌, Option, Some, None, IsSome, refl, sym, ◌∙◌, ap, subst, inl, inr, arith}
use Rattle.std.specs.Prelude.{filter, find, option_map}
use Rattle.std.proofs.lemmas.Bool.{cases_Bool, cases_order, eqb-true, eqb-false, eq-eqb, ne_eqb, false≢true, true≢false, true_from_ne_false}
use Rattle.std.proofs.lemmas.Option.{none-some, same_Some}
use Rattle.cbm.specs.Masks.{has_way}
use Rattle.cache_core.specs.Fills.{Resident, Holds, IsVictim}
use Rattle.policy_law.specs.Policies.{HeldLine, CacheSet, way_of, is_empty, fill_way}
use Rattle.policy_law.specs.KnownPolicies.{Stamps, first_way, lru}
use Rattle.policy_law.proofs.laws.Masks.{has_way-first_way}
use Rattle.policy_law.proofs.laws.LinesOnce.{AreOnce, way_of-held}
use Rattle.policy_law.specs.SliceSets.{ways_in}
use Rattle.policy_law.proofs.Fills.{has-ways_in, ways_in-has, find-range, find-range_none, least_way-is, length-ways}

-- The set holds what these residents are, and its stamps are in the order of their ages; of ways that are as old, as a lock leaves
-- them, in the order of the ways.
pub record IsSet (n : ℕ) (residents : ℕ → Option Resident) (age : ℕ → ℕ) (c : CacheSet Stamps) : Type 0 where
  pub sound : (y w : ℕ) → way_of y c.places ≡ Some w → (w < n) × Holds residents y w
  pub whole : (y w : ℕ) → w < n → Holds residents y w → way_of y c.places ≡ Some w
  pub once : AreOnce c.places
  pub older : (v w : ℕ) → is_empty c.places v ≡ false → is_empty c.places w ≡ false → age v < age w → c.state.stamp v < c.state.stamp w
  pub tied : (v w : ℕ) → is_empty c.places v ≡ false → is_empty c.places w ≡ false → age v ≡ age w → v < w → c.state.stamp v < c.state.stamp w
  pub past : (v : ℕ) → c.state.stamp v < c.state.clock

-- ---- places

-- a way that is found holds a line
is_empty-found : (y w : ℕ) (ps : List HeldLine) → way_of y ps ≡ Some w → is_empty ps w ≡ false
is_empty-found y w [] e = absurd (none-some w e)
is_empty-found y w (p ∷ ps) e = elim (cases_Bool (p.way == w)) [
  | inl k ↦ rw k refl
  | inr k ↦ elim (cases_Bool (p.line == y)) [
    | inl t ↦ let there : Some p.way ≡ Some w = rw t at e in absurd (eqb-false p.way w k (same_Some p.way w there))
    | inr t ↦ let rest : way_of y ps ≡ Some w = rw t at e in rw k (is_empty-found y w ps rest)
  ]
]

-- what holds a line among fewer places holds one
pub is_empty-filter : (q : HeldLine → Bool) (v : ℕ) (ps : List HeldLine) → is_empty (filter q ps) v ≡ false → is_empty ps v ≡ false
is_empty-filter q v [] h = h
is_empty-filter q v (p ∷ ps) h = elim (cases_Bool (p.way == v)) [
  | inl k ↦ rw k refl
  | inr k ↦ elim (cases_Bool (q p)) [
    | inl t ↦ let rest : is_empty (filter q ps) v ≡ false = rw k at (rw t at h) in rw k (is_empty-filter q v ps rest)
    | inr t ↦ let rest : is_empty (filter q ps) v ≡ false = rw t at h in rw k (is_empty-filter q v ps rest)
  ]
]

-- what is found when a way was taken was found before, elsewhere
pub way_of-untaken : (y v w : ℕ) (ps : List HeldLine) → AreOnce ps → way_of y (filter (λ (p : HeldLine). not (p.way == w)) ps) ≡ Some v → (way_of y ps ≡ Some v) × ((v == w) ≡ false)
way_of-untaken y v w [] once e = absurd (none-some v e)
way_of-untaken y v w (p ∷ ps) once e = elim (cases_Bool (p.way == w)) [
  | inl k ↦
      let rest : way_of y (filter (λ (q : HeldLine). not (q.way == w)) ps) ≡ Some v = rw k at e in
      let r = way_of-untaken y v w ps once.1 rest in
      elim (cases_Bool (p.line == y)) [
        | inl t ↦ absurd (none-some v (sym once.0 ∙ (ap (λ z. way_of z ps) (eqb-true p.line y t) ∙ r.0)))
        | inr t ↦ (rw t r.0, r.1)
      ]
  | inr k ↦ elim (cases_Bool (p.line == y)) [
    | inl t ↦
        let there : Some p.way ≡ Some v = rw t at (rw k at e) in
        (rw t there, ap (λ u. u == w) (sym (same_Some p.way v there)) ∙ k)
    | inr t ↦
        let rest : way_of y (filter (λ (q : HeldLine). not (q.way == w)) ps) ≡ Some v = rw t at (rw k at e) in
        let r = way_of-untaken y v w ps once.1 rest in (rw t r.0, r.1)
  ]
]

-- another line is where it was
pub way_of-undropped : (x y : ℕ) (ps : List HeldLine) → (y == x) ≡ false → way_of y (filter (λ (p : HeldLine). not (p.line == x)) ps) ≡ way_of y ps
way_of-undropped x y [] other = refl
way_of-undropped x y (p ∷ ps) other =
    let ih : way_of y (filter (λ (q : HeldLine). not (q.line == x)) ps) ≡ way_of y ps = way_of-undropped x y ps other in
    elim (cases_Bool (p.line == x)) [
      | inl k ↦
          let away : (p.line == y) ≡ false = ne_eqb p.line y (λ e. true≢false (sym (eq-eqb y x (sym e ∙ eqb-true p.line x k)) ∙ other)) in
          rw (k, away) ih
      | inr k ↦ elim (cases_Bool (p.line == y)) [ inl t ↦ rw (k, t) refl | inr t ↦ rw (k, t) ih ]
    ]

-- the line is gone
pub way_of-dropped : (x : ℕ) (ps : List HeldLine) → way_of x (filter (λ (p : HeldLine). not (p.line == x)) ps) ≡ None
way_of-dropped x [] = refl
way_of-dropped x (p ∷ ps) = elim (cases_Bool (p.line == x)) [
  | inl k ↦ rw k (way_of-dropped x ps)
  | inr k ↦ rw k (rw k (way_of-dropped x ps))
]

-- ---- what an access finds

-- a line that no way holds is nowhere
pub way_of-missed : (n x : ℕ) (residents : ℕ → Option Resident) (age : ℕ → ℕ) (c : CacheSet Stamps) → IsSet n residents age c → ((w : ℕ) → w < n → Holds residents x w → ⊥) → (o : Option ℕ) → way_of x c.places ≡ o → way_of x c.places ≡ None
way_of-missed n x residents age c is none None e = e
way_of-missed n x residents age c is none (Some w) e = let r = is.sound x w e in absurd (none w r.0 r.1)

-- a way with a line has a resident
pub IsSome-resident : (n w : ℕ) (residents : ℕ → Option Resident) (age : ℕ → ℕ) (c : CacheSet Stamps) → IsSet n residents age c → is_empty c.places w ≡ false → (o : Option Resident) → residents w ≡ o → IsSome o
IsSome-resident n w residents age c is full (Some r) e = refl
IsSome-resident n w residents age c is full None e =
    let held = way_of-held w c.places full is.once in
    let gone : None ≡ Some held.0 = ap (λ (o : Option Resident). option_map (λ (r : Resident). r.line) o) (sym e) ∙ (is.sound held.0 w held.1).1 in
    absurd (none-some held.0 gone)

-- and a resident a way with a line
pub is_empty-resident : (n w : ℕ) (residents : ℕ → Option Resident) (age : ℕ → ℕ) (c : CacheSet Stamps) → IsSet n residents age c → w < n → (o : Option Resident) → residents w ≡ o → IsSome o → is_empty c.places w ≡ false
is_empty-resident n w residents age c is within None e some = absurd (false≢true some)
is_empty-resident n w residents age c is within (Some r) e some = is_empty-found r.line w c.places (is.whole r.line w within (ap (λ (o : Option Resident). option_map (λ (q : Resident). q.line) o) e))

-- the way that is filled
pub fill_way-victim : (n its way : ℕ) (residents : ℕ → Option Resident) (age : ℕ → ℕ) (c : CacheSet Stamps) → IsSet n residents age c → IsVictim n its residents age way → (o : Option Resident) → residents way ≡ o → fill_way lru (ways_in n its) c ≡ way
fill_way-victim n its way residents age c is victim None e =
    let empty : is_empty c.places way ≡ true = true_from_ne_false (is_empty c.places way) (λ full. false≢true (IsSome-resident n way residents age c is full None e)) in
    let found : find (is_empty c.places) (ways_in n its) ≡ Some way = find-range (is_empty c.places) (has_way its) 0 n way (omega arith) (omega (arith, victim.within)) victim.allowed empty
    (λ v low less h. is_empty-resident n v residents age c is (let w : way < n = victim.within in omega arith) (residents v) refl (victim.lowest_empty e v less h)) in
    rw found refl
fill_way-victim n its way residents age c is victim (Some r) e =
    let some : IsSome (residents way) = subst (λ (o : Option Resident). IsSome o) (sym e) refl in
    let full : (w : ℕ) → w < n → has_way its w ≡ true → is_empty c.places w ≡ false = λ w l h. is_empty-resident n w residents age c is l (residents w) refl (victim.none_empty some w l h) in
    let none : find (is_empty c.places) (ways_in n its) ≡ None = find-range_none (is_empty c.places) (ways_in n its) (λ v h. let p = ways_in-has n its v h in full v p.0 p.1) in
    let at_way : is_empty c.places way ≡ false = full way victim.within victim.allowed in
    let less : (w : ℕ) → (w < n) × (has_way its w ≡ true) → (w ≡ way → ⊥) → c.state.stamp way < c.state.stamp w = λ w p ne.
    let there : is_empty c.places w ≡ false = full w p.0 p.1 in
    let old : age way ≤ age w = victim.oldest some w p.0 p.1 in
    elim (cases_order (age way) (age w)) [
      | inl same ↦ elim (cases_order way w) [
        | inl one ↦ absurd (ne (sym one))
        | inr k ↦ elim k [
          | inl l ↦ is.tied way w at_way there same l
          | inr l ↦ let lower : age way < age w = victim.lowest some w l p.1 in absurd (omega arith)
        ]
      ]
      | inr k ↦ elim k [ inl l ↦ is.older way w at_way there l | inr l ↦ absurd (omega arith) ]
    ] in
    let mine : _ = has-ways_in n its way victim.within victim.allowed in
    let first : _ = ways_in-has n its (first_way (ways_in n its)) (has_way-first_way (ways_in n its) (length-ways (ways_in n its) way mine)) in
    rw none (least_way-is c.state.stamp way (first_way (ways_in n its)) (ways_in n its) (λ w h ne. less w (ways_in-has n its w h) ne) (inl mine)
    (elim (cases_Bool (first_way (ways_in n its) == way)) [
      | inl k ↦ inr (eqb-true (first_way (ways_in n its)) way k)
      | inr k ↦ inl (less (first_way (ways_in n its)) first (eqb-false (first_way (ways_in n its)) way k))
    ]))
