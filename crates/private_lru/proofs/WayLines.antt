-- Ways in the order of their use, and the lines that they hold.
use Rattle.std.proofs.Common.{◌≡◌, ℕ, zero, suc, ◌<◌, ◌≤◌, true, false, not, ◌==◌, List, [], ◌∷◌, length, map, take, Option, Some, None, option_map, IsSome, arith, refl, sym, ◌∙◌, ap, subst, inl, inr}
use Rattle.std.proofs.lemmas.Bool.{cases_Bool, eqb-true, eqb-false, eq-eqb, ne_eqb, false≢true, and_parts}
use Rattle.std.proofs.lemmas.Option.{none-some, same_Some}
use Rattle.cache_core.specs.Fills.{Resident}
use Rattle.private_lru.specs.Private.{among, without}
use Rattle.private_lru.proofs.Recency.{among-without}

-- the line of a resident
abbrev pub line_in : Option Resident → Option ℕ
line_in o = option_map (λ (r : Resident). r.line) o

-- each way was used later than those behind it
abbrev pub Descends : (ℕ → ℕ) → List ℕ → Type 0
Descends age [] = Unit {0}
Descends age (v ∷ vs) = ((w : ℕ) → among w vs ≡ true → age w < age v) × Descends age vs

-- a number is itself
pub eqb-same : (v : ℕ) → (v == v) ≡ true
eqb-same v = eq-eqb v v refl

-- equal lists have equal heads and tails
pub cons-parts : {X : Type 0} {x y : X} {xs ys : List X} → x ∷ xs ≡ y ∷ ys → (x ≡ y) × (xs ≡ ys)
cons-parts e = (cc, cc)

-- an ordered way holds one of the lines
pub among-line_of_way : (f : ℕ → Option ℕ) (v : ℕ) (order lines : List ℕ) → map f order ≡ map (λ (y : ℕ). Some y) lines → among v order ≡ true → (y : ℕ) × (f v ≡ Some y) × (among y lines ≡ true)
among-line_of_way f v [] lines e h = elim (false≢true h) [ ]
among-line_of_way f v (u ∷ us) [] e h = absurd (cc)
among-line_of_way f v (u ∷ us) (y ∷ ys) e h =
    let parts = cons-parts e in
    elim (cases_Bool (u == v)) [
      | inl k ↦ (y, subst (λ w. f w ≡ Some y) (eqb-true u v k) parts.0, let k2 : (y == y) ≡ true = eqb-same y in rw k2 refl)
      | inr k ↦
          let rest : among v us ≡ true = rw k at h in
          let r = among-line_of_way f v us ys parts.1 rest in
          elim (cases_Bool (y == r.0)) [ inl t ↦ (r.0, r.1, rw t refl) | inr t ↦ (r.0, r.1, rw t r.2) ]
    ]

-- each of the lines is in an ordered way
pub among-way_of_line : (f : ℕ → Option ℕ) (x : ℕ) (order lines : List ℕ) → map f order ≡ map (λ (y : ℕ). Some y) lines → among x lines ≡ true → (v : ℕ) × (among v order ≡ true) × (f v ≡ Some x)
among-way_of_line f x order [] e h = elim (false≢true h) [ ]
among-way_of_line f x [] (y ∷ ys) e h = absurd (cc)
among-way_of_line f x (u ∷ us) (y ∷ ys) e h =
    let parts = cons-parts e in
    elim (cases_Bool (y == x)) [
      | inl k ↦ (u, (let k2 : (u == u) ≡ true = eqb-same u in rw k2 refl), parts.0 ∙ ap (λ (z : ℕ). Some z) (eqb-true y x k))
      | inr k ↦
          let rest : among x ys ≡ true = rw k at h in
          let r = among-way_of_line f x us ys parts.1 rest in
          elim (cases_Bool (u == r.0)) [ inl t ↦ (r.0, rw t refl, r.2) | inr t ↦ (r.0, rw t r.1, r.2) ]
    ]

-- taking out a way takes out its line
pub map-without : (f : ℕ → Option ℕ) (v x : ℕ) (order lines : List ℕ) → map f order ≡ map (λ (y : ℕ). Some y) lines → f v ≡ Some x → ((u : ℕ) → among u order ≡ true → f u ≡ Some x → u ≡ v)
    → map f (without v order) ≡ map (λ (y : ℕ). Some y) (without x lines)
map-without f v x [] [] e h one = refl
map-without f v x [] (y ∷ ys) e h one = absurd (cc)
map-without f v x (u ∷ us) [] e h one = absurd (cc)
map-without f v x (u ∷ us) (y ∷ ys) e h one =
    let parts = cons-parts e in
    let first : f u ≡ Some y = parts.0 in
    let less : (w : ℕ) → among w us ≡ true → f w ≡ Some x → w ≡ v = λ w a k. one w (elim (cases_Bool (u == w)) [ inl t ↦ rw t refl | inr t ↦ rw t a ]) k in
    let ih : map f (without v us) ≡ map (λ (y : ℕ). Some y) (without x ys) = map-without f v x us ys parts.1 h less in
    elim (cases_Bool (u == v)) [
      | inl k ↦
          let same : (y == x) ≡ true = eq-eqb y x (same_Some _ _ (sym first ∙ (ap f (eqb-true u v k) ∙ h))) in
          rw (k, same) ih
      | inr k ↦
          let there : (u == u) ≡ true = eqb-same u in
          let other : (y == x) ≡ false = ne_eqb y x (λ t. eqb-false u v k (one u (rw there refl) (first ∙ ap (λ (z : ℕ). Some z) t))) in
          rw (k, other) (ap (λ l. f u ∷ l) ih ∙ ap (λ o. o ∷ map (λ (z : ℕ). Some z) (without x ys)) first)
    ]

-- taking out a way leaves the others in order
pub Descends-without : (age : ℕ → ℕ) (v : ℕ) (order : List ℕ) → Descends age order → Descends age (without v order)
Descends-without age v [] d = tt
Descends-without age v (u ∷ us) d = elim (cases_Bool (u == v)) [
  | inl k ↦ rw k (Descends-without age v us d.1)
  | inr k ↦ rw k ((λ w a. d.0 w (and_parts (not (w == v)) (among w us) (sym (among-without w v us) ∙ a)).1), Descends-without age v us d.1)
]

-- the oldest way stands last
pub map-without_oldest : (f : ℕ → Option ℕ) (age : ℕ → ℕ) (v k : ℕ) (order lines : List ℕ) → map f order ≡ map (λ (y : ℕ). Some y) lines → Descends age order → among v order ≡ true
    → ((w : ℕ) → among w order ≡ true → age v ≤ age w) → length order ≡ suc k → map f (without v order) ≡ map (λ (y : ℕ). Some y) (take k lines)
map-without_oldest f age v k [] lines e d a old len = elim (false≢true a) [ ]
map-without_oldest f age v k (u ∷ us) [] e d a old len = absurd (cc)
map-without_oldest f age v zero (u ∷ []) (y ∷ ys) e d a old len = elim (cases_Bool (u == v)) [
  | inl t ↦ rw t refl
  | inr t ↦ let no : false ≡ true = rw t at a in elim (false≢true no) [ ]
]
map-without_oldest f age v zero (u ∷ (w ∷ ws)) (y ∷ ys) e d a old len = absurd (omega arith)
map-without_oldest f age v (suc k) (u ∷ []) (y ∷ ys) e d a old len = absurd (omega arith)
map-without_oldest f age v (suc k) (u ∷ (w ∷ ws)) (y ∷ ys) e d a old len =
    let parts = cons-parts e in
    let second : among w (w ∷ ws) ≡ true = let t : (w == w) ≡ true = eqb-same w in rw t refl in
    let later : (z : ℕ) → among z (w ∷ ws) ≡ true → among z (u ∷ w ∷ ws) ≡ true = λ z b. elim (cases_Bool (u == z)) [ inl t ↦ rw t refl | inr t ↦ rw t b ] in
    elim (cases_Bool (u == v)) [
      | inl t ↦
          let less : age w < age u = d.0 w second in
          let more : age v ≤ age w = old w (later w second) in
          let same : age u ≡ age v = ap age (eqb-true u v t) in
          absurd (omega arith)
      | inr t ↦
          let rest : among v (w ∷ ws) ≡ true = rw t at a in
          let ih : map f (without v (w ∷ ws)) ≡ map (λ (z : ℕ). Some z) (take k ys) = map-without_oldest f age v k (w ∷ ws) ys parts.1 d.1 rest (λ z b. old z (later z b)) (omega arith) in
          rw t (ap (λ l. f u ∷ l) ih ∙ ap (λ o. o ∷ map (λ (z : ℕ). Some z) (take k ys)) parts.0)
    ]

-- a place with a line is full
pub IsSome-line_in : (o : Option Resident) (x : ℕ) → line_in o ≡ Some x → IsSome o
IsSome-line_in None x h = elim (none-some x h) [ ]
IsSome-line_in (Some r) x h = refl

-- the same of each way
pub map-same : (f g : ℕ → Option ℕ) (order : List ℕ) → ((u : ℕ) → among u order ≡ true → f u ≡ g u) → map f order ≡ map g order
map-same f g [] same = refl
map-same f g (u ∷ us) same =
    let t : (u == u) ≡ true = eqb-same u in
    let first : f u ≡ g u = same u (rw t refl) in
    let ih : map f us ≡ map g us = map-same f g us (λ w a. same w (elim (cases_Bool (u == w)) [ inl k ↦ rw k refl | inr k ↦ rw k a ])) in
    ap (λ o. o ∷ map f us) first ∙ ap (λ l. g u ∷ l) ih

-- the same ages
pub Descends-same : (age born : ℕ → ℕ) (order : List ℕ) → ((u : ℕ) → among u order ≡ true → age u ≡ born u) → Descends age order → Descends born order
Descends-same age born [] same d = tt
Descends-same age born (u ∷ us) same d =
    let t : (u == u) ≡ true = eqb-same u in
    let first : age u ≡ born u = same u (rw t refl) in
    let rest : (w : ℕ) → among w us ≡ true → age w ≡ born w = λ w a. same w (elim (cases_Bool (u == w)) [ inl k ↦ rw k refl | inr k ↦ rw k a ]) in
    ((λ w a. let e : age w ≡ born w = rest w a in let l : age w < age u = d.0 w a in omega arith), Descends-same age born us rest d.1)

-- what is left when a way is taken out
pub among-without_parts : (w v : ℕ) (l : List ℕ) → among w (without v l) ≡ true → ((v == w) ≡ false) × (among w l ≡ true)
among-without_parts w v l h =
    let parts = and_parts (not (w == v)) (among w l) (sym (among-without w v l) ∙ h) in
    (ne_eqb v w (λ e. let t : (w == v) ≡ true = eq-eqb w v (sym e) in let no : false ≡ true = rw t at parts.0 in false≢true no), parts.1)
