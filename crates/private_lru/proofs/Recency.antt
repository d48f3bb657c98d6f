-- A private cache as a list of lines, the one used last in front.
use Rattle.std.proofs.Common.{◌≡◌, ℕ, zero, suc, ◌<◌, ◌≤◌, Bool, true, false, cond, not, ◌&&◌, ◌==◌, nat_lt, List, [], ◌∷◌, length, take, reverse, arith, refl, sym, ◌∙◌, ap, subst, inl, inr}
use Rattle.std.proofs.lemmas.Bool.{cases_Bool, eqb-true, eqb-false, eq-eqb, ne_eqb, false≢true, lt-ltb, le-ltb, cases_lt, or_parts, and_parts, ltb-true}
use Rattle.std.proofs.Math.Bool.{and-true}
use Rattle.private_lru.specs.Private.{among, without, alive, is_used, since, always_fewer, private_hit, is_hit, kept_after, was_kept}
use Rattle.private_lru.specs.declared.item.Item.{Item}
use Rattle.private_lru.specs.declared.item.Item.TheVariants.{Use, Drop}

-- the lines that a private cache of this many ways keeps after these items, the latest first
abbrev pub kept : ℕ → List Item → List ℕ
kept ways [] = []
kept ways (item ∷ items) = kept_after ways (kept ways items) item

-- the lines in front of the first x
abbrev before_first : ℕ → List ℕ → List ℕ
before_first x [] = []
before_first x (y ∷ ys) = cond (y == x) [] (y ∷ before_first x ys)

-- taking out one line leaves the others
pub among-without : (x y : ℕ) (l : List ℕ) → among x (without y l) ≡ (not (x == y) && among x l)
among-without x y [] = elim (cases_Bool (x == y)) [ inl h ↦ rw h refl | inr h ↦ rw h refl ]
among-without x y (z ∷ zs) =
    let ih : among x (without y zs) ≡ (not (x == y) && among x zs) = among-without x y zs in
    elim (cases_Bool (z == y)) [
      | inl h ↦ elim (cases_Bool (z == x)) [
        | inl k ↦ let e : (x == y) ≡ true = eq-eqb x y (sym (eqb-true z x k) ∙ eqb-true z y h) in rw (h, e) (rw e at ih)
        | inr k ↦ rw (h, k) ih
      ]
      | inr h ↦ elim (cases_Bool (z == x)) [
        | inl k ↦ let e : (x == y) ≡ false = ne_eqb x y (λ e. eqb-false z y h (eqb-true z x k ∙ e)) in rw (h, k, e) refl
        | inr k ↦ rw (h, k) ih
      ]
    ]

-- the line that is taken out is gone
pub among-without_same : (x : ℕ) (l : List ℕ) → among x (without x l) ≡ false
among-without_same x l = let e : (x == x) ≡ true = eq-eqb x x refl in rw (among-without x x l, e) refl

-- another is where it was
pub among-without_other : (x y : ℕ) (l : List ℕ) → (x == y) ≡ false → among x (without y l) ≡ among x l
among-without_other x y l h = rw (among-without x y l, h) refl

-- nothing to take out
pub without-absent : (x : ℕ) (l : List ℕ) → among x l ≡ false → without x l ≡ l
without-absent x [] h = refl
without-absent x (y ∷ ys) h =
    let parts = or_parts (y == x) (among x ys) h in
    let here : (y == x) ≡ false = parts.0 in
    rw here (ap (λ l. y ∷ l) (without-absent x ys parts.1))

-- what is not in a list is not in its front
pub among-take_none : (x n : ℕ) (l : List ℕ) → among x l ≡ false → among x (take n l) ≡ false
among-take_none x zero l h = refl
among-take_none x (suc n) [] h = refl
among-take_none x (suc n) (y ∷ ys) h =
    let parts = or_parts (y == x) (among x ys) h in
    let here : (y == x) ≡ false = parts.0 in rw here (among-take_none x n ys parts.1)

-- taking out a line behind another
before_first-without : (x y : ℕ) (l : List ℕ) → (y == x) ≡ false → before_first x (without y l) ≡ without y (before_first x l)
before_first-without x y [] h = refl
before_first-without x y (z ∷ zs) h =
    let ih : before_first x (without y zs) ≡ without y (before_first x zs) = before_first-without x y zs h in
    elim (cases_Bool (z == y)) [
      | inl k ↦ let e : (z == x) ≡ false = ne_eqb z x (λ e. eqb-false y x h (sym (eqb-true z y k) ∙ e)) in rw (k, e) (rw k ih)
      | inr k ↦ elim (cases_Bool (z == x)) [
        | inl e ↦ rw (k, e) refl
        | inr e ↦ rw (k, e) (rw k (ap (λ l. z ∷ l) ih))
      ]
    ]

-- one more on each side
nat_lt-suc : (a b : ℕ) → nat_lt (suc a) (suc b) ≡ nat_lt a b
nat_lt-suc a b = elim (cases_lt a b) [
  | inl h ↦ lt-ltb (suc a) (suc b) (omega arith) ∙ sym (lt-ltb a b h)
  | inr h ↦ le-ltb (suc a) (suc b) (omega arith) ∙ sym (le-ltb a b h)
]

-- nothing is below 0
and-nat_lt_zero : (b : Bool) (n : ℕ) → (b && nat_lt n 0) ≡ false
and-nat_lt_zero true n = le-ltb n 0 (omega arith)
and-nat_lt_zero false n = refl

-- a line is in the front where few stand before it
pub among-take : (x ways : ℕ) (l : List ℕ) → among x (take ways l) ≡ (among x l && nat_lt (length (before_first x l)) ways)
among-take x zero l = sym (and-nat_lt_zero (among x l) (length (before_first x l)))
among-take x (suc n) [] = refl
among-take x (suc n) (y ∷ ys) = elim (cases_Bool (y == x)) [
  | inl h ↦ let e : nat_lt 0 (suc n) ≡ true = lt-ltb 0 (suc n) (omega arith) in rw (h, e) refl
  | inr h ↦ rw h (among-take x n ys ∙ ap (λ b. among x ys && b) (sym (nat_lt-suc (length (before_first x ys)) n)))
]

-- a line that stays in the front has the same lines before it
before_first-take : (x n : ℕ) (l : List ℕ) → among x (take n l) ≡ true → before_first x (take n l) ≡ before_first x l
before_first-take x zero l h = elim (false≢true h) [ ]
before_first-take x (suc n) [] h = refl
before_first-take x (suc n) (y ∷ ys) h = elim (cases_Bool (y == x)) [
  | inl k ↦ rw k refl
  | inr k ↦ let h' : among x (take n ys) ≡ true = rw k at h in rw k (ap (λ l. y ∷ l) (before_first-take x n ys h'))
]

-- no more lines than before
length-without_le : (x : ℕ) (l : List ℕ) → length (without x l) ≤ length l
length-without_le x [] = omega arith
length-without_le x (y ∷ ys) = let ih : length (without x ys) ≤ length ys = length-without_le x ys in elim (cases_Bool (y == x)) [ inl k ↦ rw k (omega arith) | inr k ↦ rw k (omega arith) ]

-- where always fewer lines are alive, fewer are now
alive-lt : (ways : ℕ) (l : List Item) → always_fewer ways l ≡ true → length (alive l) < ways
alive-lt ways [] h = ltb-true 0 ways h
alive-lt ways (i ∷ is) h = ltb-true (length (alive (i ∷ is))) ways (and_parts (nat_lt (length (alive (i ∷ is))) ways) (always_fewer ways is) h).0

-- a test more leaves what fails
and-false_both : (u f c : Bool) → false ≡ (u && f) → false ≡ (u && (c && f))
and-false_both true f true e = e
and-false_both true f false e = refl
and-false_both false f c e = refl

-- a test more on each side
and-both_tested : (a u f : Bool) → a ≡ (u && f) → (b c : Bool) → (a ≡ true → b ≡ c) → (a && b) ≡ (u && (c && f))
and-both_tested true u f e b c h =
    let parts = and_parts u f (sym e) in
    let left : u ≡ true = parts.0 in
    let right : f ≡ true = parts.1 in rw (left, right) (h refl ∙ sym (and-true c))
and-both_tested false u f e b c h = and-false_both u f c e

-- a test more that holds
and-more_tested : (a u f : Bool) → a ≡ (u && f) → (b : Bool) → (a ≡ true → b ≡ true) → a ≡ (u && (b && f))
and-more_tested true u f e b h = let t : b ≡ true = h refl in rw t e
and-more_tested false u f e b h = and-false_both u f b e

-- what is in a front is in the list
pub among-take_some : (x n : ℕ) (l : List ℕ) → among x (take n l) ≡ true → among x l ≡ true
among-take_some x n l h = elim (cases_Bool (among x l)) [ inl k ↦ k | inr k ↦ elim (false≢true (sym (among-take_none x n l k) ∙ h)) [ ] ]

-- the lines kept are those whose later lines were always fewer than the ways, and these are the lines before them
pub among-kept : (ways x : ℕ) (l : List Item) → (among x (kept ways l) ≡ (is_used x l && always_fewer ways (since x l))) × (among x (kept ways l) ≡ true → before_first x (kept ways l) ≡ alive (since x l))
among-kept ways x [] = (refl, λ h. elim (false≢true h) [ ])
among-kept ways x (Use y ∷ is) =
    let K : List ℕ = kept ways is in
    let W : List ℕ = without y K in
    let ih = among-kept ways x is in
    elim (cases_Bool (y == x)) [
      | inl k ↦ (among-take x ways (y ∷ W) ∙ rw k refl, λ h. before_first-take x ways (y ∷ W) h ∙ rw k refl)
      | inr k ↦
          let other : (x == y) ≡ false = ne_eqb x y (λ e. eqb-false y x k (sym e)) in
          let lines : before_first x W ≡ without y (before_first x K) = before_first-without x y K k in (
            among-take x ways (y ∷ W)
                ∙ rw k
                (ap (λ b. b && nat_lt (suc (length (before_first x W))) ways) (among-without_other x y K other)
                ∙ and-both_tested (among x K) (is_used x is) (always_fewer ways (since x is)) ih.0 (nat_lt (suc (length (before_first x W))) ways) (nat_lt (suc (length (without y (alive (since x is))))) ways)
                (λ h. ap (λ l. nat_lt (suc (length l)) ways) (lines ∙ ap (λ l. without y l) (ih.1 h)))),
            λ h.
                let m : among x (y ∷ W) ≡ true = among-take_some x ways (y ∷ W) h in
                let m' : among x W ≡ true = rw k at m in
                let m'' : among x K ≡ true = sym (among-without_other x y K other) ∙ m' in
                before_first-take x ways (y ∷ W) h ∙ rw k (ap (λ l. y ∷ l) (lines ∙ ap (λ l. without y l) (ih.1 m''))),
          )
    ]
among-kept ways x (Drop y ∷ is) =
    let K : List ℕ = kept ways is in
    let ih = among-kept ways x is in
    elim (cases_Bool (y == x)) [
      | inl k ↦
          let gone : among x (without y K) ≡ false = subst (λ z. among x (without z K) ≡ false) (sym (eqb-true y x k)) (among-without_same x K) in
          (gone ∙ rw k refl, λ h. elim (false≢true (sym gone ∙ h)) [ ])
      | inr k ↦
          let other : (x == y) ≡ false = ne_eqb x y (λ e. eqb-false y x k (sym e)) in
          let same : among x (without y K) ≡ among x K = among-without_other x y K other in
          let lines : before_first x (without y K) ≡ without y (before_first x K) = before_first-without x y K k in (
            same
                ∙ rw k
                (and-more_tested (among x K) (is_used x is) (always_fewer ways (since x is)) ih.0 (nat_lt (length (without y (alive (since x is)))) ways)
                (λ h.
                let now : length (alive (since x is)) < ways = alive-lt ways (since x is) (and_parts (is_used x is) (always_fewer ways (since x is)) (sym ih.0 ∙ h)).1 in
                let less : length (without y (alive (since x is))) ≤ length (alive (since x is)) = length-without_le y (alive (since x is)) in
                lt-ltb _ ways (omega arith))),
            λ h. lines ∙ rw k (ap (λ l. without y l) (ih.1 (sym same ∙ h))),
          )
    ]

-- a private cache hits just the lines that it keeps
pub private_hit-kept : (ways x : ℕ) (earlier : List Item) → private_hit ways earlier x ≡ among x (kept ways (reverse earlier))
private_hit-kept ways x earlier = sym (among-kept ways x (reverse earlier)).0

-- so is a use that hits
pub is_hit-kept : (ways : ℕ) (earlier : List Item) (item : Item) → is_hit ways earlier item ≡ was_kept (kept ways (reverse earlier)) item
is_hit-kept ways earlier (Use x) = private_hit-kept ways x earlier
is_hit-kept ways earlier (Drop x) = refl
