-- The lines that uses of one set leave alive, the one used last in front, and that a use hits where it is among the first of them.
use Rattle.std.proofs.Common.{◌≡◌, ℕ, zero, suc, ◌≤◌, Bool, true, false, cond, not, ◌&&◌, ◌==◌, nat_lt, List, [], ◌∷◌, ◌++◌, length, map, reverse, take, arith, refl, sym, ◌∙◌, ap, inl, inr}
use Rattle.std.proofs.lemmas.Bool.{cases_Bool, eqb-true, eqb-false, eq-eqb, ne_eqb, lt-ltb, le-ltb, cases_lt, or_parts}
use Rattle.std.proofs.lemmas.List.{reverse-append, map-append}
use Rattle.private_lru.specs.Private.{among, without, alive, is_used, since, always_fewer, private_hit}
use Rattle.private_lru.specs.declared.item.Item.{Item}
use Rattle.private_lru.specs.declared.item.Item.TheVariants.{Use}

-- uses of these lines
abbrev pub uses : List ℕ → List Item
uses lines = map (λ (x : ℕ). Use x) lines

-- the lines in front of the first x
abbrev pub before_line : ℕ → List ℕ → List ℕ
before_line x [] = []
before_line x (y ∷ ys) = cond (y == x) [] (y ∷ before_line x ys)

-- lines that are all different
abbrev pub AllDiffer : List ℕ → Type 0
AllDiffer [] = Unit {0}
AllDiffer (y ∷ ys) = (among y ys ≡ false) × AllDiffer ys

-- uses in reverse are uses of the lines in reverse
pub reverse-uses : (l : List ℕ) → reverse (uses l) ≡ uses (reverse l)
reverse-uses [] = refl
reverse-uses (x ∷ xs) =
    reverse-append (Use x ∷ []) (uses xs) ∙ (ap (λ (l : List Item). l ++ Use x ∷ []) (reverse-uses xs)
    ∙ (sym (map-append (λ (x : ℕ). Use x) (reverse xs) (x ∷ [])) ∙ ap uses (sym (reverse-append (x ∷ []) xs))))

-- taking out one line leaves the others
pub among-without : (x y : ℕ) (l : List ℕ) → among x (without y l) ≡ (not (x == y) && among x l)
among-without x y [] = elim (cases_Bool (x == y)) [ inl h ↦ rw h refl | inr h ↦ rw h refl ]
among-without x y (z ∷ zs) =
    let ih : among x (without y zs) ≡ (not (x == y) && among x zs) = among-without x y zs in
    elim (cases_Bool (z == y)) [
      | inl h ↦ elim (cases_Bool (z == x)) [
        | inl k ↦ let e : (x == y) ≡ true = eq-eqb x y (sym (eqb-true z x k) ∙ eqb-true z y h) in rw (h, e) (rw e at ih)
        | inr k ↦ rw (h, k) ih
      ]
      | inr h ↦ elim (cases_Bool (z == x)) [
        | inl k ↦ let e : (x == y) ≡ false = ne_eqb x y (λ e. eqb-false z y h (eqb-true z x k ∙ e)) in rw (h, k, e) refl
        | inr k ↦ rw (h, k) ih
      ]
    ]

-- the line that is taken out is gone
pub among-without_same : (x : ℕ) (l : List ℕ) → among x (without x l) ≡ false
among-without_same x l = let e : (x == x) ≡ true = eq-eqb x x refl in rw (among-without x x l, e) refl

-- another is where it was
pub among-without_other : (x y : ℕ) (l : List ℕ) → (x == y) ≡ false → among x (without y l) ≡ among x l
among-without_other x y l h = rw (among-without x y l, h) refl

-- a line that is not there does not come
among-without_none : (x y : ℕ) (l : List ℕ) → among x l ≡ false → among x (without y l) ≡ false
among-without_none x y l h = rw (among-without x y l, h) (and-false (not (x == y)))
  where
    and-false : (b : Bool) → (b && false) ≡ false
    and-false true = refl
    and-false false = refl

-- nothing to take out
pub without-absent : (x : ℕ) (l : List ℕ) → among x l ≡ false → without x l ≡ l
without-absent x [] h = refl
without-absent x (y ∷ ys) h =
    let parts = or_parts (y == x) (among x ys) h in
    let here : (y == x) ≡ false = parts.0 in
    rw here (ap (λ l. y ∷ l) (without-absent x ys parts.1))

-- taking out a line that stands before another
pub before_line-without : (x y : ℕ) (l : List ℕ) → (y == x) ≡ false → before_line x (without y l) ≡ without y (before_line x l)
before_line-without x y [] h = refl
before_line-without x y (z ∷ zs) h =
    let ih : before_line x (without y zs) ≡ without y (before_line x zs) = before_line-without x y zs h in
    elim (cases_Bool (z == y)) [
      | inl k ↦ let e : (z == x) ≡ false = ne_eqb z x (λ e. eqb-false y x h (sym (eqb-true z y k) ∙ e)) in rw (k, e) (rw k ih)
      | inr k ↦ elim (cases_Bool (z == x)) [
        | inl e ↦ rw (k, e) refl
        | inr e ↦ rw (k, e) (rw k (ap (λ l. z ∷ l) ih))
      ]
    ]

-- different lines stay different
pub AllDiffer-without : (x : ℕ) (l : List ℕ) → AllDiffer l → AllDiffer (without x l)
AllDiffer-without x [] d = tt
AllDiffer-without x (y ∷ ys) d = elim (cases_Bool (y == x)) [
  | inl k ↦ rw k (AllDiffer-without x ys d.1)
  | inr k ↦ rw k (among-without_none y x ys d.0, AllDiffer-without x ys d.1)
]

-- lines that are alive differ
pub AllDiffer-alive : (l : List ℕ) → AllDiffer (alive (uses l))
AllDiffer-alive [] = tt
AllDiffer-alive (x ∷ xs) = (among-without_same x (alive (uses xs)), AllDiffer-without x (alive (uses xs)) (AllDiffer-alive xs))

-- of different lines one is taken out at most
length-without_ge : (x : ℕ) (l : List ℕ) → AllDiffer l → length l ≤ suc (length (without x l))
length-without_ge x [] d = omega arith
length-without_ge x (y ∷ ys) d = elim (cases_Bool (y == x)) [
  | inl k ↦
      let gone : among x ys ≡ false = ap (λ (z : ℕ). among z ys) (sym (eqb-true y x k)) ∙ d.0 in
      let same : length (without x ys) ≡ length ys = ap length (without-absent x ys gone) in
      rw k (omega (arith, same))
  | inr k ↦ let ih : length ys ≤ suc (length (without x ys)) = length-without_ge x ys d.1 in rw k (omega (arith, ih))
]

-- a line that is used is alive
is_used-uses : (x : ℕ) (l : List ℕ) → is_used x (uses l) ≡ among x (alive (uses l))
is_used-uses x [] = refl
is_used-uses x (y ∷ ys) = elim (cases_Bool (y == x)) [
  | inl k ↦ rw k refl
  | inr k ↦
      let other : (x == y) ≡ false = ne_eqb x y (λ e. eqb-false y x k (sym e)) in
      rw k (is_used-uses x ys ∙ sym (among-without_other x y (alive (uses ys)) other))
]

-- the uses since the last of a line
pub since-uses : (x : ℕ) (l : List ℕ) → since x (uses l) ≡ uses (before_line x l)
since-uses x [] = refl
since-uses x (y ∷ ys) = elim (cases_Bool (y == x)) [
  | inl k ↦ rw k refl
  | inr k ↦ rw k (ap (λ (l : List Item). Use y ∷ l) (since-uses x ys))
]

-- and the lines that they leave alive
alive-before_line : (x : ℕ) (l : List ℕ) → alive (uses (before_line x l)) ≡ before_line x (alive (uses l))
alive-before_line x [] = refl
alive-before_line x (y ∷ ys) = elim (cases_Bool (y == x)) [
  | inl k ↦ rw k refl
  | inr k ↦ rw k (ap (λ (l : List ℕ). y ∷ l) (ap (λ (l : List ℕ). without y l) (alive-before_line x ys) ∙ sym (before_line-without x y (alive (uses ys)) k)))
]

-- of two tests the stronger
and-nat_lt : (a b n : ℕ) → b ≤ a → (nat_lt a n && nat_lt b n) ≡ nat_lt a n
and-nat_lt a b n le = elim (cases_lt a n) [
  | inl lt ↦ (let first : nat_lt a n ≡ true = lt-ltb a n lt in
      let second : nat_lt b n ≡ true = lt-ltb b n (omega arith) in
      rw (first, second) refl)
  | inr ge ↦ (let first : nat_lt a n ≡ false = le-ltb a n ge in
      rw first refl)
]

-- uses leave more and more lines alive, so that there were always fewer where there are fewer now
pub always_fewer-uses : (ways : ℕ) (l : List ℕ) → always_fewer ways (uses l) ≡ nat_lt (length (alive (uses l))) ways
always_fewer-uses ways [] = refl
always_fewer-uses ways (x ∷ xs) =
    let now : ℕ = length (alive (uses (x ∷ xs))) in
    ap (λ (b : Bool). nat_lt now ways && b) (always_fewer-uses ways xs)
    ∙ and-nat_lt now (length (alive (uses xs))) ways (length-without_ge x (alive (uses xs)) (AllDiffer-alive xs))

-- one more on each side
nat_lt-suc : (a b : ℕ) → nat_lt (suc a) (suc b) ≡ nat_lt a b
nat_lt-suc a b = elim (cases_lt a b) [
  | inl h ↦ lt-ltb (suc a) (suc b) (omega arith) ∙ sym (lt-ltb a b h)
  | inr h ↦ le-ltb (suc a) (suc b) (omega arith) ∙ sym (le-ltb a b h)
]

-- nothing is below 0
and-nat_lt_zero : (b : Bool) (n : ℕ) → (b && nat_lt n 0) ≡ false
and-nat_lt_zero true n = le-ltb n 0 (omega arith)
and-nat_lt_zero false n = refl

-- a line is in the front where few stand before it
pub among-take : (x ways : ℕ) (l : List ℕ) → among x (take ways l) ≡ (among x l && nat_lt (length (before_line x l)) ways)
among-take x zero l = sym (and-nat_lt_zero (among x l) (length (before_line x l)))
among-take x (suc n) [] = refl
among-take x (suc n) (y ∷ ys) = elim (cases_Bool (y == x)) [
  | inl h ↦ let e : nat_lt 0 (suc n) ≡ true = lt-ltb 0 (suc n) (omega arith) in rw (h, e) refl
  | inr h ↦ rw h (among-take x n ys ∙ ap (λ b. among x ys && b) (sym (nat_lt-suc (length (before_line x ys)) n)))
]

-- a use hits just where its line is among the first of those that are alive, as many as there are ways
pub private_hit-uses : (ways x : ℕ) (l : List ℕ) → private_hit ways (uses l) x ≡ among x (take ways (alive (reverse (uses l))))
private_hit-uses ways x l =
    let back : List ℕ = reverse l in
    let lines : List ℕ = alive (uses back) in
    let fewer : always_fewer ways (since x (uses back)) ≡ nat_lt (length (before_line x lines)) ways =
    ap (λ (items : List Item). always_fewer ways items) (since-uses x back)
    ∙ (always_fewer-uses ways (before_line x back) ∙ ap (λ (l : List ℕ). nat_lt (length l) ways) (alive-before_line x back)) in
    let hit : (is_used x (uses back) && always_fewer ways (since x (uses back))) ≡ among x (take ways lines) =
    ap (λ (b : Bool). b && always_fewer ways (since x (uses back))) (is_used-uses x back)
    ∙ (ap (λ (b : Bool). among x lines && b) fewer ∙ sym (among-take x ways lines)) in
    ap (λ (items : List Item). is_used x items && always_fewer ways (since x items)) (reverse-uses l)
    ∙ (hit ∙ ap (λ (items : List Item). among x (take ways (alive items))) (sym (reverse-uses l)))
