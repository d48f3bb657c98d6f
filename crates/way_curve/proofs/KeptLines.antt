-- The lines that a private cache keeps: they differ, a use hits just where its line is kept, and without drops they are the first of those
-- that are alive.
use Rattle.std.proofs.Common.{◌≡◌, ℕ, zero, suc, ◌<◌, ◌≤◌, Bool, true, false, not, ◌&&◌, ◌==◌, nat_lt, List, [], ◌∷◌, length, take, reverse, arith, refl, sym, ◌∙◌, ap, subst, inl, inr}
use Rattle.std.proofs.lemmas.Bool.{cases_Bool, eqb-true, eqb-false, ne_eqb, false≢true, lt-ltb, or_parts, and_parts, ltb-true}
use Rattle.std.proofs.Math.Bool.{and-true}
use Rattle.private_lru.specs.Private.{among, without, alive, is_used, since, always_fewer, private_hit}
use Rattle.private_lru.specs.declared.item.Item.{Item}
use Rattle.private_lru.specs.declared.item.Item.TheVariants.{Use, Drop}
use Rattle.way_curve.specs.Slots.{kept}
use Rattle.way_curve.proofs.Alive.{AllDiffer, AllDiffer-alive, AllDiffer-without, among-take, among-without_other, among-without_same, before_line, before_line-without, uses}
use Rattle.way_curve.proofs.Fronts.{take-moved, without_first-differ}

-- ---- lines that differ

-- what is not in a list is not in its front
among-take_none : (x n : ℕ) (l : List ℕ) → among x l ≡ false → among x (take n l) ≡ false
among-take_none x zero l h = refl
among-take_none x (suc n) [] h = refl
among-take_none x (suc n) (y ∷ ys) h =
    let parts = or_parts (y == x) (among x ys) h in
    let here : (y == x) ≡ false = parts.0 in rw here (among-take_none x n ys parts.1)

-- what is in a front is in the list
among-take_some : (x n : ℕ) (l : List ℕ) → among x (take n l) ≡ true → among x l ≡ true
among-take_some x n l h = elim (cases_Bool (among x l)) [ inl k ↦ k | inr k ↦ elim (false≢true (sym (among-take_none x n l k) ∙ h)) [ ] ]

-- the first of different lines differ
AllDiffer-take : (n : ℕ) (l : List ℕ) → AllDiffer l → AllDiffer (take n l)
AllDiffer-take zero l d = tt
AllDiffer-take (suc n) [] d = tt
AllDiffer-take (suc n) (x ∷ xs) d = (among-take_none x n xs d.0, AllDiffer-take n xs d.1)

-- the lines that are kept differ
pub AllDiffer-kept : (ways : ℕ) (items : List Item) → AllDiffer (kept ways items)
AllDiffer-kept ways [] = tt
AllDiffer-kept ways (Use x ∷ items) = AllDiffer-take ways (x ∷ without x (kept ways items)) (among-without_same x (kept ways items), AllDiffer-without x (kept ways items) (AllDiffer-kept ways items))
AllDiffer-kept ways (Drop x ∷ items) = AllDiffer-without x (kept ways items) (AllDiffer-kept ways items)

-- ---- without drops

-- they are the first of those that are alive
pub kept-uses : (ways : ℕ) (lines : List ℕ) → kept ways (uses lines) ≡ take ways (alive (uses lines))
kept-uses zero [] = refl
kept-uses (suc n) [] = refl
kept-uses zero (x ∷ xs) = refl
kept-uses (suc n) (x ∷ xs) =
    let all : List ℕ = alive (uses xs) in
    ap (λ (l : List ℕ). take (suc n) (x ∷ without x l)) (kept-uses (suc n) xs)
    ∙ (ap (λ (l : List ℕ). take (suc n) (x ∷ l)) (sym (without_first-differ x (take (suc n) all) (AllDiffer-take (suc n) all (AllDiffer-alive xs))))
    ∙ take-moved n x all (AllDiffer-alive xs))

-- ---- which uses hit

-- a line that stays in the front has the same lines before it
before_line-take : (x n : ℕ) (l : List ℕ) → among x (take n l) ≡ true → before_line x (take n l) ≡ before_line x l
before_line-take x zero l h = elim (false≢true h) [ ]
before_line-take x (suc n) [] h = refl
before_line-take x (suc n) (y ∷ ys) h = elim (cases_Bool (y == x)) [
  | inl k ↦ rw k refl
  | inr k ↦ let h' : among x (take n ys) ≡ true = rw k at h in rw k (ap (λ (l : List ℕ). y ∷ l) (before_line-take x n ys h'))
]

-- no more lines than before
length-without_le : (x : ℕ) (l : List ℕ) → length (without x l) ≤ length l
length-without_le x [] = omega arith
length-without_le x (y ∷ ys) = let ih : length (without x ys) ≤ length ys = length-without_le x ys in elim (cases_Bool (y == x)) [ inl k ↦ rw k (omega arith) | inr k ↦ rw k (omega arith) ]

-- where always fewer lines are alive, fewer are now
alive-lt : (ways : ℕ) (l : List Item) → always_fewer ways l ≡ true → length (alive l) < ways
alive-lt ways [] h = ltb-true 0 ways h
alive-lt ways (i ∷ is) h = ltb-true (length (alive (i ∷ is))) ways (and_parts (nat_lt (length (alive (i ∷ is))) ways) (always_fewer ways is) h).0

-- a test more leaves what fails
and-false_both : (u f c : Bool) → false ≡ (u && f) → false ≡ (u && (c && f))
and-false_both true f true e = e
and-false_both true f false e = refl
and-false_both false f c e = refl

-- a test more on each side
and-both_tested : (a u f : Bool) → a ≡ (u && f) → (b c : Bool) → (a ≡ true → b ≡ c) → (a && b) ≡ (u && (c && f))
and-both_tested true u f e b c h =
    let parts = and_parts u f (sym e) in
    let left : u ≡ true = parts.0 in
    let right : f ≡ true = parts.1 in rw (left, right) (h refl ∙ sym (and-true c))
and-both_tested false u f e b c h = and-false_both u f c e

-- a test more that holds
and-more_tested : (a u f : Bool) → a ≡ (u && f) → (b : Bool) → (a ≡ true → b ≡ true) → a ≡ (u && (b && f))
and-more_tested true u f e b h = let t : b ≡ true = h refl in rw t e
and-more_tested false u f e b h = and-false_both u f b e

-- the lines kept are those whose later lines were always fewer than the ways, and these are the lines before them
among-kept : (ways x : ℕ) (l : List Item) → (among x (kept ways l) ≡ (is_used x l && always_fewer ways (since x l))) × (among x (kept ways l) ≡ true → before_line x (kept ways l) ≡ alive (since x l))
among-kept ways x [] = (refl, λ h. elim (false≢true h) [ ])
among-kept ways x (Use y ∷ is) =
    let K : List ℕ = kept ways is in
    let W : List ℕ = without y K in
    let ih = among-kept ways x is in
    elim (cases_Bool (y == x)) [
      | inl k ↦ (among-take x ways (y ∷ W) ∙ rw k refl, λ h. before_line-take x ways (y ∷ W) h ∙ rw k refl)
      | inr k ↦
          let other : (x == y) ≡ false = ne_eqb x y (λ e. eqb-false y x k (sym e)) in
          let lines : before_line x W ≡ without y (before_line x K) = before_line-without x y K k in (
            among-take x ways (y ∷ W)
                ∙ rw k
                (ap (λ b. b && nat_lt (suc (length (before_line x W))) ways) (among-without_other x y K other)
                ∙ and-both_tested (among x K) (is_used x is) (always_fewer ways (since x is)) ih.0 (nat_lt (suc (length (before_line x W))) ways) (nat_lt (suc (length (without y (alive (since x is))))) ways)
                (λ h. ap (λ l. nat_lt (suc (length l)) ways) (lines ∙ ap (λ l. without y l) (ih.1 h)))),
            λ h.
                let m : among x (y ∷ W) ≡ true = among-take_some x ways (y ∷ W) h in
                let m' : among x W ≡ true = rw k at m in
                let m'' : among x K ≡ true = sym (among-without_other x y K other) ∙ m' in
                before_line-take x ways (y ∷ W) h ∙ rw k (ap (λ l. y ∷ l) (lines ∙ ap (λ l. without y l) (ih.1 m''))),
          )
    ]
among-kept ways x (Drop y ∷ is) =
    let K : List ℕ = kept ways is in
    let ih = among-kept ways x is in
    elim (cases_Bool (y == x)) [
      | inl k ↦
          let gone : among x (without y K) ≡ false = subst (λ z. among x (without z K) ≡ false) (sym (eqb-true y x k)) (among-without_same x K) in
          (gone ∙ rw k refl, λ h. elim (false≢true (sym gone ∙ h)) [ ])
      | inr k ↦
          let other : (x == y) ≡ false = ne_eqb x y (λ e. eqb-false y x k (sym e)) in
          let same : among x (without y K) ≡ among x K = among-without_other x y K other in
          let lines : before_line x (without y K) ≡ without y (before_line x K) = before_line-without x y K k in (
            same
                ∙ rw k
                (and-more_tested (among x K) (is_used x is) (always_fewer ways (since x is)) ih.0 (nat_lt (length (without y (alive (since x is)))) ways)
                (λ h.
                let now : length (alive (since x is)) < ways = alive-lt ways (since x is) (and_parts (is_used x is) (always_fewer ways (since x is)) (sym ih.0 ∙ h)).1 in
                let less : length (without y (alive (since x is))) ≤ length (alive (since x is)) = length-without_le y (alive (since x is)) in
                lt-ltb _ ways (omega arith))),
            λ h. lines ∙ rw k (ap (λ l. without y l) (ih.1 (sym same ∙ h))),
          )
    ]

-- a private cache hits just the lines that it keeps
pub private_hit-kept : (ways x : ℕ) (earlier : List Item) → private_hit ways earlier x ≡ among x (kept ways (reverse earlier))
private_hit-kept ways x earlier = sym (among-kept ways x (reverse earlier)).0
