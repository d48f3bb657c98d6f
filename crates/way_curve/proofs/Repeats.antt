-- Lines that are used a second time in the same order: what is alive after that, and what hits.
use Rattle.std.proofs.Common.{◌≡◌, ℕ, zero, suc, ◌+◌, ◌<◌, Bool, true, false, ◌&&◌, ◌==◌, nat_lt, List, [], ◌∷◌, ◌++◌, length, reverse, arith, refl, sym, ◌∙◌, ap, subst, append_assoc, inl, inr}
use Rattle.std.specs.List.{filter, range_with_len}
use Rattle.std.proofs.lemmas.Bool.{cases_Bool, eqb-false, eq-eqb, ne_eqb, or_parts}
use Rattle.std.proofs.lemmas.List.{append-nil, length-reverse, reverse-append}
use Rattle.std.proofs.lemmas.List.Folds.{list_any-append}
use Rattle.private_lru.specs.Private.{among, without, alive, is_used, since, always_fewer, private_hit}
use Rattle.private_lru.specs.declared.item.Item.{Item}
use Rattle.way_curve.proofs.Alive.{AllDiffer, always_fewer-uses, among-without_same, before_line, reverse-uses, since-uses, uses, without-absent}

-- ---- what is alive

-- these lines, the latest first, moved to the front of others one after the other
abbrev pub moved : List ℕ → List ℕ → List ℕ
moved [] lines = lines
moved (x ∷ xs) lines = x ∷ without x (moved xs lines)

-- more uses move their lines to the front
alive-append : (xs lines : List ℕ) → alive (uses (xs ++ lines)) ≡ moved xs (alive (uses lines))
alive-append [] lines = refl
alive-append (x ∷ xs) lines = ap (λ (l : List ℕ). x ∷ without x l) (alive-append xs lines)

-- two lines are taken out in either order
without-without : (x y : ℕ) (l : List ℕ) → without x (without y l) ≡ without y (without x l)
without-without x y [] = refl
without-without x y (z ∷ l) =
    let ih : without x (without y l) ≡ without y (without x l) = without-without x y l in
    elim (cases_Bool (z == x)) [
      | inl h ↦ elim (cases_Bool (z == y)) [
        | inl k ↦ rw (h, k) ih
        | inr k ↦ rw (h, k) (rw h ih)
      ]
      | inr h ↦ elim (cases_Bool (z == y)) [
        | inl k ↦ rw (h, k) ih
        | inr k ↦ rw (h, k) (rw h (ap (λ (l : List ℕ). z ∷ l) ih))
      ]
    ]

-- a line is taken out once
without-twice : (x : ℕ) (l : List ℕ) → without x (without x l) ≡ without x l
without-twice x l = without-absent x (without x l) (among-without_same x l)

-- lists that differ at most in the places of a line still do so where another moves to the front
without-same : (x y : ℕ) (l m : List ℕ) → without x l ≡ without x m → without x (y ∷ without y l) ≡ without x (y ∷ without y m)
without-same x y l m same =
    let rest : without x (without y l) ≡ without x (without y m) = without-without x y l ∙ (ap (λ (l : List ℕ). without y l) same ∙ without-without y x m) in
    elim (cases_Bool (y == x)) [
      | inl h ↦ rw h rest
      | inr h ↦ rw h (ap (λ (l : List ℕ). y ∷ l) rest)
    ]

-- where a line stood before it is taken out makes no difference
without-moved : (x : ℕ) (xs l : List ℕ) → without x (moved xs (without x l)) ≡ without x (moved xs l)
without-moved x [] l = without-twice x l
without-moved x (y ∷ xs) l = without-same x y (moved xs (without x l)) (moved xs l) (without-moved x xs l)

-- moved a second time, the lines stand as before
moved-twice : (xs l : List ℕ) → moved xs (moved xs l) ≡ moved xs l
moved-twice [] l = refl
moved-twice (x ∷ xs) l =
    let once : List ℕ = moved xs l in
    let self : (x == x) ≡ true = eq-eqb x x refl in
    let front : without x (x ∷ without x once) ≡ without x once = rw self (without-twice x once) in
    let step : without x (moved xs (x ∷ without x once)) ≡ without x once =
    sym (without-moved x xs (x ∷ without x once)) ∙ (ap (λ (l : List ℕ). without x (moved xs l)) front
    ∙ (without-moved x xs once ∙ ap (λ (l : List ℕ). without x l) (moved-twice xs l))) in
    ap (λ (l : List ℕ). x ∷ l) step

-- after a second use of the same lines the same are alive, in the same order
pub alive-twice : (xs lines : List ℕ) → alive (uses (reverse ((lines ++ xs) ++ xs))) ≡ alive (uses (reverse (lines ++ xs)))
alive-twice xs lines =
    let back : List ℕ = reverse xs in
    let old : List ℕ = reverse lines in
    let once : reverse (lines ++ xs) ≡ back ++ old = reverse-append lines xs in
    let twice : reverse ((lines ++ xs) ++ xs) ≡ back ++ (back ++ old) = reverse-append (lines ++ xs) xs ∙ ap (λ (l : List ℕ). back ++ l) once in
    ap (λ (l : List ℕ). alive (uses l)) twice
    ∙ (alive-append back (back ++ old) ∙ (ap (λ (l : List ℕ). moved back l) (alive-append back old)
    ∙ (moved-twice back (alive (uses old)) ∙ (sym (alive-append back old) ∙ ap (λ (l : List ℕ). alive (uses l)) (sym once)))))

-- ---- lines that differ

-- a line is not there, in either order of two lists
among-swap : (x : ℕ) (xs ys : List ℕ) → among x (xs ++ ys) ≡ false → among x (ys ++ xs) ≡ false
among-swap x xs ys h =
    let parts = or_parts (among x xs) (among x ys) (sym (list_any-append (λ (y : ℕ). y == x) xs ys) ∙ h) in
    list_any-append (λ (y : ℕ). y == x) ys xs ∙ rw (parts.1) parts.0

-- a line is not there if it is not the one that is put in
among-insert : (x y : ℕ) (xs ys : List ℕ) → (y == x) ≡ false → among x (xs ++ ys) ≡ false → among x (xs ++ y ∷ ys) ≡ false
among-insert x y [] ys other h = rw other h
among-insert x y (z ∷ xs) ys other h =
    let parts = or_parts (z == x) (among x (xs ++ ys)) h in
    rw (parts.0) (among-insert x y xs ys other parts.1)

-- a line that is not there is put in
AllDiffer-insert : (x : ℕ) (xs ys : List ℕ) → AllDiffer (xs ++ ys) → among x (xs ++ ys) ≡ false → AllDiffer (xs ++ x ∷ ys)
AllDiffer-insert x [] ys d h = (h, d)
AllDiffer-insert x (y ∷ xs) ys d h =
    let parts = or_parts (y == x) (among x (xs ++ ys)) h in
    let other : (x == y) ≡ false = ne_eqb x y (λ e. eqb-false y x parts.0 (sym e)) in
    (among-insert y x xs ys other d.0, AllDiffer-insert x xs ys d.1 parts.1)

-- different lines in another order
AllDiffer-swap : (xs ys : List ℕ) → AllDiffer (xs ++ ys) → AllDiffer (ys ++ xs)
AllDiffer-swap [] ys d = subst AllDiffer (sym (append-nil ys)) d
AllDiffer-swap (x ∷ xs) ys d = AllDiffer-insert x ys xs (AllDiffer-swap xs ys d.1) (among-swap x xs ys d.0)

-- a line that is not there is not there in reverse
among-reverse : (x : ℕ) (xs : List ℕ) → among x xs ≡ false → among x (reverse xs) ≡ false
among-reverse x [] h = refl
among-reverse x (y ∷ xs) h =
    let parts = or_parts (y == x) (among x xs) h in
    let front : among x (y ∷ reverse xs) ≡ false = rw (parts.0) (among-reverse x xs parts.1) in
    ap (λ (l : List ℕ). among x l) (reverse-append (y ∷ []) xs) ∙ among-swap x (y ∷ []) (reverse xs) front

-- different lines differ in reverse
AllDiffer-reverse : (xs : List ℕ) → AllDiffer xs → AllDiffer (reverse xs)
AllDiffer-reverse [] d = tt
AllDiffer-reverse (x ∷ xs) d =
    subst AllDiffer (sym (reverse-append (x ∷ []) xs)) (AllDiffer-swap (x ∷ []) (reverse xs) (among-reverse x xs d.0, AllDiffer-reverse xs d.1))

-- those that pass a test
among-filter : (x : ℕ) (p : ℕ → Bool) (xs : List ℕ) → among x xs ≡ false → among x (filter p xs) ≡ false
among-filter x p [] h = refl
among-filter x p (y ∷ xs) h =
    let parts = or_parts (y == x) (among x xs) h in
    let ih : among x (filter p xs) ≡ false = among-filter x p xs parts.1 in
    elim (cases_Bool (p y)) [
      | inl k ↦ rw (k, parts.0) ih
      | inr k ↦ rw k ih
    ]

-- different lines that pass a test
pub AllDiffer-filter : (p : ℕ → Bool) (xs : List ℕ) → AllDiffer xs → AllDiffer (filter p xs)
AllDiffer-filter p [] d = tt
AllDiffer-filter p (x ∷ xs) d = elim (cases_Bool (p x)) [
  | inl k ↦ rw k (among-filter x p xs d.0, AllDiffer-filter p xs d.1)
  | inr k ↦ rw k (AllDiffer-filter p xs d.1)
]

-- lines of a run are not before it
among-range : (x a n : ℕ) → x < a → among x (range_with_len a n) ≡ false
among-range x a zero lt = refl
among-range x a (suc n) lt =
    let other : (a == x) ≡ false = ne_eqb a x (λ (e : a ≡ x). omega arith) in
    rw other (among-range x (a + 1) n (omega arith))

-- the lines of a run differ
pub AllDiffer-range : (a n : ℕ) → AllDiffer (range_with_len a n)
AllDiffer-range a zero = tt
AllDiffer-range a (suc n) = (among-range a (a + 1) n (omega arith), AllDiffer-range (a + 1) n)

-- ---- what hits

-- all of different lines are alive
alive-differ : (xs : List ℕ) → AllDiffer xs → alive (uses xs) ≡ xs
alive-differ [] d = refl
alive-differ (x ∷ xs) d = ap (λ (l : List ℕ). x ∷ l) (ap (λ (l : List ℕ). without x l) (alive-differ xs d.1) ∙ without-absent x xs d.0)

-- a line that is used is used
is_used-there : (x : ℕ) (xs rest : List ℕ) → is_used x (uses (xs ++ x ∷ rest)) ≡ true
is_used-there x [] rest = let self : (x == x) ≡ true = eq-eqb x x refl in rw self refl
is_used-there x (y ∷ xs) rest = elim (cases_Bool (y == x)) [
  | inl k ↦ rw k refl
  | inr k ↦ rw k (is_used-there x xs rest)
]

-- the lines in front of one that is not among them
before_line-there : (x : ℕ) (xs rest : List ℕ) → among x xs ≡ false → before_line x (xs ++ x ∷ rest) ≡ xs
before_line-there x [] rest h = let self : (x == x) ≡ true = eq-eqb x x refl in rw self refl
before_line-there x (y ∷ xs) rest h =
    let parts = or_parts (y == x) (among x xs) h in
    rw (parts.0) (ap (λ (l : List ℕ). y ∷ l) (before_line-there x xs rest parts.1))

-- The second use of a line, after the others before it, hits where the ways are more than the others.
pub private_hit-again : (ways x : ℕ) (old xs ys : List ℕ) → AllDiffer (xs ++ x ∷ ys) → private_hit ways (uses ((old ++ (xs ++ x ∷ ys)) ++ xs)) x ≡ nat_lt (length (ys ++ xs)) ways
private_hit-again ways x old xs ys d =
    let turned : AllDiffer (x ∷ (ys ++ xs)) = AllDiffer-swap xs (x ∷ ys) d in
    let between : List ℕ = reverse (ys ++ xs) in
    let rest : List ℕ = reverse xs ++ reverse old in
    let inner : reverse (old ++ (xs ++ x ∷ ys)) ≡ (reverse ys ++ x ∷ []) ++ rest =
    reverse-append old (xs ++ x ∷ ys)
    ∙ (ap (λ (l : List ℕ). l ++ reverse old) (reverse-append xs (x ∷ ys) ∙ ap (λ (l : List ℕ). l ++ reverse xs) (reverse-append (x ∷ []) ys))
    ∙ append_assoc (reverse ys ++ x ∷ []) (reverse xs) (reverse old)) in
    let back : reverse ((old ++ (xs ++ x ∷ ys)) ++ xs) ≡ between ++ x ∷ rest =
    reverse-append (old ++ (xs ++ x ∷ ys)) xs
    ∙ (ap (λ (l : List ℕ). reverse xs ++ l) (inner ∙ append_assoc (reverse ys) (x ∷ []) rest)
    ∙ (sym (append_assoc (reverse xs) (reverse ys) (x ∷ rest)) ∙ ap (λ (l : List ℕ). l ++ x ∷ rest) (sym (reverse-append ys xs)))) in
    let gone : among x between ≡ false = among-reverse x (ys ++ xs) turned.0 in
    let since_it : since x (uses (between ++ x ∷ rest)) ≡ uses between = since-uses x (between ++ x ∷ rest) ∙ ap uses (before_line-there x between rest gone) in
    let others : length (alive (uses between)) ≡ length (ys ++ xs) =
    ap length (alive-differ between (AllDiffer-reverse (ys ++ xs) turned.1)) ∙ length-reverse (ys ++ xs) in
    ap (λ (items : List Item). is_used x items && always_fewer ways (since x items)) (reverse-uses ((old ++ (xs ++ x ∷ ys)) ++ xs) ∙ ap uses back)
    ∙ (ap (λ (b : Bool). b && always_fewer ways (since x (uses (between ++ x ∷ rest)))) (is_used-there x between rest)
    ∙ (ap (λ (items : List Item). always_fewer ways items) since_it ∙ (always_fewer-uses ways between ∙ ap (λ (n : ℕ). nat_lt n ways) others)))
