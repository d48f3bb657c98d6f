-- What holds of beginnings of lists.
use Rattle.std.proofs.Common.{◌≡◌, inl, inr, ℕ, zero, suc, ◌<◌, ◌≤◌, nat_lt, List, [], ◌∷◌, ◌++◌, length, slice_index_or, refl, sym, ◌∙◌, ap, subst, arith}
use Rattle.std.proofs.lemmas.List.{append_assoc, append-nil, length-append, length_push}
use Rattle.std.proofs.lemmas.Bool.{cases_Bool, cond-true, cond-false, cond_both, ltb-false, ltb-true}
use Rattle.seen_journal.specs.Prefixes.{IsPrefix, ArePrefixes, longer_of}

-- a list begins itself
pub IsPrefix-self : {A : Type 0} (xs : List A) → IsPrefix xs xs
IsPrefix-self xs = ([], append-nil xs)

-- what begins a list begins a longer one
pub IsPrefix-append : {A : Type 0} (xs ys zs : List A) → IsPrefix xs ys → IsPrefix xs (ys ++ zs)
IsPrefix-append xs ys zs b = (b.0 ++ zs, sym (append_assoc xs b.0 zs) ∙ ap (λ l. l ++ zs) b.1)

-- what begins a beginning of a list begins the list
pub IsPrefix-through : {A : Type 0} (xs ys zs : List A) → IsPrefix xs ys → IsPrefix ys zs → IsPrefix xs zs
IsPrefix-through xs ys zs a b = subst (λ l. IsPrefix xs l) b.1 (IsPrefix-append xs ys b.0 a)

module _ {A : Type 0} where
  -- of two beginnings of one list, the one that is not longer begins the other
  pub IsPrefix-shorter : (xs ys all : List A) → IsPrefix xs all → IsPrefix ys all → length xs ≤ length ys → IsPrefix xs ys
  IsPrefix-shorter [] ys all a b _ = (ys, refl)
  IsPrefix-shorter (x ∷ xs) [] all a b l = absurd (omega arith)
  IsPrefix-shorter (x ∷ xs) (y ∷ ys) [] a b l = cc
  IsPrefix-shorter (x ∷ xs) (y ∷ ys) (z ∷ zs) a b l =
      let same : x ≡ y = cc in
      let ax : xs ++ a.0 ≡ zs = cc in
      let bx : ys ++ b.0 ≡ zs = cc in
      let r = IsPrefix-shorter xs ys zs (a.0, ax) (b.0, bx) (omega arith) in
      (r.0, ap (λ l. x ∷ l) r.1 ∙ ap (λ h. h ∷ ys) same)

-- two lists that begin each other are equal
pub IsPrefix-both : {A : Type 0} (xs ys : List A) → IsPrefix xs ys → IsPrefix ys xs → xs ≡ ys
IsPrefix-both [] [] a b = refl
IsPrefix-both [] (y ∷ ys) a b = cc
IsPrefix-both (x ∷ xs) [] a b = cc
IsPrefix-both (x ∷ xs) (y ∷ ys) a b =
    let same : x ≡ y = cc in
    let ax : xs ++ a.0 ≡ ys = cc in
    let bx : ys ++ b.0 ≡ xs = cc in
    ap (λ h. h ∷ xs) same ∙ ap (λ l. y ∷ l) (IsPrefix-both xs ys (a.0, ax) (b.0, bx))

-- a beginning is not longer
pub length-prefix : {A : Type 0} (xs ys : List A) → IsPrefix xs ys → length xs ≤ length ys
length-prefix [] ys b = omega arith
length-prefix (x ∷ xs) [] b = cc
length-prefix (x ∷ xs) (y ∷ ys) b = let h = length-prefix xs ys (b.0, cc) in omega arith

module _ {E : Type 0} where
  -- no list with an entry begins an empty one
  pub IsPrefix-not_empty : (xs asked : List E) (e : E) → IsPrefix (xs ++ e ∷ []) asked → asked ≡ [] → ⊥
  IsPrefix-not_empty [] asked e b empty = cc
  IsPrefix-not_empty (x ∷ xs) asked e b empty = cc

  -- a beginning of a beginning is as bounded as the list
  pub length-prefix_within : (xs ys zs : List E) (n : ℕ) → IsPrefix xs ys → IsPrefix ys zs → length zs ≤ n → length xs ≤ n
  length-prefix_within xs ys zs n a b l = let h = length-prefix xs ys a in let k = length-prefix ys zs b in omega arith

module _ {A : Type 0} where
  -- one of several beginnings
  pub ArePrefixes-at : (xss : List (List A)) (ys : List A) (k : ℕ) → k < length xss → ArePrefixes xss ys → IsPrefix (slice_index_or xss k []) ys
  ArePrefixes-at [] ys k l h = absurd (omega arith)
  ArePrefixes-at (xs ∷ xss) ys zero l h = h.0
  ArePrefixes-at (xs ∷ xss) ys (suc k) l h = ArePrefixes-at xss ys k (omega arith) h.1

  -- several beginnings of a list begin a longer one
  pub ArePrefixes-append : (xss : List (List A)) (ys zs : List A) → ArePrefixes xss ys → ArePrefixes xss (ys ++ zs)
  ArePrefixes-append [] ys zs h = tt
  ArePrefixes-append (xs ∷ xss) ys zs h = (IsPrefix-append xs ys zs h.0, ArePrefixes-append xss ys zs h.1)

module _ {E : Type 0} where
  -- the longer of two beginnings is one
  pub IsPrefix-longer_of : (xs ys all : List (ℕ × E)) → IsPrefix xs all → IsPrefix ys all → IsPrefix (longer_of xs ys) all
  IsPrefix-longer_of xs ys all a b = cond_both (nat_lt (length xs) (length ys)) ys xs (λ l. IsPrefix l all) (λ _. b) (λ _. a)

  -- the longer of a list and one that it begins is that one
  pub longer_of-prefix : (xs ys : List (ℕ × E)) → IsPrefix xs ys → longer_of xs ys ≡ ys
  longer_of-prefix xs ys b =
      elim (cases_Bool (nat_lt (length xs) (length ys))) [
        | inl less ↦ cond-true (nat_lt (length xs) (length ys)) ys xs less
        | inr more ↦ cond-false (nat_lt (length xs) (length ys)) ys xs more ∙ IsPrefix-both xs ys b (IsPrefix-shorter ys xs ys (IsPrefix-self ys) b (ltb-false (length xs) (length ys) more))
      ]

  -- neither list is longer than the longer one
  pub length-longer_of_first : (xs ys : List (ℕ × E)) → length xs ≤ length (longer_of xs ys)
  length-longer_of_first xs ys = elim (cases_Bool (nat_lt (length xs) (length ys))) [
    | inl less ↦ subst (λ l. length xs ≤ length l) (sym (cond-true (nat_lt (length xs) (length ys)) ys xs less)) (let h = ltb-true (length xs) (length ys) less in omega (arith, h))
    | inr more ↦ subst (λ l. length xs ≤ length l) (sym (cond-false (nat_lt (length xs) (length ys)) ys xs more)) (omega arith)
  ]

  pub length-longer_of_second : (xs ys : List (ℕ × E)) → length ys ≤ length (longer_of xs ys)
  length-longer_of_second xs ys = elim (cases_Bool (nat_lt (length xs) (length ys))) [
    | inl less ↦ subst (λ l. length ys ≤ length l) (sym (cond-true (nat_lt (length xs) (length ys)) ys xs less)) (omega arith)
    | inr more ↦ subst (λ l. length ys ≤ length l) (sym (cond-false (nat_lt (length xs) (length ys)) ys xs more)) (let h = ltb-false (length xs) (length ys) more in omega (arith, h))
  ]

  -- one entry more, below a bound
  pub length-push_within : (xs : List E) (e : E) (n : ℕ) → length xs < n → length (xs ++ e ∷ []) ≤ n
  length-push_within xs e n less = omega (arith, length_push xs e, less)

-- a beginning that is as long as the list is the list
pub IsPrefix-whole : {A : Type 0} (xs ys : List A) → IsPrefix xs ys → length xs ≡ length ys → xs ≡ ys
IsPrefix-whole xs ys (([], is)) same = sym (append-nil xs) ∙ is
IsPrefix-whole xs ys ((x ∷ rest, is)) same = absurd (omega (arith, same, ap length is, length-append xs (x ∷ rest)))

-- of two beginnings of a list it is the same which comes first
pub longer_of-flip : {A : Type 0} (xs ys all : List A) → IsPrefix xs all → IsPrefix ys all → all ≡ longer_of xs ys → longer_of xs ys ≡ longer_of ys xs
longer_of-flip xs ys all a b is = elim (cases_Bool (nat_lt (length xs) (length ys))) [
  | inl less ↦
      let whole : longer_of xs ys ≡ ys = rw less refl in
      elim (cases_Bool (nat_lt (length ys) (length xs))) [
        | inl more ↦ (let h = ltb-true (length xs) (length ys) less in let k = ltb-true (length ys) (length xs) more in absurd (omega (arith, h, k)))
        | inr more ↦ (let other : longer_of ys xs ≡ ys = rw more refl in whole ∙ sym other)
      ]
  | inr less ↦
      let whole : longer_of xs ys ≡ xs = rw less refl in
      elim (cases_Bool (nat_lt (length ys) (length xs))) [
        | inl more ↦ (let other : longer_of ys xs ≡ xs = rw more refl in whole ∙ sym other)
        | inr more ↦
            let h = ltb-false (length xs) (length ys) less in
            let k = ltb-false (length ys) (length xs) more in
            let other : longer_of ys xs ≡ ys = rw more refl in
            whole ∙ (sym (IsPrefix-whole ys xs (subst (λ l. IsPrefix ys l) (is ∙ whole) b) (omega (arith, h, k))) ∙ sym other)
      ]
]
