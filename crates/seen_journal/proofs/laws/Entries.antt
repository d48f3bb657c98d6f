-- What holds of the entries of one pass in a list.
use Rattle.std.proofs.Common.{◌≡◌, ◌≢◌, ℕ, zero, suc, ◌+◌, ◌==◌, cond, true, false, Bool, inl, inr, List, [], ◌∷◌, ◌++◌, length, slice_get, Some, refl, sym, ◌∙◌, ap, subst, arith}
use Rattle.std.proofs.lemmas.List.{append-nil, append_cancel_left}
use Rattle.std.proofs.lemmas.Bool.{cases_Bool, cond-true, cond-false, eq-eqb}
use Rattle.seen_journal.specs.Prefixes.{IsPrefix}
use Rattle.seen_journal.specs.Entries.{entries_of, list_of}
use Rattle.seen_journal.proofs.laws.Prefixes.{IsPrefix-both}

module _ {E : Type 0} where
  -- the entries in one list after another
  pub entries_of-append : (n : ℕ) (xs ys : List (ℕ × E)) → entries_of n (xs ++ ys) ≡ entries_of n xs ++ entries_of n ys
  entries_of-append n [] ys = refl
  entries_of-append n (x ∷ xs) ys = step (x.0 == n) x.1 (entries_of n xs) (entries_of n ys) (entries_of n (xs ++ ys)) (entries_of-append n xs ys)
    where
      step : (b : Bool) (x : E) (xs ys zs : List E) → zs ≡ xs ++ ys → cond b (x ∷ zs) zs ≡ cond b (x ∷ xs) xs ++ ys
      step true x xs ys zs e = ap (λ l. x ∷ l) e
      step false x xs ys zs e = e

  -- a beginning has a beginning of the entries
  pub IsPrefix-entries_of : (n : ℕ) (xs ys : List (ℕ × E)) → IsPrefix xs ys → IsPrefix (entries_of n xs) (entries_of n ys)
  IsPrefix-entries_of n xs ys b = (entries_of n b.0, sym (entries_of-append n xs b.0) ∙ ap (entries_of n) b.1)

  -- one entry more of the pass
  pub entries_of-push_own : (n m : ℕ) (e : E) (all : List (ℕ × E)) → (n == m) ≡ true → entries_of m (all ++ (n, e) ∷ []) ≡ entries_of m all ++ e ∷ []
  entries_of-push_own n m e all same = entries_of-append m all ((n, e) ∷ []) ∙ ap (λ l. entries_of m all ++ l) (cond-true (n == m) (e ∷ []) [] same)

  -- one entry more of another pass
  pub entries_of-push_other : (n m : ℕ) (e : E) (all : List (ℕ × E)) → (n == m) ≡ false → entries_of m (all ++ (n, e) ∷ []) ≡ entries_of m all
  entries_of-push_other n m e all other = entries_of-append m all ((n, e) ∷ []) ∙ (ap (λ l. entries_of m all ++ l) (cond-false (n == m) (e ∷ []) [] other) ∙ append-nil (entries_of m all))

  -- what a pass has asked for is just what stands in the list that it now sees
  pub entries_of-seen : (n : ℕ) (past now : List (ℕ × E)) (asked : List E) → IsPrefix past now → entries_of n past ≡ asked → IsPrefix (entries_of n now) asked → entries_of n now ≡ asked
  entries_of-seen n past now asked b own low = IsPrefix-both (entries_of n now) asked low (subst (λ l. IsPrefix l (entries_of n now)) own (IsPrefix-entries_of n past now b))

  -- the list without numbers is as long
  pub length-list_of : (xs : List (ℕ × E)) → length (list_of xs) ≡ length xs
  length-list_of [] = refl
  length-list_of (x ∷ xs) = let h = length-list_of xs in omega (arith, h)

  -- and has one entry more where the list has
  pub list_of-push : (xs : List (ℕ × E)) (x : ℕ × E) → list_of (xs ++ x ∷ []) ≡ list_of xs ++ x.1 ∷ []
  list_of-push [] x = refl
  list_of-push (y ∷ ys) x = ap (λ l. y.1 ∷ l) (list_of-push ys x)

  -- the list without numbers, of one list after another
  pub list_of-append : (xs ys : List (ℕ × E)) → list_of (xs ++ ys) ≡ list_of xs ++ list_of ys
  list_of-append [] ys = refl
  list_of-append (x ∷ xs) ys = ap (λ l. x.1 ∷ l) (list_of-append xs ys)

  -- that of a beginning is a beginning
  pub IsPrefix-list_of : (xs ys : List (ℕ × E)) → IsPrefix xs ys → IsPrefix (list_of xs) (list_of ys)
  IsPrefix-list_of xs ys b = (list_of b.0, sym (list_of-append xs b.0) ∙ ap list_of b.1)

  -- an entry of it, with its number
  pub slice_get-list_of : (xs : List (ℕ × E)) (k : ℕ) (e : E) → slice_get (list_of xs) k ≡ Some e → (x : ℕ × E) × (slice_get xs k ≡ Some x) × (x.1 ≡ e)
  slice_get-list_of [] k e at = absurd cc
  slice_get-list_of (x ∷ xs) zero e at = (x, refl, let same : x.1 ≡ e = cc in same)
  slice_get-list_of (x ∷ xs) (suc k) e at = slice_get-list_of xs k e at

  -- where a pass has no entry, none is of its number
  pub entries_of-none : (n : ℕ) (xs : List (ℕ × E)) (k : ℕ) (x : ℕ × E) → entries_of n xs ≡ [] → slice_get xs k ≡ Some x → x.0 ≢ n
  entries_of-none n [] k x none at same = absurd cc
  entries_of-none n (y ∷ xs) zero x none at same =
      let is : y ≡ x = cc in
      let mine : (y.0 == n) ≡ true = eq-eqb y.0 n (ap (λ (z : ℕ × E). z.0) is ∙ same) in
      let wrong : y.1 ∷ entries_of n xs ≡ [] = rw mine at none in
      absurd cc
  entries_of-none n (y ∷ xs) (suc k) x none at same = elim (cases_Bool (y.0 == n)) [
    | inl mine ↦ absurd (let wrong : y.1 ∷ entries_of n xs ≡ [] = rw mine at none in cc)
    | inr other ↦ entries_of-none n xs k x (rw other at none) at same
  ]

  -- where a longer list has no entry more of a pass, what stands after its beginning has none
  pub entries_of-rest : (n : ℕ) (xs rest : List (ℕ × E)) → entries_of n (xs ++ rest) ≡ entries_of n xs → entries_of n rest ≡ []
  entries_of-rest n xs rest own = append_cancel_left (entries_of n xs) (entries_of n rest) [] (sym (entries_of-append n xs rest) ∙ (own ∙ sym (append-nil (entries_of n xs))))

-- what stands in the second of two lists
pub slice_get-append_behind : {A : Type 0} (xs ys : List A) (k : ℕ) (x : A) → slice_get ys k ≡ Some x → slice_get (xs ++ ys) (length xs + k) ≡ Some x
slice_get-append_behind [] ys k x at = let same : 0 + k ≡ k = omega arith in subst (λ r. slice_get ys r ≡ Some x) (sym same) at
slice_get-append_behind (y ∷ xs) ys k x at =
    let same : suc (length xs + k) ≡ length (y ∷ xs) + k = omega arith in
    subst (λ r. slice_get (y ∷ xs ++ ys) r ≡ Some x) same (slice_get-append_behind xs ys k x at)
