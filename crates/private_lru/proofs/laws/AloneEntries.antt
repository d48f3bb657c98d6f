-- The covered accesses of a window stand before the first use of another.
use Rattle.std.proofs.Common.{◌≡◌, ℕ, suc, ◌+◌, ◌≤◌, Bool, true, false, cond, not, ◌&&◌, ◌||◌, ◌==◌, nat_lt, List, [], ◌∷◌, ◌++◌, length, take, unwrap_or, inl, inr, refl, sym, ap, ◌∙◌, arith}
use Rattle.std.specs.List.{filter, list_any, position, position_or_len, prefix_len}
use Rattle.std.proofs.lemmas.Bool.{and_parts, cases_Bool, ltb-false, true≢false, false≢true}
use Rattle.std.proofs.lemmas.List.Folds.{list_any-append}
use Rattle.cache_core.specs.declared.entry.What.{What}
use Rattle.cache_core.specs.declared.entry.What.TheVariants.{Access, Raise, Flush, Lock, Look, Drop}
use Rattle.cache_core.specs.declared.entry.SliceEntry.{SliceEntry}
use Rattle.std.proofs.lemmas.List.Sums.{length-filter}
use Rattle.private_lru.specs.GroupCounts.{hits_of_group, is_own_hit}
use Rattle.private_lru.specs.Covered.{covered, covered_after, is_covered, is_loaded_use, is_other_use, is_own}
use Rattle.private_lru.proofs.laws.CoveredAccesses.{covered_after-none}

-- a front is no longer than the list
prefix_len-le : {X : Type 0} (p : X → Bool) (xs : List X) → prefix_len p xs ≤ length xs
prefix_len-le p [] = omega arith
prefix_len-le p (x ∷ xs) = at (p x) (prefix_len-le p xs)
  where
    at : (b : Bool) → prefix_len p xs ≤ length xs → cond b (1 + prefix_len p xs) 0 ≤ suc (length xs)
    at true le = omega arith
    at false le = omega arith

-- the first place that passes, or the end
unwrap_or-position : {X : Type 0} (p : X → Bool) (xs : List X) → unwrap_or (position p xs) (length xs) ≡ position_or_len p xs
unwrap_or-position p xs = elim (cases_Bool (nat_lt (position_or_len p xs) (length xs))) [
  | inl less ↦ rw less refl
  | inr more ↦
      let le : position_or_len p xs ≤ length xs = prefix_len-le (λ x. not (p x)) xs in
      let high : length xs ≤ position_or_len p xs = ltb-false (position_or_len p xs) (length xs) more in
      rw more (omega arith)
]

-- another's use is no access of the group
is_own-other_use : (group : ℕ) (window : List SliceEntry) (what : What) → is_other_use group window what ≡ true → is_own group what ≡ false
is_own-other_use group window (Access hit way owner rmid mask line) other = elim (cases_Bool (owner.0 == group)) [
  | inl own ↦ absurd (false≢true (rw own at other))
  | inr foreign ↦ foreign
]
is_own-other_use group window Raise other = refl
is_own-other_use group window Flush other = refl
is_own-other_use group window (Lock mask first_line) other = refl
is_own-other_use group window (Look rmid lines) other = refl
is_own-other_use group window (Drop line at) other = refl

module _ (sets group : ℕ) (opening : What) (window : List SliceEntry) where
  abbrev other : SliceEntry → Bool
  other e = is_other_use group window e.what

  abbrev own : SliceEntry → Bool
  own e = is_own group e.what

  -- whether one entry more leaves the accesses after it covered
  is_covered-push : (earlier : List SliceEntry) (e : SliceEntry) (b : Bool) → other e ≡ b → is_covered sets group opening window earlier ≡ true → is_covered sets group opening window (earlier ++ e ∷ []) ≡ not b
  is_covered-push earlier e b is covered =
      at (list_any (λ (x : SliceEntry). is_loaded_use sets group opening x.what) window) (list_any other earlier) (list_any other (earlier ++ e ∷ [])) (other e) b (list_any-append other earlier (e ∷ [])) is covered
    where
      at : (loaded before now its b : Bool) → now ≡ (before || (its || false)) → its ≡ b → (not loaded && not before) ≡ true → (not loaded && not now) ≡ not b
      at true before now its b is e covered = absurd (false≢true covered)
      at false true now its b is e covered = absurd (false≢true covered)
      at false false now true b is e covered = rw is (ap not e)
      at false false now false b is e covered = rw is (ap not e)

  -- the covered accesses after some that leave accesses covered
  covered_after-filter : (earlier es : List SliceEntry) → is_covered sets group opening window earlier ≡ true → covered_after sets group opening window earlier es ≡ filter own (take (position_or_len other es) es)
  covered_after-filter earlier [] is = refl
  covered_after-filter earlier (e ∷ es) is = elim (cases_Bool (other e)) [
    | inl foreign ↦
        let none : covered_after sets group opening window (earlier ++ e ∷ []) es ≡ [] = covered_after-none sets group opening window (earlier ++ e ∷ []) es (is_covered-push earlier e true foreign is) in
        let not_own : own e ≡ false = is_own-other_use group window e.what foreign in
        rw (is, not_own, foreign) none
    | inr alone ↦
        let rest : covered_after sets group opening window (earlier ++ e ∷ []) es ≡ filter own (take (position_or_len other es) es) = covered_after-filter (earlier ++ e ∷ []) es (is_covered-push earlier e false alone is) in
        let one : 1 + position_or_len other es ≡ suc (position_or_len other es) = omega arith in
        rw (is, alone) (at (own e) (covered_after sets group opening window (earlier ++ e ∷ []) es) (filter own (take (position_or_len other es) es)) rest ∙ ap (λ n. filter own (take n (e ∷ es))) (sym one))
  ]
    where
      at : (b : Bool) (xs ys : List SliceEntry) → xs ≡ ys → cond (b && true) (e ∷ xs) xs ≡ cond b (e ∷ ys) ys
      at true xs ys same = ap (λ l. e ∷ l) same
      at false xs ys same = same

-- the covered accesses of a window
pub covered-filter : (sets group : ℕ) (opening : What) (window : List SliceEntry) (loaded : Bool) → loaded ≡ list_any (λ (e : SliceEntry). is_loaded_use sets group opening e.what) window
    → covered sets group opening window ≡ filter (λ (e : SliceEntry). is_own group e.what) (take (cond loaded 0 (unwrap_or (position (λ (e : SliceEntry). is_other_use group window e.what) window) (length window))) window)
covered-filter sets group opening window true is =
    let none : is_covered sets group opening window [] ≡ false = rw (sym is) refl in
    covered_after-none sets group opening window [] window none
covered-filter sets group opening window false is =
    let some : is_covered sets group opening window [] ≡ true = rw (sym is) refl in
    covered_after-filter sets group opening window [] window some
    ∙ ap (λ n. filter (λ (e : SliceEntry). is_own group e.what) (take n window)) (sym (unwrap_or-position (λ (e : SliceEntry). is_other_use group window e.what) window))

-- an access of the group that hit is one of its accesses
pub is_own-hit : (group : ℕ) (what : What) → is_own_hit group what ≡ true → is_own group what ≡ true
is_own-hit group (Access hit way owner rmid mask line) is = (and_parts (owner.0 == group) hit is).0
is_own-hit group Raise is = is
is_own-hit group Flush is = is
is_own-hit group (Lock mask first_line) is = is
is_own-hit group (Look rmid lines) is = is
is_own-hit group (Drop line at) is = is

-- so all hits are among its accesses
pub hits_of_group-filter : (group : ℕ) (es : List SliceEntry) → hits_of_group group (filter (λ (e : SliceEntry). is_own group e.what) es) ≡ hits_of_group group es
hits_of_group-filter group es = sym (length-filter hit (filter own es)) ∙ (ap length (filter-filter es) ∙ length-filter hit es)
  where
    own : SliceEntry → Bool
    own e = is_own group e.what

    hit : SliceEntry → Bool
    hit e = is_own_hit group e.what

    filter-filter : (es : List SliceEntry) → filter hit (filter own es) ≡ filter hit es
    filter-filter [] = refl
    filter-filter (e ∷ es) = elim (cases_Bool (own e)) [
      | inl mine ↦ rw mine (ap (λ l. cond (hit e) (e ∷ l) l) (filter-filter es))
      | inr other ↦ elim (cases_Bool (hit e)) [
        | inl is ↦ absurd (true≢false (sym (is_own-hit group e.what is) ∙ other))
        | inr miss ↦ rw (other, miss) (filter-filter es)
      ]
    ]
