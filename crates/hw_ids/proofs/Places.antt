-- The places of a list whose elements pass a test: which they are, and what a write to one element does to them.
use Rattle.std.proofs.Common.{◌≡◌, ℕ, zero, suc, ◌+◌, ◌<◌, ◌≤◌, Bool, true, false, cond, eqb, ltb, List, [], ◌∷◌, ◌++◌, length, take, get_or, set, refl, sym, ap, ◌∙◌, arith, filter, position, None, replicate, count_by, drop, drop-cons}
use Rattle.std.proofs.lemmas.Bool.{le-ltb, ltb-false, eq-eqb, ne_eqb}
use Rattle.std.proofs.lemmas.Bool.Decides.{nat_tests}
use Rattle.std.proofs.Math.Seq.{take-set-lt}
use Rattle.std.proofs.lemmas.Grind.{common_steps}
use Rattle.std.specs.List.{position_or_len}
use Rattle.std.proofs.lemmas.Option.{none-some}
use Rattle.std.proofs.lemmas.List.Sums.{fails_before_first, length-filter}
use Rattle.hw_ids.specs.Ids.{contains, with_id, without, places}

module _ {X : Type 0} where
  -- none is below the first number
  filter-lower : (p : X → Bool) (xs : List X) (m k : ℕ) → k ≤ m → filter (λ o. ltb o k) (places p m xs) ≡ []
  filter-lower p [] m k h = refl
  filter-lower p (x ∷ xs) m k h =
      let rest : filter (λ o. ltb o k) (places p (m + 1) xs) ≡ [] = filter-lower p xs (m + 1) k (omega arith) in
      elim (p x) as (λ b. filter (λ o. ltb o k) (cond b (m ∷ places p (m + 1) xs) (places p (m + 1) xs)) ≡ [])
      [ true ↦ rw (le-ltb m k h) rest | false ↦ rest ]

  -- all are above what is below the first number
  filter-higher : (p : X → Bool) (xs : List X) (m k : ℕ) → k < m → filter (λ o. ltb k o) (places p m xs) ≡ places p m xs
  filter-higher p [] m k h = refl
  filter-higher p (x ∷ xs) m k h =
      let rest : filter (λ o. ltb k o) (places p (m + 1) xs) ≡ places p (m + 1) xs = filter-higher p xs (m + 1) k (omega arith) in
      let above : ltb k m ≡ true = grind (arith, nat_tests) in
      elim (p x) as (λ b. filter (λ o. ltb k o) (cond b (m ∷ places p (m + 1) xs) (places p (m + 1) xs)) ≡ cond b (m ∷ places p (m + 1) xs) (places p (m + 1) xs))
      [ true ↦ rw above (ap (λ l. m ∷ l) rest) | false ↦ rest ]

  -- nothing below the first number is to be left out
  without-lower : (p : X → Bool) (xs : List X) (m k : ℕ) → k < m → without k (places p m xs) ≡ places p m xs
  without-lower p [] m k h = refl
  without-lower p (x ∷ xs) m k h =
      let rest : without k (places p (m + 1) xs) ≡ places p (m + 1) xs = without-lower p xs (m + 1) k (omega arith) in
      let other : eqb m k ≡ false = ne_eqb m k (λ (e : m ≡ k). omega arith) in
      elim (p x) as (λ b. without k (cond b (m ∷ places p (m + 1) xs) (places p (m + 1) xs)) ≡ cond b (m ∷ places p (m + 1) xs) (places p (m + 1) xs))
      [ true ↦ rw other (ap (λ l. m ∷ l) rest) | false ↦ rest ]

  -- a lower number is no place
  contains-lower : (p : X → Bool) (xs : List X) (m k : ℕ) → k < m → contains k (places p m xs) ≡ false
  contains-lower p [] m k h = refl
  contains-lower p (x ∷ xs) m k h =
      let rest : contains k (places p (m + 1) xs) ≡ false = contains-lower p xs (m + 1) k (omega arith) in
      let other : eqb m k ≡ false = ne_eqb m k (λ (e : m ≡ k). omega arith) in
      elim (p x) as (λ b. contains k (cond b (m ∷ places p (m + 1) xs) (places p (m + 1) xs)) ≡ false)
      [ true ↦ rw other rest | false ↦ rest ]

  -- an element's place is among them where it passes
  contains-places_from : (p : X → Bool) (xs : List X) (m i k : ℕ) (d : X) → k ≡ m + i → i < length xs → contains k (places p m xs) ≡ p (get_or xs i d)
  contains-places_from p [] m i k d e h = absurd (omega arith)
  contains-places_from p (x ∷ xs) m zero k d e h =
      let lower : contains k (places p (m + 1) xs) ≡ false = contains-lower p xs (m + 1) k (omega arith) in
      let same : eqb m k ≡ true = eq-eqb m k (omega arith) in
      elim (p x) as (λ b. contains k (cond b (m ∷ places p (m + 1) xs) (places p (m + 1) xs)) ≡ b)
      [ true ↦ rw same refl | false ↦ lower ]
  contains-places_from p (x ∷ xs) m (suc i) k d e h =
      let rest : contains k (places p (m + 1) xs) ≡ p (get_or xs i d) = contains-places_from p xs (m + 1) i k d (omega arith) (omega arith) in
      let other : eqb m k ≡ false = ne_eqb m k (λ (s : m ≡ k). omega arith) in
      elim (p x) as (λ b. contains k (cond b (m ∷ places p (m + 1) xs) (places p (m + 1) xs)) ≡ p (get_or xs i d))
      [ true ↦ rw other rest | false ↦ rest ]

  -- a place that passes the test
  pub contains-places : (p : X → Bool) (xs : List X) (i : ℕ) (d : X) → i < length xs → contains i (places p 0 xs) ≡ p (get_or xs i d)
  contains-places p xs i d h = contains-places_from p xs 0 i i d (omega arith) h

  -- a higher number is no place
  contains-higher : (p : X → Bool) (xs : List X) (m k : ℕ) → m + length xs ≤ k → contains k (places p m xs) ≡ false
  contains-higher p [] m k h = refl
  contains-higher p (x ∷ xs) m k h =
      let rest : contains k (places p (m + 1) xs) ≡ false = contains-higher p xs (m + 1) k (omega arith) in
      let other : eqb m k ≡ false = ne_eqb m k (λ (e : m ≡ k). omega arith) in
      elim (p x) as (λ b. contains k (cond b (m ∷ places p (m + 1) xs) (places p (m + 1) xs)) ≡ false)
      [ true ↦ rw other rest | false ↦ rest ]

  -- a place stands in the list
  pub contains-within : (p : X → Bool) (xs : List X) (i : ℕ) → contains i (places p 0 xs) ≡ true → i < length xs
  contains-within p xs i h = elim (ltb i (length xs)) as (λ b. ltb i (length xs) ≡ b → i < length xs) [
    | true ↦ (λ e. grind (arith, nat_tests))
    | false ↦ (λ e. let past : length xs ≤ i = grind (arith, nat_tests) in
        let gone : contains i (places p 0 xs) ≡ false = contains-higher p xs 0 i (omega arith) in absurd (cc))
  ] refl

  -- a write of an element that passes, where none did
  places-set_yes_from : (p : X → Bool) (xs : List X) (m i k : ℕ) (v : X) → k ≡ m + i → i < length xs → p (get_or xs i v) ≡ false → p v ≡ true → places p m (set xs i v) ≡ with_id k (places p m xs)
  places-set_yes_from p [] m i k v e h was is = absurd (omega arith)
  places-set_yes_from p (x ∷ xs) m zero k v e h was is =
      let same : k ≡ m = omega arith in
      rw (is, was, same, filter-lower p xs (m + 1) m (omega arith), filter-higher p xs (m + 1) m (omega arith)) refl
  places-set_yes_from p (x ∷ xs) m (suc i) k v e h was is =
      let rest : places p (m + 1) (set xs i v) ≡ with_id k (places p (m + 1) xs) = places-set_yes_from p xs (m + 1) i k v (omega arith) (omega arith) was is in
      let below : ltb m k ≡ true = grind (arith, nat_tests) in
      let not_above : ltb k m ≡ false = grind (arith, nat_tests) in
      elim (p x) as (λ b. cond b (m ∷ places p (m + 1) (set xs i v)) (places p (m + 1) (set xs i v)) ≡ with_id k (cond b (m ∷ places p (m + 1) xs) (places p (m + 1) xs)))
      [ true ↦ rw (below, not_above) (ap (λ l. m ∷ l) rest) | false ↦ rest ]

  -- a write of an element that does not pass
  places-set_no_from : (p : X → Bool) (xs : List X) (m i k : ℕ) (v : X) → k ≡ m + i → p v ≡ false → places p m (set xs i v) ≡ without k (places p m xs)
  places-set_no_from p [] m i k v e is = refl
  places-set_no_from p (x ∷ xs) m zero k v e is =
      let lower : without k (places p (m + 1) xs) ≡ places p (m + 1) xs = without-lower p xs (m + 1) k (omega arith) in
      let same : eqb m k ≡ true = eq-eqb m k (omega arith) in
      rw is (elim (p x) as (λ b. places p (m + 1) xs ≡ without k (cond b (m ∷ places p (m + 1) xs) (places p (m + 1) xs)))
      [ true ↦ rw same (sym lower) | false ↦ sym lower ])
  places-set_no_from p (x ∷ xs) m (suc i) k v e is =
      let rest : places p (m + 1) (set xs i v) ≡ without k (places p (m + 1) xs) = places-set_no_from p xs (m + 1) i k v (omega arith) is in
      let other : eqb m k ≡ false = ne_eqb m k (λ (s : m ≡ k). omega arith) in
      elim (p x) as (λ b. cond b (m ∷ places p (m + 1) (set xs i v)) (places p (m + 1) (set xs i v)) ≡ without k (cond b (m ∷ places p (m + 1) xs) (places p (m + 1) xs)))
      [ true ↦ rw other (ap (λ l. m ∷ l) rest) | false ↦ rest ]

  -- a write that changes nothing of the test
  pub places-set_same_from : (p : X → Bool) (xs : List X) (m i : ℕ) (v : X) → p (get_or xs i v) ≡ p v → places p m (set xs i v) ≡ places p m xs
  places-set_same_from p [] m i v e = refl
  places-set_same_from p (x ∷ xs) m zero v e = rw e refl
  places-set_same_from p (x ∷ xs) m (suc i) v e = rw (places-set_same_from p xs (m + 1) i v e) refl

  -- the same of the first n elements
  get_or-take_front : (xs : List X) (n i : ℕ) (d : X) → i < n → get_or (take n xs) i d ≡ get_or xs i d
  get_or-take_front xs n i d h = grind (arith, common_steps)

  -- a place more passes the test
  pub places-set_yes : (p : X → Bool) (xs : List X) (n i : ℕ) (v : X) → i < n → i < length xs → p (get_or xs i v) ≡ false → p v ≡ true → places p 0 (take n (set xs i v)) ≡ with_id i (places p 0 (take n xs))
  places-set_yes p xs n i v h fits was is =
      let within : i < length (take n xs) = grind (arith, common_steps) in
      rw (take-set-lt n xs i v h) (places-set_yes_from p (take n xs) 0 i i v (omega arith) within (rw (get_or-take_front xs n i v h) was) is)

  -- a place passes the test no more
  pub places-set_no : (p : X → Bool) (xs : List X) (n i : ℕ) (v : X) → i < n → p v ≡ false → places p 0 (take n (set xs i v)) ≡ without i (places p 0 (take n xs))
  places-set_no p xs n i v h is = rw (take-set-lt n xs i v h) (places-set_no_from p (take n xs) 0 i i v (omega arith) is)

  -- a place passes the test as before
  pub places-set_same : (p : X → Bool) (xs : List X) (n i : ℕ) (v : X) → i < n → p (get_or xs i v) ≡ p v → places p 0 (take n (set xs i v)) ≡ places p 0 (take n xs)
  places-set_same p xs n i v h e = rw (take-set-lt n xs i v h) (places-set_same_from p (take n xs) 0 i v (rw (get_or-take_front xs n i v h) e))

  -- where no first place passes, none does
  pub position-none : (p : X → Bool) (xs : List X) → position p xs ≡ None → (k : ℕ) (d : X) → k < length xs → p (get_or xs k d) ≡ false
  position-none p xs gone k d h = elim (ltb (position_or_len p xs) (length xs)) as (λ b. ltb (position_or_len p xs) (length xs) ≡ b → p (get_or xs k d) ≡ false)
      [ true ↦ (λ e. absurd (none-some (position_or_len p xs) (sym (rw e at gone)))) | false ↦ (λ e. let past : length xs ≤ position_or_len p xs = ltb-false _ _ e in fails_before_first p xs k d (omega arith)) ] refl

  -- a table whose first element alone passes
  places-none : (p : X → Bool) (n m k : ℕ) (w : X) → p w ≡ false → places p m (take n (replicate k w)) ≡ []
  places-none p zero m k w fails = refl
  places-none p (suc n) m zero w fails = refl
  places-none p (suc n) m (suc k) w fails = rw fails (places-none p n (m + 1) k w fails)

  -- the first place alone passes the test
  pub places-first : (p : X → Bool) (n k : ℕ) (v w : X) → 0 < n → p v ≡ true → p w ≡ false → places p 0 (take n (v ∷ replicate k w)) ≡ 0 ∷ []
  places-first p zero k v w some is fails = absurd (omega arith)
  places-first p (suc n) k v w some is fails = rw is (ap (λ l. 0 ∷ l) (places-none p n 1 k w fails))

  -- no place passes the test
  pub places-nowhere : (p : X → Bool) (n k : ℕ) (v w : X) → p v ≡ false → p w ≡ false → places p 0 (take n (v ∷ replicate k w)) ≡ []
  places-nowhere p zero k v w is fails = refl
  places-nowhere p (suc n) k v w is fails = rw is (places-none p n 1 k w fails)

  -- there are as many places as elements that pass
  length-places_filter : (p : X → Bool) (xs : List X) (m : ℕ) → length (places p m xs) ≡ length (filter p xs)
  length-places_filter p [] m = refl
  length-places_filter p (x ∷ xs) m =
      let rest : length (places p (m + 1) xs) ≡ length (filter p xs) = length-places_filter p xs (m + 1) in
      elim (p x) as (λ b. length (cond b (m ∷ places p (m + 1) xs) (places p (m + 1) xs)) ≡ length (cond b (x ∷ filter p xs) (filter p xs)))
      [ true ↦ ap suc rest | false ↦ rest ]

  -- as many places as pass the test
  pub length-places : (p : X → Bool) (xs : List X) (m : ℕ) → length (places p m xs) ≡ count_by p xs
  length-places p xs m = length-places_filter p xs m ∙ length-filter p xs

  -- one element more
  pub places-push : (p : X → Bool) (xs : List X) (m n : ℕ) (x : X) → n ≡ m + length xs → places p m (xs ++ x ∷ []) ≡ places p m xs ++ cond (p x) (n ∷ []) []
  places-push p [] m n x e = let same : n ≡ m = omega arith in rw same refl
  places-push p (y ∷ ys) m n x e =
      let rest : places p (m + 1) (ys ++ x ∷ []) ≡ places p (m + 1) ys ++ cond (p x) (n ∷ []) [] = places-push p ys (m + 1) n x (omega arith) in
      elim (p y) as (λ b. cond b (m ∷ places p (m + 1) (ys ++ x ∷ [])) (places p (m + 1) (ys ++ x ∷ [])) ≡ cond b (m ∷ places p (m + 1) ys) (places p (m + 1) ys) ++ cond (p x) (n ∷ []) [])
      [ true ↦ ap (λ l. m ∷ l) rest | false ↦ rest ]

  -- the element at a loop's index
  pub places-drop_yes : (p : X → Bool) (xs : List X) (n : ℕ) (d : X) → n < length xs → p (get_or xs n d) ≡ true → places p n (drop n xs) ≡ n ∷ places p (n + 1) (drop (n + 1) xs)
  places-drop_yes p xs n d h is = let e : n + 1 ≡ suc n = omega arith in rw (drop-cons xs n d, is, e) refl

  -- a place that does not pass the test is passed over
  pub places-drop_no : (p : X → Bool) (xs : List X) (n : ℕ) (d : X) → n < length xs → p (get_or xs n d) ≡ false → places p n (drop n xs) ≡ places p (n + 1) (drop (n + 1) xs)
  places-drop_no p xs n d h is = let e : n + 1 ≡ suc n = omega arith in rw (drop-cons xs n d, is, e) refl
