-- A line that moves to the front of slots.
use Rattle.std.proofs.Common.{◌≡◌, ℕ, suc, ◌+◌, ◌-◌, ◌<◌, ◌≤◌, Bool, true, false, ◌==◌, List, [], ◌∷◌, ◌++◌, append_assoc, length, map, take, drop, set, Option, Some, None, arith, refl, sym, ◌∙◌, ap, inl, inr}
use Rattle.std.specs.List.{position, position_from}
use Rattle.std.proofs.lemmas.Bool.{cases_Bool, or_parts, false≢true}
use Rattle.std.proofs.lemmas.List.{append-nil, drop_at, length-map, map-append, set-append_right, set_past, take_at}
use Rattle.std.proofs.lemmas.Iterator.Adapters.{position_from-zero}
use Rattle.private_lru.specs.Private.{among}
use Rattle.way_curve.specs.Shifts.{without_first}
use Rattle.way_curve.specs.Slots.{dropped, has_line, pushed}

-- slots with these lines
abbrev pub full : List ℕ → List (Option ℕ)
full lines = map (λ (x : ℕ). Some x) lines

-- ---- the line is in one of the slots before the first hole

-- these slots after the move
pub pushed-found : (c x : ℕ) (lines : List ℕ) (rest : List (Option ℕ)) → among x lines ≡ true → pushed c (dropped x (full lines ++ rest)) ≡ full (c ∷ without_first x lines) ++ rest
pushed-found c x [] rest there = absurd (false≢true there)
pushed-found c x (y ∷ lines) rest there = elim (cases_Bool (y == x)) [
  | inl k ↦ rw k refl
  | inr k ↦ let later : among x lines ≡ true = rw k at there in rw k (ap (λ (l : List (Option ℕ)). Some c ∷ l) (pushed-found y x lines rest later))
]

-- which slot it is
pub position_from-found : (x i slot : ℕ) (lines : List ℕ) (rest : List (Option ℕ)) → position_from (λ (y : ℕ). y == x) i lines ≡ Some slot → position_from (has_line x) i (full lines ++ rest) ≡ Some slot
position_from-found x i slot [] rest is = absurd cc
position_from-found x i slot (y ∷ lines) rest is = elim (cases_Bool (y == x)) [
  | inl k ↦ let here : Some i ≡ Some slot = rw k at is in rw k here
  | inr k ↦ let later : position_from (λ (y : ℕ). y == x) (i + 1) lines ≡ Some slot = rw k at is in rw k (position_from-found x (i + 1) slot lines rest later)
]

-- ---- it is in none of them

-- so it is behind them, if it is there
pub dropped-behind : (x : ℕ) (lines : List ℕ) (rest : List (Option ℕ)) → among x lines ≡ false → dropped x (full lines ++ rest) ≡ full lines ++ dropped x rest
dropped-behind x [] rest gone = refl
dropped-behind x (y ∷ lines) rest gone =
    let parts = or_parts (y == x) (among x lines) gone in
    let here : (y == x) ≡ false = parts.0 in
    rw here (ap (λ (l : List (Option ℕ)). Some y ∷ l) (dropped-behind x lines rest parts.1))

pub position_from-behind : (x i : ℕ) (lines : List ℕ) (rest : List (Option ℕ)) → among x lines ≡ false → position_from (has_line x) i (full lines ++ rest) ≡ position_from (has_line x) (i + length lines) rest
position_from-behind x i [] rest gone = ap (λ (n : ℕ). position_from (has_line x) n rest) (omega arith)
position_from-behind x i (y ∷ lines) rest gone =
    let parts = or_parts (y == x) (among x lines) gone in
    let here : (y == x) ≡ false = parts.0 in
    let next : i + 1 + length lines ≡ i + suc (length lines) = omega arith in
    rw here (position_from-behind x (i + 1) lines rest parts.1 ∙ ap (λ (n : ℕ). position_from (has_line x) n rest) next)

-- the same of all the slots
pub position-found : (x slot : ℕ) (lines : List ℕ) (rest : List (Option ℕ)) → position (λ (y : ℕ). y == x) lines ≡ Some slot → position (has_line x) (full lines ++ rest) ≡ Some slot
position-found x slot lines rest is =
    position_from-zero (has_line x) (full lines ++ rest) ∙ position_from-found x 0 slot lines rest (sym (position_from-zero (λ (y : ℕ). y == x) lines) ∙ is)

pub position-behind : (x front : ℕ) (lines : List ℕ) (rest : List (Option ℕ)) → length lines ≡ front → among x lines ≡ false → position (has_line x) (full lines ++ rest) ≡ position_from (has_line x) front rest
position-behind x front lines rest len gone =
    let at : 0 + length lines ≡ front = omega (arith, len) in
    position_from-zero (has_line x) (full lines ++ rest) ∙ (position_from-behind x 0 lines rest gone ∙ ap (λ (n : ℕ). position_from (has_line x) n rest) at)

-- lines move into a hole
pushed-hole : (c : ℕ) (lines : List ℕ) (rest : List (Option ℕ)) → pushed c (full lines ++ None ∷ rest) ≡ full (c ∷ lines) ++ rest
pushed-hole c [] rest = refl
pushed-hole c (y ∷ lines) rest = ap (λ (l : List (Option ℕ)). Some c ∷ l) (pushed-hole y lines rest)

-- where there is none, the last is lost
pushed-full : (c : ℕ) (lines : List ℕ) → pushed c (full lines) ≡ full (take (length lines) (c ∷ lines))
pushed-full c [] = refl
pushed-full c (y ∷ lines) = ap (λ (l : List (Option ℕ)). Some c ∷ l) (pushed-full y lines)

module _ (x last front : ℕ) (old new : List ℕ) (len : length old ≡ front) (len' : length new ≡ front) (moved : new ++ last ∷ [] ≡ x ∷ old) (gone : among x old ≡ false) where
  -- the first hole is filled
  pub filled-hole : (rest : List (Option ℕ))
      → set (take front (full new ++ None ∷ rest) ++ dropped x (drop front (full new ++ None ∷ rest))) front (Some last) ≡ pushed x (dropped x (full old ++ None ∷ rest))
  filled-hole rest =
      let size : length (full new) ≡ front = length-map new (λ (y : ℕ). Some y) ∙ len' in
      let cut : take front (full new ++ None ∷ rest) ++ dropped x (drop front (full new ++ None ∷ rest)) ≡ full new ++ None ∷ dropped x rest =
      ap (λ (l : List (Option ℕ)). l ++ dropped x (drop front (full new ++ None ∷ rest))) (take_at (full new) (None ∷ rest) front size)
      ∙ ap (λ (l : List (Option ℕ)). full new ++ dropped x l) (drop_at (full new) (None ∷ rest) front size) in
      let none : front - front ≡ 0 = omega arith in
      let put : set (full new ++ None ∷ dropped x rest) front (Some last) ≡ full new ++ Some last ∷ dropped x rest =
      set-append_right (full new) (None ∷ dropped x rest) front front (Some last) size (omega arith)
      ∙ ap (λ (i : ℕ). full new ++ set (None ∷ dropped x rest) i (Some last)) none in
      let whole : full new ++ Some last ∷ dropped x rest ≡ full (x ∷ old) ++ dropped x rest =
      sym (append_assoc (full new) (Some last ∷ []) (dropped x rest))
      ∙ (ap (λ (l : List (Option ℕ)). l ++ dropped x rest) (sym (map-append (λ (y : ℕ). Some y) new (last ∷ [])))
      ∙ ap (λ (l : List ℕ). full l ++ dropped x rest) moved) in
      ap (λ (l : List (Option ℕ)). set l front (Some last)) cut
      ∙ (put ∙ (whole ∙ sym (ap (pushed x) (dropped-behind x old (None ∷ rest) gone) ∙ pushed-hole x old (dropped x rest))))

  -- there is no hole
  pub filled-none : set (take front (full new ++ []) ++ dropped x (drop front (full new ++ []))) front (Some last) ≡ pushed x (dropped x (full old ++ []))
  filled-none =
      let size : length (full new) ≡ front = length-map new (λ (y : ℕ). Some y) ∙ len' in
      let cut : take front (full new ++ []) ++ dropped x (drop front (full new ++ [])) ≡ full new =
      ap (λ (l : List (Option ℕ)). l ++ dropped x (drop front (full new ++ []))) (take_at (full new) [] front size)
      ∙ (ap (λ (l : List (Option ℕ)). full new ++ dropped x l) (drop_at (full new) [] front size) ∙ append-nil (full new)) in
      let first : take (length old) (x ∷ old) ≡ new = ap (λ (l : List ℕ). take (length old) l) (sym moved) ∙ take_at new (last ∷ []) (length old) (len' ∙ sym len) in
      ap (λ (l : List (Option ℕ)). set l front (Some last)) cut
      ∙ (set_past (full new) front (Some last) (omega (arith, size))
      ∙ sym (ap (pushed x) (dropped-behind x old [] gone ∙ append-nil (full old)) ∙ (pushed-full x old ∙ ap full first)))

-- ---- a drop from a slot on

-- what it finds is a slot from there on, and the hole is there
pub dropped-found : (x from slot : ℕ) (slots : List (Option ℕ)) → position_from (has_line x) from slots ≡ Some slot → (from ≤ slot) × (slot < from + length slots) × (dropped x slots ≡ set slots (slot - from) None)
dropped-found x from slot [] is = absurd cc
dropped-found x from slot (s ∷ slots) is = elim (cases_Bool (has_line x s)) [
  | inl k ↦
      let here : Some from ≡ Some slot = rw k at is in
      let same : from ≡ slot = ap (λ (o : Option ℕ). from_some from o) here in
      let none : slot - from ≡ 0 = omega (arith, same) in
      (omega (arith, same), omega (arith, same), rw (k, none) refl)
  | inr k ↦
      let later : position_from (has_line x) (from + 1) slots ≡ Some slot = rw k at is in
      let ih = dropped-found x (from + 1) slot slots later in
      let next : slot - from ≡ suc (slot - (from + 1)) = omega (arith, ih.0) in
      (omega (arith, ih.0), omega (arith, ih.1), rw (k, next) (ap (λ (l : List (Option ℕ)). s ∷ l) ih.2))
]
  where
    from_some : ℕ → Option ℕ → ℕ
    from_some d None = d
    from_some d (Some y) = y

-- what finds nothing changes nothing
pub dropped-none : (x from : ℕ) (slots : List (Option ℕ)) → position_from (has_line x) from slots ≡ None → dropped x slots ≡ slots
dropped-none x from [] is = refl
dropped-none x from (s ∷ slots) is = elim (cases_Bool (has_line x s)) [
  | inl k ↦ let here : Some from ≡ None = rw k at is in absurd cc
  | inr k ↦ let later : position_from (has_line x) (from + 1) slots ≡ None = rw k at is in rw k (ap (λ (l : List (Option ℕ)). s ∷ l) (dropped-none x (from + 1) slots later))
]
