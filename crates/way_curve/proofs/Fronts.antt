-- The first lines of a list into whose front a line moves.
use Rattle.std.proofs.Common.{◌≡◌, ℕ, zero, suc, ◌≤◌, true, false, ◌==◌, List, [], ◌∷◌, ◌++◌, length, take, Some, None, arith, refl, sym, ◌∙◌, ap, inl, inr}
use Rattle.std.proofs.lemmas.Bool.{cases_Bool, eqb-true, or_parts, false≢true}
use Rattle.std.proofs.lemmas.List.{take-take, take_all, take_at}
use Rattle.std.specs.List.{position}
use Rattle.lists.proofs.Cuts.{position-none, position-some}
use Rattle.private_lru.specs.Private.{among, without}
use Rattle.way_curve.specs.Shifts.{without_first}
use Rattle.way_curve.proofs.Alive.{AllDiffer, without-absent}

-- of different lines the first place of one is its only one
pub without_first-differ : (x : ℕ) (l : List ℕ) → AllDiffer l → without_first x l ≡ without x l
without_first-differ x [] d = refl
without_first-differ x (y ∷ ys) d = elim (cases_Bool (y == x)) [
  | inl k ↦
      let gone : among x ys ≡ false = ap (λ (z : ℕ). among z ys) (sym (eqb-true y x k)) ∙ d.0 in
      rw k (sym (without-absent x ys gone))
  | inr k ↦ rw k (ap (λ (l : List ℕ). y ∷ l) (without_first-differ x ys d.1))
]

-- the front needs one line more than it has, since one may be taken out
pub take-without_first : (n x : ℕ) (l : List ℕ) → take n (without_first x (take (suc n) l)) ≡ take n (without_first x l)
take-without_first zero x l = refl
take-without_first (suc n) x [] = refl
take-without_first (suc n) x (y ∷ ys) = elim (cases_Bool (y == x)) [
  | inl k ↦ rw k (take-take (suc n) (suc n) ys (omega arith))
  | inr k ↦ rw k (ap (λ (l : List ℕ). y ∷ l) (take-without_first n x ys))
]

-- a line that is not there is not taken out
pub without_first-absent : (x : ℕ) (l : List ℕ) → among x l ≡ false → without_first x l ≡ l
without_first-absent x [] h = refl
without_first-absent x (y ∷ ys) h =
    let parts = or_parts (y == x) (among x ys) h in
    let here : (y == x) ≡ false = parts.0 in
    rw here (ap (λ (l : List ℕ). y ∷ l) (without_first-absent x ys parts.1))

-- one that is there leaves one place
pub length-without_first : (x : ℕ) (l : List ℕ) → among x l ≡ true → suc (length (without_first x l)) ≡ length l
length-without_first x [] h = absurd (false≢true h)
length-without_first x (y ∷ ys) h = elim (cases_Bool (y == x)) [
  | inl k ↦ rw k refl
  | inr k ↦ (let rest : among x ys ≡ true = rw k at h in
      rw k (ap (λ (n : ℕ). suc n) (length-without_first x ys rest)))
]

-- the front of different lines after a use
pub take-moved : (n x : ℕ) (l : List ℕ) → AllDiffer l → take (suc n) (x ∷ without_first x (take (suc n) l)) ≡ take (suc n) (x ∷ without x l)
take-moved n x l d = ap (λ (l : List ℕ). x ∷ l) (take-without_first n x l ∙ ap (λ (l : List ℕ). take n l) (without_first-differ x l d))

-- a front whose line was found
pub moved-found : (old new rest : List ℕ) (x place len : ℕ) → length new ≡ len → length old ≤ 32 → position (λ (y : ℕ). y == x) old ≡ Some place → new ≡ x ∷ without_first x old
    → take len (new ++ rest) ≡ x ∷ take 31 (without_first x old)
moved-found old new rest x place len at le found moved =
    let there = position-some (λ (y : ℕ). y == x) old place found in
    let one : suc (length (without_first x old)) ≡ length old = length-without_first x old there.2 in
    let short : length (without_first x old) ≤ 31 = omega arith in
    take_at new rest len at ∙ (moved ∙ ap (λ (l : List ℕ). x ∷ l) (sym (take_all 31 (without_first x old) short)))

-- and one whose line was not
pub moved-last : (old new : List ℕ) (x last : ℕ) → position (λ (y : ℕ). y == x) old ≡ None → new ++ last ∷ [] ≡ x ∷ old
    → take 32 (new ++ last ∷ []) ≡ x ∷ take 31 (without_first x old)
moved-last old new x last none moved =
    let gone = position-none (λ (y : ℕ). y == x) old none in
    ap (λ (l : List ℕ). take 32 l) moved ∙ ap (λ (l : List ℕ). x ∷ take 31 l) (sym (without_first-absent x old gone.0))
