-- Names one after the other in one text: where each stands, and what one more does.
use Rattle.std.proofs.Common.{◌≡◌, ℕ, zero, suc, ◌+◌, ◌-◌, ◌<◌, ◌≤◌, List, [], ◌∷◌, ◌++◌, length, get_or, take, drop, Some, refl, sym, ap, ◌∙◌, arith, length-drop}
use Rattle.std.specs.List.{slice_get, slice_range}
use Rattle.std.proofs.lemmas.List.{take-append-le, drop-append-le, drop_at, take_all}
use Rattle.path_names.specs.NameTexts.{names_from, start_of, EndsRise}

-- the first name begins in the text
pub start_le-EndsRise : (start : ℕ) (ends : List ℕ) (len : ℕ) → EndsRise start ends len → start ≤ len
start_le-EndsRise start [] len h = omega (arith, h)
start_le-EndsRise start (end ∷ ends) len h = omega (arith, h.0, start_le-EndsRise end ends len h.1)

-- one more end
pub EndsRise-push : (start : ℕ) (ends : List ℕ) (len more : ℕ) → EndsRise start ends len → EndsRise start (ends ++ (len + more) ∷ []) (len + more)
EndsRise-push start [] len more h = (omega (arith, h), refl)
EndsRise-push start (end ∷ ends) len more h = (h.0, EndsRise-push end ends len more h.1)

-- as many names as ends
pub length-names_from : (start : ℕ) (text ends : List ℕ) → length (names_from start text ends) ≡ length ends
length-names_from start text [] = refl
length-names_from start text (end ∷ ends) = ap suc (length-names_from end text ends)

-- a part of a text that grows at its end
slice_range-append : (text more : List ℕ) (i j : ℕ) → i ≤ j → j ≤ length text → slice_range (text ++ more) i j ≡ slice_range text i j
slice_range-append text more i j le h =
    let inside : i ≤ length text = omega arith in
    ap (λ (xs : List ℕ). take (j - i) xs) (drop-append-le i text more inside) ∙ take-append-le (j - i) (drop i text) more (omega (arith, length-drop i text))

-- the last part of a text
slice_range-end : (text name : List ℕ) (start : ℕ) → start ≡ length text → slice_range (text ++ name) start (length text + length name) ≡ name
slice_range-end text name start e =
    ap (λ (xs : List ℕ). take (length text + length name - start) xs) (drop_at text name start (sym e)) ∙ take_all (length text + length name - start) name (omega (arith, e))

-- one name more
pub names_from-push : (start : ℕ) (text name ends : List ℕ) → EndsRise start ends (length text) → names_from start (text ++ name) (ends ++ (length text + length name) ∷ []) ≡ names_from start text ends ++ name ∷ []
names_from-push start text name [] h = ap (λ (xs : List ℕ). xs ∷ []) (slice_range-end text name start h)
names_from-push start text name (end ∷ ends) h =
    rw (slice_range-append text name start end h.0 (start_le-EndsRise end ends (length text) h.1), names_from-push end text name ends h.1) refl

-- the name at a place
pub slice_get-names_from : (start : ℕ) (text ends : List ℕ) (i : ℕ) → i < length ends → slice_get (names_from start text ends) i ≡ Some (slice_range text (start_of start ends i) (get_or ends i 0))
slice_get-names_from start text [] i h = absurd (omega arith)
slice_get-names_from start text (end ∷ ends) zero h = refl
slice_get-names_from start text (end ∷ ends) (suc zero) h = slice_get-names_from end text ends zero (omega arith)
slice_get-names_from start text (end ∷ ends) (suc (suc i)) h = slice_get-names_from end text ends (suc i) (omega arith)

-- a name begins no later than it ends, and ends in the text
pub start_of-within : (start : ℕ) (ends : List ℕ) (len i : ℕ) → EndsRise start ends len → i < length ends → (start_of start ends i ≤ get_or ends i 0) × (get_or ends i 0 ≤ len)
start_of-within start [] len i h within = absurd (omega arith)
start_of-within start (end ∷ ends) len zero h within = (h.0, start_le-EndsRise end ends len h.1)
start_of-within start (end ∷ ends) len (suc zero) h within = start_of-within end ends len zero h.1 (omega arith)
start_of-within start (end ∷ ends) len (suc (suc i)) h within = start_of-within end ends len (suc i) h.1 (omega arith)

-- where a name begins that is not the first
pub start_of-later : (ends : List ℕ) (place : ℕ) → 0 < place → start_of 0 ends place ≡ get_or ends (place - 1) 0
start_of-later ends zero h = absurd (omega arith)
start_of-later ends (suc place) h = let same : place ≡ suc place - 1 = omega arith in ap (λ (i : ℕ). get_or ends i 0) same

-- where the first begins
pub start_of-first : (ends : List ℕ) (place : ℕ) → place ≡ 0 → start_of 0 ends place ≡ 0
start_of-first ends zero h = refl
start_of-first ends (suc place) h = absurd (omega (arith, h))

pub ruleset starts = (start_of-later, start_of-first)
