-- The steps of a shift: the lines that were passed stand one place further back.
use Rattle.std.proofs.Common.{◌≡◌, ℕ, zero, suc, ◌+◌, ◌<◌, ◌≤◌, true, false, ◌==◌, nat_lt, List, [], ◌∷◌, ◌++◌, length, take, drop, get_or, set, below_more, arith, refl, sym, ◌∙◌, ap}
use Rattle.std.specs.List.{position_or_len}
use Rattle.std.proofs.lemmas.Bool.{lt-ltb, le-ltb}
use Rattle.std.proofs.lemmas.List.{append_assoc, append_cancel_right, take_all, drop_all, drop_more, drop-drop, drop-set-lt, take-append-drop, take_more_set, set_split, get_or-drop}
use Rattle.std.proofs.lemmas.List.Sums.{position_or_len_is}
use Rattle.way_curve.specs.Shifts.{IsShift, without_first}
use Rattle.way_curve.specs.declared.shifting.Shift.TheVariants.{Found, Last}

-- so many places of the list were passed, none with the line, and a line is carried
pub record IsPassed (old now : List ℕ) (line place carried : ℕ) : Type 0 where
  pub passed : take place now ++ carried ∷ drop place old ≡ line ∷ old
  pub rest : drop place now ≡ drop place old
  pub none : (k : ℕ) → k < place → (get_or old k 0 == line) ≡ false

-- a list without the first place that has a line is what stands before and after that place
without_first-at : (x : ℕ) (l : List ℕ) (i : ℕ) → i < length l → ((k : ℕ) → k < i → (get_or l k 0 == x) ≡ false) → (get_or l i 0 == x) ≡ true
    → without_first x l ≡ take i l ++ drop (suc i) l
without_first-at x [] i lt none some = absurd (omega arith)
without_first-at x (y ∷ ys) zero lt none some = rw some refl
without_first-at x (y ∷ ys) (suc i) lt none some =
    let here : (y == x) ≡ false = none 0 (omega arith) in
    let below : i < length ys = omega arith in
    rw here (ap (λ (l : List ℕ). y ∷ l) (without_first-at x ys i below (λ k h. none (suc k) (omega arith)) some))

-- the line that is passed next is that of the old list
pub passed-next : (old now : List ℕ) (place : ℕ) → drop place now ≡ drop place old → get_or now place 0 ≡ get_or old place 0
passed-next old now place rest =
    let at : place + 0 ≡ place = omega arith in
    ap (λ (i : ℕ). get_or now i 0) (sym at) ∙ (sym (get_or-drop place now 0 0) ∙ (ap (λ (l : List ℕ). get_or l 0 0) rest ∙ (get_or-drop place old 0 0 ∙ ap (λ (i : ℕ). get_or old i 0) at)))

-- a place whose line is another
pub IsPassed-more : (old now : List ℕ) (line place carried : ℕ) → length now ≡ length old → place < length old
    → IsPassed old now line place carried → (get_or now place 0 == line) ≡ false
    → IsPassed old (set now place carried) line (place + 1) (get_or now place 0)
IsPassed-more old now line place carried len lt is other =
    let lt' : place < length now = omega arith in
    let same : get_or now place 0 ≡ get_or old place 0 = passed-next old now place is.rest in
    let other' : (get_or old place 0 == line) ≡ false = ap (λ (y : ℕ). y == line) (sym same) ∙ other in
    let tail : get_or now place 0 ∷ drop (place + 1) old ≡ drop place old = ap (λ (y : ℕ). y ∷ drop (place + 1) old) same ∙ sym (drop_more old place 0 lt) in
    record {
      passed = ap (λ (l : List ℕ). l ++ get_or now place 0 ∷ drop (place + 1) old) (take_more_set now place carried lt')
          ∙ (append_assoc (take place now) (carried ∷ []) (get_or now place 0 ∷ drop (place + 1) old)
          ∙ (ap (λ (l : List ℕ). take place now ++ carried ∷ l) tail ∙ is.passed));
      rest = drop-set-lt (place + 1) now place carried (omega arith)
          ∙ (sym (drop-drop 1 place now) ∙ (ap (λ (l : List ℕ). drop 1 l) is.rest ∙ drop-drop 1 place old));
      none = below_more _ _ is.none other';
    }

-- the place of the line
pub IsShift-found : (old now : List ℕ) (line place carried : ℕ) → length now ≡ length old → place < length old
    → IsPassed old now line place carried → (get_or now place 0 == line) ≡ true
    → IsShift old (set now place carried) line (Found place)
IsShift-found old now line place carried len lt is here =
    let lt' : place < length now = omega arith in
    let same : get_or now place 0 ≡ get_or old place 0 = passed-next old now place is.rest in
    let here' : (get_or old place 0 == line) ≡ true = ap (λ (y : ℕ). y == line) (sym same) ∙ here in
    let at : position_or_len (λ (y : ℕ). y == line) old ≡ place = position_or_len_is (λ (y : ℕ). y == line) old place 0 (omega arith) is.none (λ _. here') in
    let below : nat_lt place (length old) ≡ true = lt-ltb place (length old) lt in
    let front : take place now ++ carried ∷ [] ≡ line ∷ take place old =
    append_cancel_right (take place now ++ carried ∷ []) (line ∷ take place old) (drop place old)
    (append_assoc (take place now) (carried ∷ []) (drop place old) ∙ (is.passed ∙ ap (λ (l : List ℕ). line ∷ l) (sym (take-append-drop place old)))) in
    let next : suc place ≡ place + 1 = omega arith in
    let back : drop (suc place) now ≡ drop (suc place) old =
    ap (λ (i : ℕ). drop i now) next ∙ (sym (drop-drop 1 place now) ∙ (ap (λ (l : List ℕ). drop 1 l) is.rest ∙ (drop-drop 1 place old ∙ ap (λ (i : ℕ). drop i old) (sym next)))) in (
      rw (at, below) refl,
      set_split now place carried lt'
          ∙ (ap (λ (l : List ℕ). take place now ++ carried ∷ l) back
          ∙ (sym (append_assoc (take place now) (carried ∷ []) (drop (suc place) old))
          ∙ (ap (λ (l : List ℕ). l ++ drop (suc place) old) front
          ∙ ap (λ (l : List ℕ). line ∷ l) (sym (without_first-at line old place lt is.none here'))))),
    )

-- no place had the line
pub IsShift-last : (old now : List ℕ) (line place carried : ℕ) → length now ≡ length old → length old ≤ place → place ≤ length old
    → IsPassed old now line place carried
    → IsShift old now line (Last carried)
IsShift-last old now line place carried len ge le is =
    let at : position_or_len (λ (y : ℕ). y == line) old ≡ place = position_or_len_is (λ (y : ℕ). y == line) old place 0 le is.none (λ h. absurd (omega arith)) in
    let below : nat_lt place (length old) ≡ false = le-ltb place (length old) ge in (
      rw (at, below) refl,
      ap (λ (l : List ℕ). l ++ carried ∷ []) (sym (take_all place now (omega arith)))
          ∙ (ap (λ (l : List ℕ). take place now ++ carried ∷ l) (sym (drop_all place old ge)) ∙ is.passed),
    )
