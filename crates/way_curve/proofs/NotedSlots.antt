-- The slots of a set after a line was brought to the front of those before the first hole.
use Rattle.std.proofs.Common.{◌≡◌, ℕ, ◌<◌, ◌≤◌, true, false, ◌==◌, List, [], ◌∷◌, ◌++◌, ◌+◌, length, take, drop, set, Option, None, Some, arith, sym, ◌∙◌, ap, subst, inl, inr}
use Rattle.std.specs.List.{position, position_from}
use Rattle.std.proofs.lemmas.Bool.{cases_lt}
use Rattle.std.proofs.lemmas.List.{drop_at, length-map, length-take-le}
use Rattle.lists.proofs.Cuts.{position-none, position-some}
use Rattle.private_lru.specs.Private.{among}
use Rattle.way_curve.specs.Shifts.{IsShift}
use Rattle.way_curve.specs.declared.shifting.Shift.TheVariants.{Found, Last}
use Rattle.way_curve.specs.Slots.{dropped, has_line, is_hole, pushed, slots_of}
use Rattle.way_curve.proofs.SlotMoves.{filled-hole, filled-none, full, position-behind, position-found, pushed-found}
use Rattle.way_curve.proofs.SlotWords.{rest-hole, rest-none, slots_of-first, slots_of-front}

module _ (holes front x : ℕ) (lines new : List ℕ) (all : length lines ≡ 32) (within : front ≤ 32) (lines_first : (k : ℕ) → k < front → is_hole holes k ≡ false) (len : length new ≡ front) where
  -- the slots before, from the first hole on
  abbrev rest : List (Option ℕ)
  rest = drop front (slots_of holes lines)

  -- the lines before the first hole
  abbrev old : List ℕ
  old = take front lines

  -- as many as there are slots before it
  length-old : length old ≡ front
  length-old = length-take-le front lines (omega (arith, all, within))

  -- the slots before, and with the new lines
  before : slots_of holes lines ≡ full old ++ rest
  before = slots_of-first holes lines front all within lines_first

  after : slots_of holes (new ++ drop front lines) ≡ full new ++ rest
  after = slots_of-front holes lines front all within lines_first new len

  -- the line was in one of these slots
  module _ (slot : ℕ) (shift : IsShift old new x (Found slot)) where
    pub position-in_front : position (has_line x) (slots_of holes lines) ≡ Some slot
    position-in_front = ap (position (has_line x)) before ∙ position-found x slot old rest shift.0

    pub moved-in_front : slots_of holes (new ++ drop front lines) ≡ pushed x (dropped x (slots_of holes lines))
    moved-in_front =
        after ∙ (ap (λ (l : List ℕ). full l ++ rest) shift.1
        ∙ (sym (pushed-found x x old rest (position-some (λ (y : ℕ). y == x) old slot shift.0).2) ∙ ap (λ (l : List (Option ℕ)). pushed x (dropped x l)) (sym before)))

  -- the line was in none of these slots
  module _ (last : ℕ) (shift : IsShift old new x (Last last)) where
    -- it is not among these lines
    gone : among x old ≡ false
    gone = (position-none (λ (y : ℕ). y == x) old shift.0).0

    -- the slots from the first hole on are as before
    rest-after : drop front (slots_of holes (new ++ drop front lines)) ≡ rest
    rest-after = ap (drop front) after ∙ drop_at (full new) rest front (length-map new (λ (y : ℕ). Some y) ∙ len)

    pub position-in_rest : position_from (has_line x) front (drop front (slots_of holes (new ++ drop front lines))) ≡ position (has_line x) (slots_of holes lines)
    position-in_rest =
        ap (position_from (has_line x) front) rest-after ∙ (sym (position-behind x front old rest length-old gone) ∙ ap (position (has_line x)) (sym before))

    -- the slots of these lines, filled
    abbrev filled : List (Option ℕ) → List (Option ℕ)
    filled slots = set (take front slots ++ dropped x (drop front slots)) front (Some last)

    pub moved-filled : (front < 32 → is_hole holes front ≡ true) → filled (slots_of holes (new ++ drop front lines)) ≡ pushed x (dropped x (slots_of holes lines))
    moved-filled hole = ap filled after ∙ (each ∙ ap (λ (l : List (Option ℕ)). pushed x (dropped x l)) (sym before))
      where
        each : filled (full new ++ rest) ≡ pushed x (dropped x (full old ++ rest))
        each = elim (cases_lt front 32) [
          | inl lt ↦
              let later : List (Option ℕ) = drop (front + 1) (slots_of holes lines) in
              let is : rest ≡ None ∷ later = rest-hole holes lines front all within lines_first lt (hole lt) in
              subst (λ (r : List (Option ℕ)). filled (full new ++ r) ≡ pushed x (dropped x (full old ++ r))) (sym is) (filled-hole x last front old new length-old len shift.1 gone later)
          | inr ge ↦
              let is : rest ≡ [] = rest-none holes lines front all within lines_first (omega (arith, ge, within)) in
              subst (λ (r : List (Option ℕ)). filled (full new ++ r) ≡ pushed x (dropped x (full old ++ r))) (sym is) (filled-none x last front old new length-old len shift.1 gone)
        ]
