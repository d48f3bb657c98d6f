-- The slots that a word of holes and lines stand for, and what moves the lines of the first of them.
use Rattle.std.proofs.Common.{◌≡◌, ◌≢◌, ℕ, zero, suc, ◌+◌, ◌-◌, ◌<◌, ◌≤◌, Bool, true, false, cond, ◌==◌, if◌then◌else◌, List, [], ◌∷◌, ◌++◌, length, map, take, drop, get_or, set, replicate, Option, Some, None, arith, refl, sym, ◌∙◌, ap, subst, inl, inr, zero-add, length-set, length-append}
use Rattle.std.specs.List.{position_from}
use Rattle.std.proofs.lemmas.Bool.{cases_Bool, cases_lt, eqb-false, eqb-true}
use Rattle.std.proofs.lemmas.List.{drop_all, drop_more, get_or_append_left, get_or-append_right, get_or-drop, get_or-map, get_or-replicate, get_or-set_other, get_or-set_same, length-drop, length-map, length-replicate, length-take-le, take-append-drop}
use Rattle.std.proofs.lemmas.List.FromFn.{fill_by_all, get_or-map-range_with_len, length-map-range_with_len}
use Rattle.way_curve.specs.Slots.{empty_slots, has_line, is_hole, slot_at, slots_of}

-- ---- slots and their words

-- what is in one of the slots
pub get_or-slots_of : (holes : ℕ) (lines : List ℕ) (k : ℕ) (d : Option ℕ) → k < 32 → get_or (slots_of holes lines) k d ≡ slot_at holes lines k
unfolding slots_of
get_or-slots_of holes lines k d lt = get_or-map-range_with_len (slot_at holes lines) 0 32 k k d lt (zero-add k)

-- there are 32
pub length-slots_of : (holes : ℕ) (lines : List ℕ) → length (slots_of holes lines) ≡ 32
unfolding slots_of
length-slots_of holes lines = length-map-range_with_len (slot_at holes lines) 0 32

-- slots with just this in each place
slots_of-same : (holes : ℕ) (lines : List ℕ) (slots : List (Option ℕ)) → length slots ≡ 32 → ((k : ℕ) → k < 32 → get_or slots k None ≡ slot_at holes lines k) → slots_of holes lines ≡ slots
unfolding slots_of
slots_of-same holes lines slots all each = sym (fill_by_all (slot_at holes lines) slots 32 None all each)

-- a hole
pub slot_at-hole : (holes : ℕ) (lines : List ℕ) (k : ℕ) → is_hole holes k ≡ true → slot_at holes lines k ≡ None
slot_at-hole holes lines k is = rw is refl

-- and a line
pub slot_at-line : (holes : ℕ) (lines : List ℕ) (k : ℕ) → is_hole holes k ≡ false → slot_at holes lines k ≡ Some (get_or lines k 0)
slot_at-line holes lines k is = rw is refl

-- where all are holes
pub slots_of-holes : (holes : ℕ) (lines : List ℕ) → ((k : ℕ) → k < 32 → is_hole holes k ≡ true) → slots_of holes lines ≡ empty_slots
unfolding empty_slots
slots_of-holes holes lines all =
    slots_of-same holes lines (replicate 32 None) (length-replicate {A = Option ℕ} 32 None)
    (λ k lt. get_or-replicate 32 k None None lt ∙ sym (slot_at-hole holes lines k (all k lt)))

-- a line in a slot
pub slots_of-put : (holes new : ℕ) (lines : List ℕ) (slot x : ℕ) → slot < 32 → slot < length lines → is_hole new slot ≡ false
    → ((k : ℕ) → k < 32 → k ≢ slot → is_hole new k ≡ is_hole holes k)
    → slots_of new (set lines slot x) ≡ set (slots_of holes lines) slot (Some x)
slots_of-put holes new lines slot x lt within line others =
    slots_of-same new (set lines slot x) (set (slots_of holes lines) slot (Some x)) (length-set (slots_of holes lines) slot (Some x) ∙ length-slots_of holes lines) (λ k below.
    elim (cases_Bool (k == slot)) [
      | inl same ↦
          let at : k ≡ slot = eqb-true k slot same in
          subst (λ (i : ℕ). get_or (set (slots_of holes lines) slot (Some x)) i None ≡ slot_at new (set lines slot x) i) (sym at)
          (get_or-set_same (slots_of holes lines) slot (Some x) None (omega (arith, lt, length-slots_of holes lines))
          ∙ sym (slot_at-line new (set lines slot x) slot line ∙ ap (λ (y : ℕ). Some y) (get_or-set_same lines slot x 0 within)))
      | inr other ↦
          let ne : k ≢ slot = eqb-false k slot other in
          get_or-set_other (slots_of holes lines) slot k (Some x) None ne
          ∙ (get_or-slots_of holes lines k None below
          ∙ (ap (λ (b : Bool). if b then None else Some (get_or lines k 0)) (sym (others k below ne))
          ∙ ap (λ (y : ℕ). if is_hole new k then None else Some y) (sym (get_or-set_other lines slot k x 0 ne))))
    ])

-- a hole in a slot
pub slots_of-clear : (holes new : ℕ) (lines : List ℕ) (slot : ℕ) → slot < 32 → is_hole new slot ≡ true → ((k : ℕ) → k ≢ slot → is_hole new k ≡ is_hole holes k)
    → slots_of new lines ≡ set (slots_of holes lines) slot None
slots_of-clear holes new lines slot lt hole others =
    slots_of-same new lines (set (slots_of holes lines) slot None) (length-set (slots_of holes lines) slot None ∙ length-slots_of holes lines) (λ k below.
    elim (cases_Bool (k == slot)) [
      | inl same ↦
          let at : k ≡ slot = eqb-true k slot same in
          subst (λ (i : ℕ). get_or (set (slots_of holes lines) slot None) i None ≡ slot_at new lines i) (sym at)
          (get_or-set_same (slots_of holes lines) slot None None (omega (arith, lt, length-slots_of holes lines)) ∙ sym (slot_at-hole new lines slot hole))
      | inr other ↦
          let ne : k ≢ slot = eqb-false k slot other in
          get_or-set_other (slots_of holes lines) slot k None None ne
          ∙ (get_or-slots_of holes lines k None below
          ∙ ap (λ (b : Bool). if b then None else Some (get_or lines k 0)) (sym (others k ne)))
    ])

module _ (holes : ℕ) (lines : List ℕ) (front : ℕ) (all : length lines ≡ 32) (within : front ≤ 32) (full : (k : ℕ) → k < front → is_hole holes k ≡ false) where
  -- other lines in the first slots, of which none is a hole
  pub slots_of-front : (new : List ℕ) → length new ≡ front → slots_of holes (new ++ drop front lines) ≡ map (λ (x : ℕ). Some x) new ++ drop front (slots_of holes lines)
  slots_of-front new len =
      let some : ℕ → Option ℕ = λ (x : ℕ). Some x in
      let old : List (Option ℕ) = slots_of holes lines in
      let first : length (map some new) ≡ front = length-map new some ∙ len in
      let rest : length (drop front old) ≡ 32 - front = length-drop front old ∙ ap (λ (n : ℕ). n - front) (length-slots_of holes lines) in
      slots_of-same holes (new ++ drop front lines) (map some new ++ drop front old) (omega (arith, length-append (map some new) (drop front old), first, rest, within)) (λ k below.
      elim (cases_lt k front) [
        | inl lt ↦
            get_or_append_left (map some new) (drop front old) None k (omega (arith, first, lt))
            ∙ (get_or-map some new k 0 None (omega (arith, len, lt))
            ∙ sym (slot_at-line holes (new ++ drop front lines) k (full k lt) ∙ ap some (get_or_append_left new (drop front lines) 0 k (omega (arith, len, lt)))))
        | inr ge ↦
            let there : front + (k - front) ≡ k = omega (arith, ge) in
            let same : get_or (new ++ drop front lines) k 0 ≡ get_or lines k 0 =
            get_or-append_right new (drop front lines) front k 0 len ge ∙ (get_or-drop front lines (k - front) 0 ∙ ap (λ (i : ℕ). get_or lines i 0) there) in
            get_or-append_right (map some new) (drop front old) front k None first ge
            ∙ (get_or-drop front old (k - front) None ∙ (ap (λ (i : ℕ). get_or old i None) there
            ∙ (get_or-slots_of holes lines k None below ∙ ap (λ (y : ℕ). if is_hole holes k then None else Some y) (sym same))))
      ])

  -- they have these lines
  pub slots_of-first : slots_of holes lines ≡ map (λ (x : ℕ). Some x) (take front lines) ++ drop front (slots_of holes lines)
  slots_of-first =
      ap (slots_of holes) (sym (take-append-drop front lines)) ∙ slots_of-front (take front lines) (length-take-le front lines (omega (arith, all, within)))

  -- and behind them stands nothing or a hole
  pub rest-none : front ≡ 32 → drop front (slots_of holes lines) ≡ []
  rest-none is = drop_all front (slots_of holes lines) (omega (arith, is, length-slots_of holes lines))

  pub rest-hole : front < 32 → is_hole holes front ≡ true → drop front (slots_of holes lines) ≡ None ∷ drop (front + 1) (slots_of holes lines)
  rest-hole lt is =
      drop_more (slots_of holes lines) front None (omega (arith, lt, length-slots_of holes lines))
      ∙ ap (λ (o : Option ℕ). o ∷ drop (front + 1) (slots_of holes lines)) (get_or-slots_of holes lines front None lt ∙ slot_at-hole holes lines front is)

-- ---- the first slot from one on that has a line

-- it is this one
pub position_from-here : (holes : ℕ) (lines : List ℕ) (x slot : ℕ) → slot < 32 → has_line x (slot_at holes lines slot) ≡ true → position_from (has_line x) slot (drop slot (slots_of holes lines)) ≡ Some slot
position_from-here holes lines x slot lt is =
    let this : has_line x (get_or (slots_of holes lines) slot None) ≡ true = ap (has_line x) (get_or-slots_of holes lines slot None lt) ∙ is in
    ap (λ (l : List (Option ℕ)). position_from (has_line x) slot l) (drop_more (slots_of holes lines) slot None (omega (arith, lt, length-slots_of holes lines)))
    ∙ ap (λ (b : Bool). cond b (Some slot) (position_from (has_line x) (slot + 1) (drop (slot + 1) (slots_of holes lines)))) this

-- it is behind this one
pub position_from-next : (holes : ℕ) (lines : List ℕ) (x slot : ℕ) → slot < 32 → has_line x (slot_at holes lines slot) ≡ false
    → position_from (has_line x) slot (drop slot (slots_of holes lines)) ≡ position_from (has_line x) (slot + 1) (drop (slot + 1) (slots_of holes lines))
position_from-next holes lines x slot lt is =
    let this : has_line x (get_or (slots_of holes lines) slot None) ≡ false = ap (has_line x) (get_or-slots_of holes lines slot None lt) ∙ is in
    ap (λ (l : List (Option ℕ)). position_from (has_line x) slot l) (drop_more (slots_of holes lines) slot None (omega (arith, lt, length-slots_of holes lines)))
    ∙ ap (λ (b : Bool). cond b (Some slot) (position_from (has_line x) (slot + 1) (drop (slot + 1) (slots_of holes lines)))) this

-- there is none where holes alone follow
pub position_from-holes : (holes : ℕ) (lines : List ℕ) (x more slot : ℕ) → slot + more ≡ 32 → ((k : ℕ) → slot ≤ k → k < 32 → is_hole holes k ≡ true) → position_from (has_line x) slot (drop slot (slots_of holes lines)) ≡ None
position_from-holes holes lines x zero slot end all =
    ap (λ (l : List (Option ℕ)). position_from (has_line x) slot l) (drop_all slot (slots_of holes lines) (omega (arith, end, length-slots_of holes lines)))
position_from-holes holes lines x (suc more) slot end all =
    let none : has_line x (slot_at holes lines slot) ≡ false = ap (has_line x) (slot_at-hole holes lines slot (all slot (omega arith) (omega arith))) in
    position_from-next holes lines x slot (omega arith) none
    ∙ position_from-holes holes lines x more (slot + 1) (omega arith) (λ k le lt. all k (omega arith) lt)
