-- Slices of which each place holds a line: what came before adds nothing.
use Rattle.std.proofs.Common.{◌≡◌, ℕ, zero, suc, ◌+◌, ◌*◌, ◌/◌, ◌%◌, ◌<◌, ◌≤◌, ◌==◌, Bool, true, false, cond, List, ◌++◌, take, drop, Option, Some, None, refl, sym, ap, ◌∙◌, arith, inl, inr}
use Rattle.std.specs.Prelude.{is_some, option_and_then}
use Rattle.std.proofs.lemmas.Bool.{cases_Bool, eq-eqb}
use Rattle.std.proofs.lemmas.List.{take-append-drop}
use Rattle.std.proofs.lemmas.Nat.{div-add-mod'}
use Rattle.cache_core.proofs.laws.Places.{places_with-changed}
use Rattle.cache_core.proofs.laws.Suffixes.{last_such-append_later}
use Rattle.cache_core.specs.Filled.{places_with}
use Rattle.cache_core.specs.Fills.{Resident}
use Rattle.cache_core.specs.History.{IsOwn, Shape, decides, held, is_own, last_such, left_by}
use Rattle.cache_core.specs.declared.entry.SliceEntry.{SliceEntry}
use Rattle.lists.proofs.Sums.{one_if-le, sum_below-le, sum_below-rows}
use Rattle.lists.specs.Sums.{one_if, sum_below}
use Rattle.run_counts.proofs.Occupancies.{HasCounted-alike, is_at, is_at-other}
use Rattle.run_counts.specs.Occupancies.{HasCounted, OccupancyValue}

-- ---- how many places a slice has

-- sums of numbers of which each is at most the other
sum_below-le_each : (n : ℕ) (f g : ℕ → ℕ) → ((k : ℕ) → k < n → f k ≤ g k) → sum_below n f ≤ sum_below n g
sum_below-le_each zero f g each = omega arith
sum_below-le_each (suc n) f g each =
    let less : sum_below n f ≤ sum_below n g = sum_below-le_each n f g (λ k h. each k (omega arith)) in
    let here : f n ≤ g n = each n (omega arith) in
    omega arith

-- no more places pass a test than a slice has
places_with-le_slice : (m : Shape) (p : Option Resident → Bool) (holds : ℕ → ℕ → Option Resident) → m.slice < m.slices → m.sets % m.slices ≡ 0 → places_with m p holds ≤ m.sets / m.slices * m.ways
places_with-le_slice m p holds there whole =
    let row : ℕ → ℕ = λ s. sum_below m.ways (λ w. one_if (p (holds s w))) in
    let each : places_with m p holds ≤ sum_below m.sets (λ s. cond (is_own m s) m.ways 0) =
    sum_below-le_each m.sets (λ s. cond (is_own m s) (row s) 0) (λ s. cond (is_own m s) m.ways 0)
    (λ s h. cond-le_same (is_own m s) (row s) m.ways (let all : row s ≤ m.ways * 1 = sum_below-le m.ways 1 (λ w. one_if (p (holds s w))) (λ w. one_if-le (p (holds s w))) in omega arith)) in
    let sets : m.sets ≡ m.sets / m.slices * m.slices = let all = div-add-mod' m.sets m.slices in omega (arith, all, whole) in
    let all : sum_below m.sets (λ s. cond (is_own m s) m.ways 0) ≡ m.sets / m.slices * m.ways =
    ap (λ n. sum_below n (λ s. cond (s % m.slices == m.slice) m.ways 0)) sets ∙ sum_below-rows (m.sets / m.slices) m.slices m.slice m.ways there in
    omega (arith, each, all)
  where
    cond-le_same : (b : Bool) (n k : ℕ) → n ≤ k → cond b n 0 ≤ cond b k 0
    cond-le_same true n k le = le
    cond-le_same false n k le = omega arith

-- ---- full slices

-- where as many places hold a line as the slice has, each does
is_some-full : (m : Shape) (holds : ℕ → ℕ → Option Resident) → m.slice < m.slices → m.sets % m.slices ≡ 0 → m.sets / m.slices * m.ways ≤ places_with m (λ o. is_some o) holds
    → (set way : ℕ) → IsOwn m set → way < m.ways → is_some (holds set way) ≡ true
is_some-full m holds there whole full set way own inside = elim (cases_Bool (is_some (holds set way))) [
  | inl held_there ↦ held_there
  | inr empty ↦
      let other : ℕ → ℕ → Option Resident = λ s w. cond (is_at set way s w) (Some (record { line = 0; rmid = 0 })) (holds s w) in
      let here : is_at set way set way ≡ true = rw (eq-eqb set set refl, eq-eqb way way refl) refl in
      let more : places_with m (λ o. is_some o) other ≡ places_with m (λ o. is_some o) holds + 1 =
      places_with-changed m (λ o. is_some o) holds other set way 1 own inside (λ s w apart. rw (is_at-other set way s w apart) refl) (rw (here, empty) refl) in
      let most : places_with m (λ o. is_some o) other ≤ m.sets / m.slices * m.ways = places_with-le_slice m (λ o. is_some o) other there whole in
      absurd (omega (arith, more, most, full))
]

-- what stands before entries that leave a line in a place adds nothing there
held-append_some : (m : Shape) (before es : List SliceEntry) (set way : ℕ) → is_some (held m es set way) ≡ true → held m (before ++ es) set way ≡ held m es set way
held-append_some m before es set way some_line =
    ap (option_and_then (λ (x : SliceEntry). left_by m set way x.what)) (last_such-append_later d before es (some_last (last_such d es) some_line))
  where
    d : SliceEntry → Bool
    d x = decides m set way x.what

    some_last : (o : Option SliceEntry) → is_some (option_and_then (λ (x : SliceEntry). left_by m set way x.what) o) ≡ true → is_some o ≡ true
    some_last None is = absurd cc
    some_last (Some x) is = refl

-- where as many lines were counted as the slice has places, all is counted
pub HasCounted-full : (m : Shape) (base now : OccupancyValue) (es : List SliceEntry) (left : ℕ) → m.slice < m.slices → m.sets % m.slices ≡ 0 → base.valid + m.sets / m.slices * m.ways ≤ now.valid
    → HasCounted m base (λ s w. held m (drop left es) s w) now → HasCounted m base (λ s w. held m es s w) now
HasCounted-full m base now es left there whole full before =
    let last : ℕ → ℕ → Option Resident = λ s w. held m (drop left es) s w in
    let enough : m.sets / m.slices * m.ways ≤ places_with m (λ o. is_some o) last = let valid = before.valid in omega (arith, valid, full) in
    HasCounted-alike m base now last (λ s w. held m es s w)
    (λ s w own inside.
    sym (held-append_some m (take left es) (drop left es) s w (is_some-full m last there whole enough s w own inside)) ∙ ap (λ (all : List SliceEntry). held m all s w) (take-append-drop left es))
    before
