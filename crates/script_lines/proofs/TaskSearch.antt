-- Where a task is in ranges that rise.
use Rattle.std.proofs.Common.{◌≡◌, ℕ, zero, suc, ◌+◌, ◌<◌, ◌≤◌, Bool, true, false, ◌&&◌, ◌||◌, leb, List, [], ◌∷◌, length, get_or, refl, sym, ◌∙◌, arith, le-leb, leb-false}
use Rattle.std.specs.List.{list_any, AllWithin}
use Rattle.std.proofs.lemmas.Bool.{lt-leb}
use Rattle.script_lines.specs.declared.tasks.TaskRange.{TaskRange}
use Rattle.script_lines.specs.Tasks.{has_task, meets, RiseFrom}

-- ---- the ends and the beginnings rise

-- no range begins below the bound
get_or-first_ge : (low : ℕ) (all : List TaskRange) → RiseFrom low all → (j : ℕ) (d : TaskRange) → j < length all → low ≤ (get_or all j d).first
get_or-first_ge low [] rise j d h = absurd (omega arith)
get_or-first_ge low (t ∷ ts) rise zero d h = rise.0
get_or-first_ge low (t ∷ ts) rise (suc j) d h = omega (arith, rise.0, rise.1, get_or-first_ge (t.last + 1) ts rise.2 j d (omega arith))

-- each range begins no later than it ends
get_or-first_le_last : (low : ℕ) (all : List TaskRange) → RiseFrom low all → (j : ℕ) (d : TaskRange) → j < length all → (get_or all j d).first ≤ (get_or all j d).last
get_or-first_le_last low [] rise j d h = absurd (omega arith)
get_or-first_le_last low (t ∷ ts) rise zero d h = rise.1
get_or-first_le_last low (t ∷ ts) rise (suc j) d h = get_or-first_le_last (t.last + 1) ts rise.2 j d (omega arith)

-- the ends rise
pub get_or-last_rises : (low : ℕ) (all : List TaskRange) → RiseFrom low all → (i j : ℕ) (d : TaskRange) → i ≤ j → j < length all → (get_or all i d).last ≤ (get_or all j d).last
get_or-last_rises low [] rise i j d le h = absurd (omega arith)
get_or-last_rises low (t ∷ ts) rise zero zero d le h = omega arith
get_or-last_rises low (t ∷ ts) rise zero (suc j) d le h = omega (arith, get_or-first_ge (t.last + 1) ts rise.2 j d (omega arith), get_or-first_le_last (t.last + 1) ts rise.2 j d (omega arith))
get_or-last_rises low (t ∷ ts) rise (suc i) zero d le h = absurd (omega arith)
get_or-last_rises low (t ∷ ts) rise (suc i) (suc j) d le h = get_or-last_rises (t.last + 1) ts rise.2 i j d (omega arith) (omega arith)

-- ---- ranges that meet one

-- all begin after its end
list_any-meets_none : (low : ℕ) (all : List TaskRange) (t : TaskRange) → RiseFrom low all → t.last < low → list_any (meets t) all ≡ false
list_any-meets_none low [] t rise h = refl
list_any-meets_none low (u ∷ us) t rise h =
    let behind : leb u.first t.last ≡ false = lt-leb u.first t.last (omega (arith, rise.0, h)) in
    rw behind (apart (leb t.first u.last) (list_any-meets_none (u.last + 1) us t rise.2 (omega (arith, rise.0, rise.1, h))))
  where
    apart : (a : Bool) {b : Bool} → b ≡ false → ((a && false) || b) ≡ false
    apart true e = e
    apart false e = e

-- the first that does not end before it begins
pub leb-list_any_meets : (low : ℕ) (all : List TaskRange) (t : TaskRange) (i : ℕ) (d : TaskRange) → RiseFrom low all → AllWithin (λ u. u.last < t.first) all 0 i → i < length all → t.first ≤ (get_or all i d).last → leb (get_or all i d).first t.last ≡ list_any (meets t) all
leb-list_any_meets low [] t i d rise before h end = absurd (omega arith)
leb-list_any_meets low (u ∷ us) t zero d rise before h end =
    let up : leb t.first u.last ≡ true = le-leb t.first u.last end in
    rw up (at (leb u.first t.last) refl)
  where
    at : (b : Bool) → leb u.first t.last ≡ b → b ≡ (b || list_any (meets t) us)
    at true e = refl
    at false e = sym (list_any-meets_none (u.last + 1) us t rise.2 (omega (arith, leb-false u.first t.last e, rise.1)))
leb-list_any_meets low (u ∷ us) t (suc i) d rise before h end =
    let over : leb t.first u.last ≡ false = lt-leb t.first u.last (before 0 d (omega arith) (omega arith)) in
    rw over (leb-list_any_meets (u.last + 1) us t i d rise.2 (λ k e a b. before (suc k) e (omega arith) (omega arith)) (omega arith) end)

-- all end before it begins
pub list_any-meets_before : (all : List TaskRange) (t : TaskRange) → AllWithin (λ u. u.last < t.first) all 0 (length all) → list_any (meets t) all ≡ false
list_any-meets_before [] t before = refl
list_any-meets_before (u ∷ us) t before =
    let over : leb t.first u.last ≡ false = lt-leb t.first u.last (before 0 u (omega arith) (omega arith)) in
    rw over (list_any-meets_before us t (λ k e a b. before (suc k) e (omega arith) (omega arith)))

-- ---- ranges that have an id

-- a range has an id where it meets the range of that id alone
list_any-meets_one : (all : List TaskRange) (id : ℕ) → list_any (meets (record { first = id; last = id })) all ≡ list_any (has_task id) all
list_any-meets_one [] id = refl
list_any-meets_one (t ∷ ts) id = rw (list_any-meets_one ts id) (turned (leb id t.last) (leb t.first id) (list_any (has_task id) ts))
  where
    turned : (a b c : Bool) → ((a && b) || c) ≡ ((b && a) || c)
    turned true true c = refl
    turned true false c = refl
    turned false true c = refl
    turned false false c = refl

-- the first range that does not end before an id has it, or none has
pub leb-list_any_has_task : (all : List TaskRange) (id i : ℕ) (d : TaskRange) → RiseFrom 0 all → AllWithin (λ t. t.last < id) all 0 i → i < length all → id ≤ (get_or all i d).last → leb (get_or all i d).first id ≡ list_any (has_task id) all
leb-list_any_has_task all id i d rise before h end = leb-list_any_meets 0 all (record { first = id; last = id }) i d rise before h end ∙ list_any-meets_one all id

-- no range has an id after all ends
pub list_any-has_task_none : (all : List TaskRange) (id : ℕ) → AllWithin (λ t. t.last < id) all 0 (length all) → list_any (has_task id) all ≡ false
list_any-has_task_none all id before = sym (list_any-meets_one all id) ∙ list_any-meets_before all (record { first = id; last = id }) before

pub ruleset searching = (leb-list_any_has_task, list_any-has_task_none)
