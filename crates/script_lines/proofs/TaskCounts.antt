-- How often ranges have a task, in whatever order they stand.
use Rattle.std.proofs.Common.{◌≡◌, ℕ, ◌+◌, ◌<◌, ◌≤◌, Bool, true, false, cond, ◌&&◌, leb, eqb, ◌++◌, List, [], ◌∷◌, Some, None, refl, sym, ap, ◌∙◌, arith, inl, inr, eq-eqb}
use Rattle.std.specs.List.{list_any, position_or_len, sum_by, All}
use Rattle.std.proofs.lemmas.Bool.{cases_lt, and_parts, le-leb, leb-true, ne_eqb, lt-leb}
use Rattle.std.proofs.lemmas.List.{append-nil}
use Rattle.std.proofs.lemmas.List.Elements.{All-nil, All-cons, All-tail}
use Rattle.std.proofs.lemmas.List.Sums.{sum_by-append, sum_by-insert, sum_by-cons}
use Rattle.script_lines.specs.declared.tasks.TaskRange.{TaskRange}
use Rattle.script_lines.specs.Tasks.{RiseFrom, meets, is_behind, with_range, has_task}
use Rattle.script_lines.proofs.laws.TaskRanges.{RiseFrom-with_range}
use Rattle.script_lines.proofs.laws.TaskLists.{IsOrdered, with_all}

-- 1 where a range has a task
abbrev pub holds : ℕ → TaskRange → ℕ
holds x t = cond (has_task x t) 1 0

-- a task of a range
pub holds-inside : (x : ℕ) (t : TaskRange) → t.first ≤ x → x ≤ t.last → holds x t ≡ 1
holds-inside x t low high = rw (le-leb t.first x low, le-leb x t.last high) refl

-- a task before a range
holds-before : (x : ℕ) (t : TaskRange) → x < t.first → holds x t ≡ 0
holds-before x t h = rw (lt-leb t.first x h) refl

-- a task after a range
holds-behind : (x : ℕ) (t : TaskRange) → t.last < x → holds x t ≡ 0
holds-behind x t h = rw (lt-leb x t.last h) (ap (λ (b : Bool). cond b 1 0) (at (leb t.first x)))
  where
    at : (b : Bool) → (b && false) ≡ false
    at true = refl
    at false = refl

-- a range has a task once at most
holds-le : (x : ℕ) (t : TaskRange) → holds x t ≤ 1
holds-le x t = at (has_task x t)
  where
    at : (b : Bool) → cond b 1 0 ≤ 1
    at true = omega arith
    at false = omega arith

-- ---- ranges that rise

-- a task before all of them
sum_by-holds_before : (x low : ℕ) (all : List TaskRange) → RiseFrom low all → x < low → sum_by (holds x) all ≡ 0
sum_by-holds_before x low [] rise h = refl
sum_by-holds_before x low (t ∷ ts) rise h = omega (arith, sum_by-cons (holds x) t ts, holds-before x t (omega (arith, rise.0)), sum_by-holds_before x (t.last + 1) ts rise.2 (omega (arith, rise.0, rise.1)))

-- each task is there once at most
pub sum_by-holds_le : (x low : ℕ) (all : List TaskRange) → RiseFrom low all → sum_by (holds x) all ≤ 1
sum_by-holds_le x low [] rise = omega arith
sum_by-holds_le x low (t ∷ ts) rise = elim (cases_lt t.last x) [
  | inl lt ↦ omega (arith, sum_by-cons (holds x) t ts, holds-behind x t lt, sum_by-holds_le x (t.last + 1) ts rise.2)
  | inr ge ↦ omega (arith, sum_by-cons (holds x) t ts, holds-le x t, sum_by-holds_before x (t.last + 1) ts rise.2 (omega arith))
]

-- each has a task or more
pub All-rising : (low : ℕ) (all : List TaskRange) → RiseFrom low all → All IsOrdered all
All-rising low [] rise = All-nil IsOrdered
All-rising low (t ∷ ts) rise = All-cons IsOrdered t ts rise.1 (All-rising (t.last + 1) ts rise.2)

-- ---- one range more

-- ranges that meet have a task in common
meets-common : (t u : TaskRange) → IsOrdered t → IsOrdered u → meets t u ≡ true → (x : ℕ) × (holds x t ≡ 1) × (holds x u ≡ 1)
meets-common t u one other both =
    let parts = and_parts (leb t.first u.last) (leb u.first t.last) both in
    let low : t.first ≤ u.last = leb-true t.first u.last parts.0 in
    let high : u.first ≤ t.last = leb-true u.first t.last parts.1 in
    elim (cases_lt t.first u.first) [
      | inl lt ↦ (u.first, holds-inside u.first t (omega arith) high, holds-inside u.first u (omega arith) other)
      | inr ge ↦ (t.first, holds-inside t.first t (omega arith) one, holds-inside t.first u ge low)
    ]

-- a range with no task that is there already
list_any-meets_once : (low : ℕ) (all : List TaskRange) (t : TaskRange) → RiseFrom low all → IsOrdered t → ((x : ℕ) → sum_by (holds x) (t ∷ all) ≤ 1) → list_any (meets t) all ≡ false
list_any-meets_once low [] t rise order once = refl
list_any-meets_once low (u ∷ us) t rise order once = at (list_any-meets_once (u.last + 1) us t rise.2 order fewer) (meets t u) refl
  where
    fewer : (x : ℕ) → sum_by (holds x) (t ∷ us) ≤ 1
    fewer x = omega (arith, once x, sum_by-cons (holds x) t (u ∷ us), sum_by-cons (holds x) u us, sum_by-cons (holds x) t us)

    at : list_any (meets t) us ≡ false → (b : Bool) → meets t u ≡ b → list_any (meets t) (u ∷ us) ≡ false
    at rest true e =
        let x = meets-common t u order rise.1 e in
        absurd (omega (arith, once x.0, sum_by-cons (holds x.0) t (u ∷ us), sum_by-cons (holds x.0) u us, x.1, x.2))
    at rest false e = rw e rest

-- sums do not see the place
sum_by-with_range : (f : TaskRange → ℕ) (all : List TaskRange) (t : TaskRange) (ts : List TaskRange) → sum_by f (with_range t all ++ ts) ≡ sum_by f (all ++ t ∷ ts)
sum_by-with_range f all t ts = omega (arith, sum_by-append f (with_range t all) ts, sum_by-append f all (t ∷ ts), sum_by-cons f t ts, sum_by-insert f all (position_or_len (is_behind t) all) t)

-- ---- more ranges

-- ranges of which each was put in its place
pub RiseFrom-with_all : (all ts q : List TaskRange) → RiseFrom 0 all → All IsOrdered ts → with_all all ts ≡ Some q → RiseFrom 0 q × ((f : TaskRange → ℕ) → sum_by f q ≡ sum_by f (all ++ ts))
unfolding with_all
RiseFrom-with_all all [] q rise order e = let same : all ≡ q = cc in rw (sym same, append-nil all) (rise, λ f. refl)
RiseFrom-with_all all (t ∷ ts) q rise order e =
    at (λ h next. RiseFrom-with_all (with_range t all) ts q (RiseFrom-with_range 0 all t rise (omega arith) (order 0 t (omega arith)) h) (All-tail IsOrdered t ts order) next) (list_any (meets t) all) refl e
  where
    at : (list_any (meets t) all ≡ false → with_all (with_range t all) ts ≡ Some q → RiseFrom 0 q × ((f : TaskRange → ℕ) → sum_by f q ≡ sum_by f (with_range t all ++ ts))) → (b : Bool) → list_any (meets t) all ≡ b → cond b None (with_all (with_range t all) ts) ≡ Some q → RiseFrom 0 q × ((f : TaskRange → ℕ) → sum_by f q ≡ sum_by f (all ++ t ∷ ts))
    at rest true h g = absurd cc
    at rest false h g = let done = rest h g in (done.0, λ f. done.1 f ∙ sum_by-with_range f all t ts)

-- ranges with each task once at most have each its place
pub with_all-once : (all ts : List TaskRange) → RiseFrom 0 all → All IsOrdered ts → ((x : ℕ) → sum_by (holds x) (all ++ ts) ≤ 1) → (q : List TaskRange) × (with_all all ts ≡ Some q)
unfolding with_all
with_all-once all [] rise order once = (all, refl)
with_all-once all (t ∷ ts) rise order once =
    let first : IsOrdered t = order 0 t (omega arith) in
    let few : (x : ℕ) → sum_by (holds x) (t ∷ all) ≤ 1 = λ x. omega (arith, once x, sum_by-append (holds x) all (t ∷ ts), sum_by-cons (holds x) t ts, sum_by-cons (holds x) t all) in
    let none : list_any (meets t) all ≡ false = list_any-meets_once 0 all t rise first few in
    rw none (with_all-once (with_range t all) ts (RiseFrom-with_range 0 all t rise (omega arith) first none) (All-tail IsOrdered t ts order) (λ x. omega (arith, once x, sum_by-with_range (holds x) all t ts)))

-- ---- ranges that rise are known by their sums

-- one more than the end of the range that begins here
abbrev end_at : ℕ → TaskRange → ℕ
end_at a t = cond (eqb t.first a) (t.last + 1) 0

-- no range begins here
sum_by-end_before : (a low : ℕ) (all : List TaskRange) → RiseFrom low all → a < low → sum_by (end_at a) all ≡ 0
sum_by-end_before a low [] rise h = refl
sum_by-end_before a low (t ∷ ts) rise h =
    let other : eqb t.first a ≡ false = ne_eqb t.first a (λ e. omega (arith, e, rise.0)) in
    omega (arith, sum_by-cons (end_at a) t ts, ap (λ (b : Bool). cond b (t.last + 1) 0) other, sum_by-end_before a (t.last + 1) ts rise.2 (omega (arith, rise.0, rise.1)))

-- the first range begins here
sum_by-end_first : (low : ℕ) (t : TaskRange) (ts : List TaskRange) → RiseFrom low (t ∷ ts) → sum_by (end_at t.first) (t ∷ ts) ≡ t.last + 1
sum_by-end_first low t ts rise =
    omega (arith, sum_by-cons (end_at t.first) t ts, ap (λ (b : Bool). cond b (t.last + 1) 0) (eq-eqb t.first t.first refl), sum_by-end_before t.first (t.last + 1) ts rise.2 (omega (arith, rise.1)))

-- the same sums
pub same-rising : (low high : ℕ) (xs ys : List TaskRange) → RiseFrom low xs → RiseFrom high ys → ((f : TaskRange → ℕ) → sum_by f xs ≡ sum_by f ys) → xs ≡ ys
same-rising low high [] [] rise other same = refl
same-rising low high [] (u ∷ us) rise other same = absurd (omega (arith, same (end_at u.first), sum_by-end_first high u us other))
same-rising low high (t ∷ ts) [] rise other same = absurd (omega (arith, same (end_at t.first), sum_by-end_first low t ts rise))
same-rising low high (t ∷ ts) (u ∷ us) rise other same =
    elim (cases_lt t.first u.first) [
      | inl lt ↦ absurd (omega (arith, same (end_at t.first), sum_by-end_first low t ts rise, sum_by-end_before t.first u.first (u ∷ us) (omega arith, other.1, other.2) lt))
      | inr ge ↦ elim (cases_lt u.first t.first) [
        | inl lt ↦ absurd (omega (arith, same (end_at u.first), sum_by-end_first high u us other, sum_by-end_before u.first t.first (t ∷ ts) (omega arith, rise.1, rise.2) lt))
        | inr le ↦ (
            let first : t.first ≡ u.first = omega arith in
            let last : t.last ≡ u.last = omega (arith, same (end_at t.first), sum_by-end_first low t ts rise, sum_by-end_first high u us other, ap (λ (a : ℕ). sum_by (end_at a) (u ∷ us)) first) in
            let one : t ≡ u = same_range t.first t.last u.first u.last first last in
            let rest : ts ≡ us = same-rising (t.last + 1) (u.last + 1) ts us rise.2 other.2 (λ f. omega (arith, same f, sum_by-cons f t ts, sum_by-cons f u us, ap f one)) in
            rw (one, rest) refl)
      ]
    ]
  where
    range : ℕ → ℕ → TaskRange
    range first last = record { first = first; last = last }

    same_range : (a b c d : ℕ) → a ≡ c → b ≡ d → range a b ≡ range c d
    same_range a b c d first last = rw (first, last) refl
