-- Ranges of tasks, sorted by their first tasks.
use Rattle.std.proofs.Common.{◌≡◌, ℕ, zero, suc, ◌+◌, ◌<◌, ◌≤◌, true, false, ltb, eqb, ◌++◌, List, [], ◌∷◌, length, get_or, Option, Some, None, Err, refl, sym, ap, subst, ◌∙◌, arith}
use Rattle.std.specs.List.{sum_by, All, AllAdjacentBelow}
use Rattle.std.specs.List.Sorted.{IsPermutation, IsNonDecreasingBy}
use Rattle.std.proofs.lemmas.Bool.{ltb-true, ltb-false}
use Rattle.std.proofs.lemmas.List.Elements.{All-append, All-tail}
use Rattle.std.proofs.lemmas.List.Sorted.{All-permutation, sum_by-IsPermutation}
use Rattle.std.proofs.lemmas.List.Sums.{sum_by-cons}
use Rattle.script_lines.specs.declared.fault.LineError.{LineError}
use Rattle.script_lines.specs.declared.fault.LineError.TheVariants as errors
use Rattle.script_lines.specs.declared.tasks.TaskRange.{TaskRange}
use Rattle.script_lines.specs.Tasks.{RiseFrom, ranges_from, declared, declared_from, Declares}
use Rattle.script_lines.proofs.TaskCounts.{holds, holds-inside, sum_by-holds_le, All-rising, RiseFrom-with_all, with_all-once, same-rising}
use Rattle.script_lines.proofs.laws.TaskLists.{IsOrdered, Adds, Adds-ranges_from, with_all}

-- each ends before the next begins
abbrev pub AreApart : List TaskRange → Type 0
AreApart all = AllAdjacentBelow (λ (t u : TaskRange). true ≡ ltb t.last u.first) all (length all)

-- one begins before the one in front of it has ended
abbrev pub HaveMet : List TaskRange → Type 0
HaveMet all = (k : ℕ) × (k + 1 < length all) × ((d : TaskRange) → false ≡ ltb (get_or all k d).last (get_or all (k + 1) d).first)

-- ranges that are apart rise
RiseFrom-apart : (low : ℕ) (t : TaskRange) (ts : List TaskRange) → low ≤ t.first → All IsOrdered (t ∷ ts) → AreApart (t ∷ ts) → RiseFrom low (t ∷ ts)
RiseFrom-apart low t [] le order apart = (le, order 0 t (omega arith), tt)
RiseFrom-apart low t (u ∷ us) le order apart =
    let next : t.last < u.first = ltb-true t.last u.first (sym (apart 0 t (omega arith))) in
    (le, order 0 t (omega arith), RiseFrom-apart (t.last + 1) u us (omega arith) (All-tail IsOrdered t (u ∷ us) order) (λ k d h. later k d (apart (suc k) d (omega arith))))
  where
    later : (k : ℕ) (d : TaskRange) → true ≡ ltb (get_or (u ∷ us) k d).last (get_or (t ∷ u ∷ us) (suc k + 1) d).first → true ≡ ltb (get_or (u ∷ us) k d).last (get_or (u ∷ us) (k + 1) d).first
    later k d h = let one_more : suc k + 1 ≡ suc (k + 1) = omega arith in rw one_more at h

-- the sum of two neighbours
sum_by-neighbours : (f : TaskRange → ℕ) (xs : List TaskRange) (k : ℕ) (d : TaskRange) → k + 1 < length xs → f (get_or xs k d) + f (get_or xs (k + 1) d) ≤ sum_by f xs
sum_by-neighbours f [] k d h = absurd (omega arith)
sum_by-neighbours f (x ∷ []) k d h = absurd (omega arith)
sum_by-neighbours f (x ∷ y ∷ ys) zero d h = omega (arith, sum_by-cons f x (y ∷ ys), sum_by-cons f y ys)
sum_by-neighbours f (x ∷ y ∷ ys) (suc k) d h =
    let one_more : suc k + 1 ≡ suc (k + 1) = omega arith in
    rw one_more (omega (arith, sum_by-cons f x (y ∷ ys), sum_by-neighbours f (y ∷ ys) k d (omega arith)))

-- ---- what is declared, by the ranges in order

-- ranges that are apart in order are those that were put in their places one by one
with_all-apart : (all ts p : List TaskRange) → RiseFrom 0 all → All IsOrdered ts → IsPermutation (all ++ ts) p → AreApart p → (with_all all ts ≡ Some p) × RiseFrom 0 p
with_all-apart all ts p rise order perm apart =
    let rising : RiseFrom 0 p = at p (All-permutation IsOrdered (all ++ ts) p perm (All-append IsOrdered all ts (All-rising 0 all rise) order)) apart in
    let once : (x : ℕ) → sum_by (holds x) (all ++ ts) ≤ 1 = λ x. omega (arith, sum_by-IsPermutation (holds x) (all ++ ts) p perm, sum_by-holds_le x 0 p rising) in
    let found = with_all-once all ts rise order once in
    let placed = RiseFrom-with_all all ts found.0 rise order found.1 in
    let same : found.0 ≡ p = same-rising 0 0 found.0 p placed.0 rising (λ f. placed.1 f ∙ sym (sum_by-IsPermutation f (all ++ ts) p perm)) in
    (found.1 ∙ ap (λ (q : List TaskRange). Some q) same, rising)
  where
    at : (p : List TaskRange) → All IsOrdered p → AreApart p → RiseFrom 0 p
    at [] order apart = tt
    at (t ∷ ts) order apart = RiseFrom-apart 0 t ts (omega arith) order apart

-- a range that begins before the one in front of it has ended
with_all-meeting : (all ts p : List TaskRange) → RiseFrom 0 all → All IsOrdered ts → IsPermutation (all ++ ts) p → IsNonDecreasingBy (λ (t : TaskRange). t.first) p → HaveMet p → with_all all ts ≡ None
with_all-meeting all ts p rise order perm sorted twice = at (with_all all ts) refl
  where
    d : TaskRange
    d = record { first = 0; last = 0 }

    k : ℕ
    k = twice.0

    u : TaskRange
    u = get_or p (k + 1) d

    begins : (get_or p k d).first ≤ u.first
    begins = sorted k (k + 1) d (omega arith) twice.1

    ends : u.first ≤ (get_or p k d).last
    ends = ltb-false _ _ (sym (twice.2 d))

    ordered : All IsOrdered p
    ordered = All-permutation IsOrdered (all ++ ts) p perm (All-append IsOrdered all ts (All-rising 0 all rise) order)

    at : (o : Option (List TaskRange)) → with_all all ts ≡ o → o ≡ None
    at None e = refl
    at (Some q) e =
        let placed = RiseFrom-with_all all ts q rise order e in
        let x = u.first in
        absurd (omega (arith, sum_by-neighbours (holds x) p k d twice.1, holds-inside x (get_or p k d) begins ends, holds-inside x u (omega arith) (ordered (k + 1) d twice.1), sum_by-holds_le x 0 q placed.0, placed.1 (holds x), sum_by-IsPermutation (holds x) (all ++ ts) p perm))

-- ---- the words of a line

-- one word or more
declared-some : (all : List TaskRange) (words : List (List ℕ)) → false ≡ eqb (length words) 0 → declared all words ≡ declared_from all words
declared-some all [] some = absurd cc
declared-some all (word ∷ words) some = refl

-- words of which one declares no tasks
pub Declares-ranges_from : (e : LineError) (after all : List TaskRange) (words : List (List ℕ)) → Declares (Err e) after (ranges_from all words) → Declares (Err e) after (declared all words)
Declares-ranges_from errors.NoMemory after all words h = tt
Declares-ranges_from (errors.Fault f) after all [] h = (h.0, refl)
Declares-ranges_from (errors.Fault f) after all (word ∷ words) h =
    let none : Adds all (word ∷ words) None = subst (λ (o : Option (List TaskRange)). Adds all (word ∷ words) o) h.1 (Adds-ranges_from all (word ∷ words)) in
    (h.0, none all)

-- what the words add to others
Adds-some : (all more : List TaskRange) (words : List (List ℕ)) → ranges_from all words ≡ Some more → Adds all words (Some more)
Adds-some all more words e = subst (λ (o : Option (List TaskRange)). Adds all words o) e (Adds-ranges_from all words)

-- ranges that are apart when they are sorted
pub declared-apart : (all more p : List TaskRange) (words : List (List ℕ)) → false ≡ eqb (length words) 0 → RiseFrom 0 all → ranges_from all words ≡ Some more → IsPermutation more p → AreApart p → (declared all words ≡ Some p) × RiseFrom 0 p
declared-apart all more p words some rise e perm apart =
    let added = Adds-some all more words e in
    let found = with_all-apart all added.0 p rise added.2 (subst (λ (xs : List TaskRange). IsPermutation xs p) added.1 perm) apart in
    (declared-some all words some ∙ added.3 all ∙ found.0, found.1)

-- ranges of which two have met when they are sorted
pub declared-met : (all more p : List TaskRange) (words : List (List ℕ)) → false ≡ eqb (length words) 0 → RiseFrom 0 all → ranges_from all words ≡ Some more → IsPermutation more p → IsNonDecreasingBy (λ (t : TaskRange). t.first) p → HaveMet p → declared all words ≡ None
declared-met all more p words some rise e perm sorted met =
    let added = Adds-some all more words e in
    declared-some all words some ∙ added.3 all ∙ with_all-meeting all added.0 p rise added.2 (subst (λ (xs : List TaskRange). IsPermutation xs p) added.1 perm) sorted met
