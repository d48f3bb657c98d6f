-- The table of counts: what a search finds in it, and what an edit does to it.
use Rattle.std.proofs.Common.{◌≡◌, ◌≢◌, ℕ, zero, suc, ◌+◌, ◌-◌, ◌<◌, ◌≤◌, List, [], ◌∷◌, length, get_or, All, AllPairs, Result, Ok, Err, IfOk, IfErr, if◌then◌else◌, ◌==◌, refl, sym, ap, ◌∙◌, subst, arith, inl, inr}
use Rattle.std.specs.List.{insert, sum_by}
use Rattle.std.specs.List.Sorted.{IsSearchInRange, IsBinarySearchResult, IsNonDecreasingBy}
use Rattle.std.specs.Ordering.{nat_cmp, ordering_index}
use Rattle.std.proofs.lemmas.Bool.{cases_lt, eq-eqb, ne_eqb}
use Rattle.std.proofs.lemmas.Bool.Decides.{nat_tests}
use Rattle.std.proofs.lemmas.Cmp.{ranked}
use Rattle.std.proofs.lemmas.List.Edits.{length-insert, get_or-insert_below, get_or-insert_at, get_or-insert_above}
use Rattle.std.proofs.lemmas.List.Sorted.{IsNonDecreasingBy-from_default}
use Rattle.std.proofs.lemmas.List.Sums.{sum_by-cons}
use Rattle.rc_base.specs.declared.names.Gid.{Gid}
use Rattle.task_binding.specs.declared.counts.GroupCount.{GroupCount}
use Rattle.task_binding.specs.GroupCounts.{IsTable, IsCountAt, IsGapFor, count_in, count_in_all}

-- what an entry adds to a group's count
abbrev count_of : Gid → GroupCount → ℕ
count_of group c = if c.group.0 == group.0 then c.tasks else 0

-- the order of the table
abbrev IsRising : List GroupCount → Type 0
IsRising counts = AllPairs (λ a b. a.group.0 < b.group.0) counts

-- all but the first rise
IsRising-tail : (x : GroupCount) (xs : List GroupCount) → IsRising (x ∷ xs) → IsRising xs
IsRising-tail x xs rising = λ i j d below within. rising (suc i) (suc j) d (omega arith) (omega arith)

-- a group without an entry has no tasks
count_in-absent : (group : Gid) (counts : List GroupCount) → All (λ c. c.group.0 ≢ group.0) counts → count_in group counts ≡ 0
count_in-absent group [] all = refl
count_in-absent group (x ∷ xs) all =
    let other = ne_eqb x.group.0 group.0 (all zero x (omega arith)) in
    sum_by-cons (count_of group) x xs ∙ rw (other, count_in-absent group xs (λ k d h. all (suc k) d (omega arith))) refl

-- a group's entry has its count
count_in-at : (group : Gid) (counts : List GroupCount) (place : ℕ) (d : GroupCount) → IsRising counts → place < length counts → (get_or counts place d).group.0 ≡ group.0
    → count_in group counts ≡ (get_or counts place d).tasks
count_in-at group [] place d rising h at = absurd (omega arith)
count_in-at group (x ∷ xs) zero d rising h at =
    let is = eq-eqb x.group.0 group.0 at in
    let rest = count_in-absent group xs (λ k e within same. let above = rising zero (suc k) e (omega arith) (omega arith) in omega (arith, above, at, same)) in
    sum_by-cons (count_of group) x xs ∙ rw (is, rest) (omega arith)
count_in-at group (x ∷ xs) (suc place) d rising h at =
    let below = rising zero (suc place) d (omega arith) h in
    let other = ne_eqb x.group.0 group.0 (λ (e : x.group.0 ≡ group.0). omega (arith, below, at, e)) in
    let nothing : count_of group x ≡ 0 = rw other refl in
    let rest : sum_by (count_of group) xs ≡ (get_or (x ∷ xs) (suc place) d).tasks = count_in-at group xs place d (IsRising-tail x xs rising) (omega arith) at in
    sum_by-cons (count_of group) x xs ∙ omega (arith, nothing, rest)

-- where each group in the table has tasks, there are no more of them than tasks
pub length-le-count_in_all : (counts : List GroupCount) → All (λ c. 0 < c.tasks) counts → length counts ≤ count_in_all counts
length-le-count_in_all [] all = omega arith
length-le-count_in_all (x ∷ xs) all =
    let more = sum_by-cons (λ (c : GroupCount). c.tasks) x xs in
    let first = all zero x (omega arith) in
    let rest = length-le-count_in_all xs (λ k d h. all (suc k) d (omega arith)) in
    omega (arith, more, first, rest)

-- what a search by group finds
module _ (counts : List GroupCount) (table : IsTable counts) (group : Gid) where
  -- the comparisons with the group rise along the table
  comparisons-rise : (e : GroupCount) → IsNonDecreasingBy (λ c. ordering_index (nat_cmp c.group.0 group.0)) counts
  comparisons-rise e = IsNonDecreasingBy-from_default (λ c. ordering_index (nat_cmp c.group.0 group.0)) counts e (λ i j le in_range.
      let groups_rise : (get_or counts i e).group.0 ≤ (get_or counts j e).group.0 = grind (arith, table.rising i j e, λ (same : i ≡ j). ap (λ n. (get_or counts n e).group.0) same) in
      grind (arith, nat_tests))

  pub searched : (r : Result ℕ ℕ) → IsSearchInRange r (length counts) → IsBinarySearchResult (λ c. nat_cmp c.group.0 group.0) counts r → record { found : IfOk r (IsCountAt counts group); absent : IfErr r (IsGapFor counts group) }
  searched (Ok place) in_range equal = record { found = record { within = in_range; there = λ d. ranked _ group.0 _ (sym (equal d)) }; absent = tt }
  searched (Err place) in_range parted =
      let rise = comparisons-rise (record { group = group; tasks = 0 }) in
      record {
        found = tt;
        absent = record {
          within = in_range;
          below = λ j d ge lt. ranked _ group.0 _ (sym ((parted rise).0 j d (omega arith) lt));
          above = λ j d le lt. ranked _ group.0 _ (sym ((parted rise).1 j d le lt));
        };
      }

  -- a gap's group has no tasks
  pub count_in-gap : (place : ℕ) → IsGapFor counts group place → count_in group counts ≡ 0
  count_in-gap place gap = count_in-absent group counts (λ k d h same. elim (cases_lt k place) [
    | inl lower ↦ absurd (omega (arith, gap.below k d (omega arith) lower, same))
    | inr past ↦ absurd (omega (arith, gap.above k d past h, same))
  ])

-- an entry's place
module _ (counts : List GroupCount) (table : IsTable counts) (group : Gid) (place : ℕ) (at : IsCountAt counts group place) where
  -- its count is the group's
  pub count_in-place : (d : GroupCount) → count_in group counts ≡ (get_or counts place d).tasks
  count_in-place d = count_in-at group counts place d table.rising at.within (at.there d)

  -- it has tasks
  pub positive-place : (d : GroupCount) → 0 < (get_or counts place d).tasks
  positive-place d = table.positive place d at.within

-- a new entry in a gap
module _ (counts : List GroupCount) (table : IsTable counts) (group : Gid) (place : ℕ) (gap : IsGapFor counts group place) (tasks : ℕ) where
  pub IsTable-insert : 0 < tasks → IsTable (insert counts place (record { group = group; tasks = tasks }))
  IsTable-insert some =
      let new : GroupCount = record { group = group; tasks = tasks } in
      let long = length-insert counts place new gap.within in
      let below : (i : ℕ) (d : GroupCount) → i < place → get_or (insert counts place new) i d ≡ get_or counts i d = λ i d lt. get_or-insert_below counts place new d i lt gap.within in
      let here : (i : ℕ) (d : GroupCount) → i ≡ place → get_or (insert counts place new) i d ≡ new = λ i d same. rw same (get_or-insert_at counts place new d gap.within) in
      let above : (i : ℕ) (d : GroupCount) → place < i → get_or (insert counts place new) i d ≡ get_or counts (i - 1) d = λ i d lt.
      subst (λ q. get_or (insert counts place new) q d ≡ get_or counts (i - 1) d) {x = i - 1 + 1} (omega arith) (get_or-insert_above counts place new d (i - 1) (omega arith) gap.within) in
      record {
        rising = λ i j d lt in_range. grind (arith, below i d, here i d, above i d, below j d, here j d, above j d, table.rising i j d, table.rising i (j - 1) d, table.rising (i - 1) (j - 1) d, gap.below i d, gap.above (j - 1) d, long);
        positive = λ k d in_range. grind (arith, below k d, here k d, above k d, table.positive k d, table.positive (k - 1) d, long, some);
      }
