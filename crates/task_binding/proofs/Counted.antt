-- The counts of the bindings: at the start, after a change of one binding, and what they tell of a group's members.
use Rattle.std.proofs.Common.{◌≡◌, ℕ, zero, suc, ◌+◌, ◌<◌, Bool, true, false, cond, List, [], ◌∷◌, length, map, filter, slice_get, is_some, nat_lt, All, if◌then◌else◌, ◌==◌, eqb, refl, sym, ap, ◌∙◌, subst, arith}
use Rattle.std.specs.List.{count_by}
use Rattle.std.proofs.lemmas.Bool.Decides.{nat_tests}
use Rattle.std.proofs.lemmas.List.Sums.{sum_by-cons, length-filter}
use Rattle.rc_base.specs.Gids.{default_gid}
use Rattle.rc_base.specs.declared.names.Gid.{Gid}
use Rattle.task_binding.specs.declared.binding.Binding.{Binding}
use Rattle.task_binding.specs.declared.counts.GroupCount.{GroupCount}
use Rattle.task_binding.specs.Bindings.{opening_binding}
use Rattle.task_binding.specs.GroupCounts.{AreCounts, IsTable, count_in, count_in_all, opening_counts}

-- 1 where a binding is of the group
abbrev one_if : Bool → ℕ
one_if b = cond b 1 0

module _ (is_of : Gid → Binding → Bool) (bindings : List Binding) (counts : List GroupCount) (capacity : ℕ) (are : AreCounts is_of bindings counts capacity) where
  -- a group has a member where it has a count
  pub is_some-member : (group : Gid) → nat_lt 0 (count_in group counts) ≡ is_some (slice_get (map (λ b. b.task) (filter (is_of group) bindings)) 0)
  is_some-member group = rw (are.each group, ← length-filter (is_of group) bindings) (first (filter (is_of group) bindings))
    where
      first : (members : List Binding) → nat_lt 0 (length members) ≡ is_some (slice_get (map (λ b. b.task) members) 0)
      first [] = refl
      first (x ∷ xs) = grind (arith, nat_tests)

-- the bindings at the start: all are of the default group, or none
count_by-opening : (p : Binding → Bool) (all : Bool) → ((id : ℕ) → p (opening_binding id) ≡ all) → (ids : List ℕ) → count_by p (map opening_binding ids) ≡ (if all then length ids else 0)
count_by-opening p true is [] = refl
count_by-opening p false is [] = refl
count_by-opening p true is (x ∷ xs) = sum_by-cons (λ (b : Binding). one_if (p b)) (opening_binding x) (map opening_binding xs) ∙ rw (is x, count_by-opening p true is xs) (omega arith)
count_by-opening p false is (x ∷ xs) = sum_by-cons (λ (b : Binding). one_if (p b)) (opening_binding x) (map opening_binding xs) ∙ rw (is x, count_by-opening p false is xs) refl

-- there is one for each task
length-opening : (ids : List ℕ) → length (map opening_binding ids) ≡ length ids
length-opening [] = refl
length-opening (x ∷ xs) = ap suc (length-opening xs)

-- the count of the default group, where there is a task
opening_counts-suc : (n : ℕ) → opening_counts (suc n) ≡ record { group = default_gid; tasks = suc n } ∷ []
opening_counts-suc n = let some : nat_lt 0 (suc n) ≡ true = grind (arith, nat_tests) in rw some refl

-- the counts at the start
count_in-opening : (group : Gid) (tasks : ℕ) → count_in group (opening_counts tasks) ≡ (if 0 == group.0 then tasks else 0)
count_in-opening group zero = grind arith
count_in-opening group (suc n) =
    let one = sum_by-cons (λ (c : GroupCount). if c.group.0 == group.0 then c.tasks else 0) (record { group = default_gid; tasks = suc n }) [] in
    rw (opening_counts-suc n) (one ∙ omega arith)

count_in_all-opening : (tasks : ℕ) → count_in_all (opening_counts tasks) ≡ tasks
count_in_all-opening zero = refl
count_in_all-opening (suc n) = rw (opening_counts-suc n) (sum_by-cons (λ (c : GroupCount). c.tasks) (record { group = default_gid; tasks = suc n }) [] ∙ omega arith)

IsTable-opening : (tasks : ℕ) → IsTable (opening_counts tasks)
IsTable-opening zero = record { rising = λ i j d below within. absurd (omega arith); positive = λ k d within. absurd (omega arith) }
IsTable-opening (suc n) = rw (opening_counts-suc n) (record { rising = λ i j d below within. absurd (omega arith); positive = some })
  where
    some : All (λ (c : GroupCount). 0 < c.tasks) (record { group = default_gid; tasks = suc n } ∷ [])
    some zero d within = omega arith
    some (suc k) d within = absurd (omega arith)

AreCounts-opening : (is_of : Gid → Binding → Bool) → ((group : Gid) (id : ℕ) → is_of group (opening_binding id) ≡ eqb 0 group.0) → (ids : List ℕ) (capacity : ℕ) → length ids < capacity → AreCounts is_of (map opening_binding ids) (opening_counts (length ids)) capacity
AreCounts-opening is_of opens ids capacity room = record {
  table = IsTable-opening (length ids);
  each = λ group. count_in-opening group (length ids) ∙ sym (count_by-opening (is_of group) (eqb 0 group.0) (opens group) ids);
  all = count_in_all-opening (length ids) ∙ sym (length-opening ids);
  room = rw (length-opening ids) room;
}

-- the same of tables that are made so
pub AreCounts-created : (is_of : Gid → Binding → Bool) → ((group : Gid) (id : ℕ) → is_of group (opening_binding id) ≡ eqb 0 group.0) → (ids : List ℕ) (bindings : List Binding) (counts : List GroupCount) (tasks capacity : ℕ)
    → bindings ≡ map opening_binding ids → tasks ≡ length ids → counts ≡ opening_counts tasks → capacity ≡ tasks + 1 → AreCounts is_of bindings counts capacity
AreCounts-created is_of opens ids bindings counts tasks capacity made many counted room =
    let start = AreCounts-opening is_of opens ids capacity (omega (arith, room, many)) in
    let are : AreCounts is_of bindings (opening_counts (length ids)) capacity = subst (λ (xs : List Binding). AreCounts is_of xs (opening_counts (length ids)) capacity) (sym made) start in
    subst (λ (xs : List GroupCount). AreCounts is_of bindings xs capacity) (sym (counted ∙ ap opening_counts many)) are
