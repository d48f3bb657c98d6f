-- Bindings whose tasks rise: each task stands at one place at most.
use Rattle.std.proofs.Common.{◌≡◌, ◌≢◌, ℕ, zero, suc, ◌+◌, ◌<◌, ◌≤◌, Bool, List, [], ◌∷◌, length, map, set, get_or, filter, All, Some, None, refl, sym, ap, ◌∙◌, arith, inl, inr}
use Rattle.std.specs.List.{AllWithin}
use Rattle.std.specs.List.Sorted.{IsStrictlyIncreasing}
use Rattle.std.proofs.lemmas.Bool.{eq-eqb, ne_eqb}
use Rattle.std.proofs.lemmas.Bool.{cases_lt}
use Rattle.std.proofs.lemmas.List.{get_or_default}
use Rattle.std.proofs.lemmas.List.Kept.{AllPairs-filter, AllPairs-from_increasing}
use Rattle.task_binding.specs.declared.binding.Binding.{Binding}
use Rattle.task_binding.specs.Bindings.{AreRising, binding_of, changed, is_of, opening_binding}

-- all but the first rise
AreRising-tail : (x : Binding) (xs : List Binding) → AreRising (x ∷ xs) → AreRising xs
AreRising-tail x xs rising = λ i j d below within. rising (suc i) (suc j) d (omega arith) (omega arith)

-- the first task is below all others
AreRising-head : (x : Binding) (xs : List Binding) → AreRising (x ∷ xs) → (k : ℕ) (d : Binding) → k < length xs → x.task < (get_or xs k d).task
AreRising-head x xs rising k d within = rising zero (suc k) d (omega arith) (omega arith)

-- a task that no binding has
pub binding_of-none : (task : ℕ) (xs : List Binding) → All (λ b. b.task ≢ task) xs → binding_of task xs ≡ None
binding_of-none task [] all = refl
binding_of-none task (x ∷ xs) all =
    let other = ne_eqb x.task task (all zero x (omega arith)) in
    rw other (binding_of-none task xs (λ k d h. all (suc k) d (omega arith)))

-- the binding at the task's place is the task's
pub binding_of-at : (task : ℕ) (xs : List Binding) (i : ℕ) (d : Binding) → AreRising xs → i < length xs → (get_or xs i d).task ≡ task → binding_of task xs ≡ Some (get_or xs i d)
binding_of-at task [] i d rising h at = absurd (omega arith)
binding_of-at task (x ∷ xs) zero d rising h at = let is = eq-eqb x.task task at in rw is refl
binding_of-at task (x ∷ xs) (suc i) d rising h at =
    let below = AreRising-head x xs rising i d (omega arith) in
    let other = ne_eqb x.task task (λ (e : x.task ≡ task). omega (arith, below, at)) in
    rw other (binding_of-at task xs i d (AreRising-tail x xs rising) (omega arith) at)

-- no later binding is of a task below
changed-above : (task : ℕ) (how : Binding → Binding) (xs : List Binding) → ((k : ℕ) (d : Binding) → k < length xs → task < (get_or xs k d).task) → changed (is_of task) how xs ≡ xs
changed-above task how [] above = refl
changed-above task how (x ∷ xs) above =
    let over = above zero x (omega arith) in
    let other = ne_eqb x.task task (λ (e : x.task ≡ task). omega (arith, over)) in
    rw (other, changed-above task how xs (λ k d h. above (suc k) d (omega arith))) refl

-- a change of a task's binding is a write at its place
pub set-changed : (task : ℕ) (how : Binding → Binding) (xs : List Binding) (i : ℕ) (d : Binding) → AreRising xs → i < length xs → (get_or xs i d).task ≡ task
    → set xs i (how (get_or xs i d)) ≡ changed (is_of task) how xs
set-changed task how [] i d rising h at = absurd (omega arith)
set-changed task how (x ∷ xs) zero d rising h at =
    let is = eq-eqb x.task task at in
    rw (is, changed-above task how xs (λ k e within. let below = AreRising-head x xs rising k e within in omega (arith, below, at))) refl
set-changed task how (x ∷ xs) (suc i) d rising h at =
    let below = AreRising-head x xs rising i d (omega arith) in
    let other = ne_eqb x.task task (λ (e : x.task ≡ task). omega (arith, below, at)) in
    rw other (ap (λ l. x ∷ l) (set-changed task how xs i d (AreRising-tail x xs rising) (omega arith) at))

-- the tasks of rising bindings, as numbers
IsStrictlyIncreasing-tasks : (xs : List Binding) → AreRising xs → IsStrictlyIncreasing (map (λ b. b.task) xs)
IsStrictlyIncreasing-tasks [] rising k h = absurd (omega arith)
IsStrictlyIncreasing-tasks (x ∷ []) rising k h = absurd (omega arith)
IsStrictlyIncreasing-tasks (x ∷ y ∷ ys) rising zero h = rising 0 1 x (omega arith) (omega arith)
IsStrictlyIncreasing-tasks (x ∷ y ∷ ys) rising (suc k) h = let e : suc k + 1 ≡ suc (k + 1) = omega arith in
    rw e (IsStrictlyIncreasing-tasks (y ∷ ys) (AreRising-tail x (y ∷ ys) rising) k (omega arith))

-- so do those of some of them
pub IsStrictlyIncreasing-filter : (p : Binding → Bool) (xs : List Binding) → AreRising xs → IsStrictlyIncreasing (map (λ b. b.task) (filter p xs))
IsStrictlyIncreasing-filter p xs rising = IsStrictlyIncreasing-tasks (filter p xs) (AllPairs-filter (λ a b. a.task < b.task) p xs rising)

-- a binding at the start is that of its task
get_or-opening_binding : (ids : List ℕ) (i : ℕ) (d : Binding) → i < length ids → (get_or (map opening_binding ids) i d).task ≡ get_or ids i 0
get_or-opening_binding [] i d h = absurd (omega arith)
get_or-opening_binding (x ∷ xs) zero d h = refl
get_or-opening_binding (x ∷ xs) (suc i) d h = get_or-opening_binding xs i d (omega arith)

-- there is one for each task
length-opening_binding : (ids : List ℕ) → length (map opening_binding ids) ≡ length ids
length-opening_binding [] = refl
length-opening_binding (x ∷ xs) = ap suc (length-opening_binding xs)

-- the bindings at the start rise
pub AreRising-opening : (ids : List ℕ) → IsStrictlyIncreasing ids → AreRising (map opening_binding ids)
AreRising-opening ids rising i j d below within =
    let long = length-opening_binding ids in
    let first = get_or-opening_binding ids i d (omega arith) in
    let second = get_or-opening_binding ids j d (omega arith) in
    let pair = AllPairs-from_increasing ids rising i j 0 below (omega arith) in
    omega (arith, first, second, pair)

-- all up to a binding that is below the task are below it, and all from one that is not on are not
pub get_or-task_below : (task : ℕ) (xs : List Binding) (n : ℕ) (e : Binding) → AreRising xs → n < length xs → (get_or xs n e).task < task → (k : ℕ) (d : Binding) → k < n + 1 → (get_or xs k d).task < task
get_or-task_below task xs n e rising within at k d h =
    let here : get_or xs n d ≡ get_or xs n e = get_or_default xs n d e within in
    let top : (get_or xs n d).task < task = rw here at in
    elim (cases_lt k n) [ inl lower ↦ (let pair = rising k n d lower within in omega (arith, pair, top)) | inr past ↦ (let same : k ≡ n = omega arith in rw same top) ]

-- all from a greater task on are greater
pub get_or-task_above : (task : ℕ) (xs : List Binding) (n : ℕ) (e : Binding) → AreRising xs → task ≤ (get_or xs n e).task → (k : ℕ) (d : Binding) → n ≤ k → k < length xs → task ≤ (get_or xs k d).task
get_or-task_above task xs n e rising at k d h within =
    let here : get_or xs n d ≡ get_or xs n e = get_or_default xs n d e (omega arith) in
    let low : task ≤ (get_or xs n d).task = rw here at in
    elim (cases_lt n k) [ inl higher ↦ (let pair = rising n k d higher within in omega (arith, pair, low)) | inr past ↦ (let same : k ≡ n = omega arith in rw same low) ]

-- where the first task that is not below is another, none is the task
pub All-task_differs : (task : ℕ) (xs : List Binding) (n : ℕ) (e : Binding) → AreRising xs → AllWithin (λ b. b.task < task) xs 0 n → AllWithin (λ b. task ≤ b.task) xs n (length xs)
    → ((get_or xs n e).task ≡ task → ⊥) → All (λ b. b.task ≢ task) xs
All-task_differs task xs n e rising below above other k d h same =
    elim (cases_lt k n) [
      | inl lower ↦ absurd (let b = below k d (omega arith) lower in omega (arith, b, same))
      | inr past ↦ elim (cases_lt n k) [
        | inl higher ↦ absurd (let pair = rising n k d higher h in let a = above n d (omega arith) (omega arith) in omega (arith, pair, a, same))
        | inr exact ↦ (let at : k ≡ n = omega arith in let here : get_or xs n d ≡ get_or xs n e = get_or_default xs n d e (omega arith) in
            other (sym (ap (λ (b : Binding). b.task) here) ∙ ap (λ i. (get_or xs i d).task) (sym at) ∙ same))
      ]
    ]
