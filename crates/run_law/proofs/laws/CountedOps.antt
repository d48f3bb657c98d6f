-- A list of entries is as long as its ops made entries.
use Rattle.std.proofs.Common.{◌≡◌, ℕ, zero, suc, ◌+◌, ◌<◌, ◌≤◌, Bool, true, false, inl, inr, List, [], ◌∷◌, length, filter, get_or, Some, refl, sym, ap, ◌∙◌, subst, arith}
use Rattle.std.specs.Prelude.{◌==◌, ◌&&◌, IsSome, slice_get, sum_by}
use Rattle.std.proofs.lemmas.Bool.{cases_Bool, eq-eqb, eqb-true}
use Rattle.std.proofs.lemmas.List.Sums.{sum_by-cons}
use Rattle.lists.specs.Sums.{one_if, sum_below}
use Rattle.lists.proofs.Sums.{sum_below-add, sum_below-same, sum_below-zero}
use Rattle.run_law.specs.Journals.{At}
use Rattle.script_ops.specs.Values.{ScriptValue, op_at, ops_of, threads_of}
use Rattle.script_ops.specs.declared.op.Op.{Op}

-- ---- sums

-- the first number of a sum
sum_below-first : (n : ℕ) (f : ℕ → ℕ) → sum_below (suc n) f ≡ f 0 + sum_below n (λ k. f (suc k))
sum_below-first zero f = omega arith
sum_below-first (suc n) f = let rest = sum_below-first n f in omega (arith, rest)

-- a sum over the places of a list is at most the sum over its elements, where each number is at most its element's
sum_below-list : {X : Type 0} (f : X → ℕ) (xs : List X) (g : ℕ → ℕ) → ((k : ℕ) (x : X) → At xs k x → g k ≤ f x) → sum_below (length xs) g ≤ sum_by f xs
sum_below-list f [] g each = omega arith
sum_below-list f (x ∷ xs) g each =
    let rest : sum_below (length xs) (λ k. g (suc k)) ≤ sum_by f xs = sum_below-list f xs (λ k. g (suc k)) (λ k y there. each (suc k) y there) in
    omega (arith, rest, each 0 x refl, sum_below-first (length xs) g, sum_by-cons f x xs)

-- a number is one of those below one once
sum_below-one : (n a : ℕ) → a < n → sum_below n (λ k. one_if (a == k)) ≡ 1
sum_below-one zero a below = absurd (omega arith)
sum_below-one (suc n) a below = elim (cases_Bool (a == n)) [
  | inl last ↦
      let none : sum_below n (λ k. one_if (a == k)) ≡ 0 = sum_below-zero n (λ k. one_if (a == k)) (λ k less. apart k (omega (arith, less, eqb-true a n last))) in
      rw last (omega (arith, none))
  | inr before ↦ rw before (omega (arith, sum_below-one n a (less before)))
]
  where
    apart : (k : ℕ) → k < a → one_if (a == k) ≡ 0
    apart k less = elim (cases_Bool (a == k)) [ inl same ↦ absurd (omega (arith, less, eqb-true a k same)) | inr differs ↦ rw differs refl ]

    less : (a == n) ≡ false → a < n
    less differs = elim (cases_Bool (a == n)) [ inl same ↦ absurd (let wrong : true ≡ false = sym same ∙ differs in cc) | inr other ↦ smaller (λ same. (let wrong : true ≡ false = sym (eq-eqb a n same) ∙ differs in cc)) ]
      where
        smaller : (a ≡ n → ⊥) → a < n
        smaller other = omega (arith, below, other)

-- ---- threads

-- a thread with an op is there
pub thread_within : (threads : List (List Op)) (t o : ℕ) → IsSome (slice_get (get_or threads t []) o) → t < length threads
thread_within [] t o some = absurd cc
thread_within (x ∷ threads) zero o some = omega arith
thread_within (x ∷ threads) (suc t) o some = omega (arith, thread_within threads t o some)

-- ---- entries by their ops

module _ {E : Type 0} (thread op : E → ℕ) where
  -- an entry is of op o of thread t
  abbrev is_by : ℕ → ℕ → E → Bool
  is_by t o e = (thread e == t) && (op e == o)

  -- how many entries are of it
  abbrev by_op : List E → ℕ → ℕ → ℕ
  by_op es t o = length (filter (is_by t o) es)

  by_op-cons : (e : E) (es : List E) (t o : ℕ) → by_op (e ∷ es) t o ≡ one_if (is_by t o e) + by_op es t o
  by_op-cons e es t o = elim (cases_Bool (is_by t o e)) [ inl here ↦ rw here (omega arith) | inr away ↦ rw away (omega arith) ]

  module _ (script : ScriptValue) where
    -- how many there are of all ops
    abbrev by_thread : List E → ℕ → ℕ
    by_thread es t = sum_below (length (ops_of script t)) (λ o. by_op es t o)

    abbrev of_all : List E → ℕ
    of_all es = sum_below (length (threads_of script)) (λ t. by_thread es t)

    -- one entry adds to its own thread
    one_more : (e : E) (es : List E) (t : ℕ) → IsSome (op_at script (thread e) (op e)) → by_thread (e ∷ es) t ≡ one_if (thread e == t) + by_thread es t
    one_more e es t there =
        let n : ℕ = length (ops_of script t) in
        let split : by_thread (e ∷ es) t ≡ sum_below n (λ o. one_if (is_by t o e)) + by_thread es t =
        sum_below-same n (λ o. by_op (e ∷ es) t o) (λ o. one_if (is_by t o e) + by_op es t o) (λ o less. by_op-cons e es t o) ∙ sum_below-add n (λ o. one_if (is_by t o e)) (λ o. by_op es t o) in
        elim (cases_Bool (thread e == t)) [
          | inl here ↦
              let within : op e < n = subst (λ u. op e < length (ops_of script u)) (eqb-true (thread e) t here) (get_within (ops_of script (thread e)) (op e) there) in
              let one : sum_below n (λ o. one_if (is_by t o e)) ≡ 1 = sum_below-same n (λ o. one_if (is_by t o e)) (λ o. one_if (op e == o)) (λ o less. rw here refl) ∙ sum_below-one n (op e) within in
              let mine : one_if (thread e == t) ≡ 1 = rw here refl in
              split ∙ ap (λ k. k + by_thread es t) (one ∙ sym mine)
          | inr away ↦
              let none : sum_below n (λ o. one_if (is_by t o e)) ≡ 0 = sum_below-zero n (λ o. one_if (is_by t o e)) (λ o less. rw away refl) in
              let other : one_if (thread e == t) ≡ 0 = rw away refl in
              split ∙ ap (λ k. k + by_thread es t) (none ∙ sym other)
        ]
      where
        get_within : (xs : List Op) (k : ℕ) → IsSome (slice_get xs k) → k < length xs
        get_within [] k some = absurd cc
        get_within (x ∷ xs) zero some = omega arith
        get_within (x ∷ xs) (suc k) some = omega (arith, get_within xs k some)

    -- where each entry is of an op, there are as many as of all ops
    length-of_all : (es : List E) → ((k : ℕ) (e : E) → At es k e → IsSome (op_at script (thread e) (op e))) → length es ≡ of_all es
    length-of_all [] each = sym (sum_below-zero (length (threads_of script)) (λ t. by_thread [] t) (λ t less. sum_below-zero (length (ops_of script t)) (λ o. by_op [] t o) (λ o below. refl)))
    length-of_all (e ∷ es) each =
        let count : ℕ = length (threads_of script) in
        let there = each 0 e refl in
        let rest : length es ≡ of_all es = length-of_all es (λ k x at. each (suc k) x at) in
        let split : of_all (e ∷ es) ≡ sum_below count (λ t. one_if (thread e == t)) + of_all es =
        sum_below-same count (λ t. by_thread (e ∷ es) t) (λ t. one_if (thread e == t) + by_thread es t) (λ t less. one_more e es t there) ∙ sum_below-add count (λ t. one_if (thread e == t)) (λ t. by_thread es t) in
        let one : sum_below count (λ t. one_if (thread e == t)) ≡ 1 = sum_below-one count (thread e) (thread_within (threads_of script) (thread e) (op e) there) in
        omega (arith, split, one, rest)

    -- where moreover each op has no more than its quota, there are no more than all quotas
    pub length-quotas : (quota : Op → ℕ) (es : List E) → ((k : ℕ) (e : E) → At es k e → IsSome (op_at script (thread e) (op e)))
        → ((t o : ℕ) (c : Op) → op_at script t o ≡ Some c → by_op es t o ≤ quota c) → length es ≤ sum_by (λ ops. sum_by quota ops) (threads_of script)
    length-quotas quota es each few =
        let all : of_all es ≤ sum_by (λ ops. sum_by quota ops) (threads_of script) = sum_below-list (λ ops. sum_by quota ops) (threads_of script) (λ t. by_thread es t)
        (λ t ops at.
        let is : ops_of script t ≡ ops = at_or (threads_of script) t ops at in
        subst (λ os. sum_below (length os) (λ o. by_op es t o) ≤ sum_by quota ops) (sym is)
        (sum_below-list quota ops (λ o. by_op es t o) (λ o c there. few t o c (subst (λ os. At os o c) (sym is) there)))) in
        omega (arith, all, length-of_all es each)
      where
        at_or : (threads : List (List Op)) (t : ℕ) (ops : List Op) → At threads t ops → get_or threads t [] ≡ ops
        at_or [] t ops at = absurd cc
        at_or (x ∷ threads) zero ops at = (let same : x ≡ ops = cc in same)
        at_or (x ∷ threads) (suc t) ops at = at_or threads t ops at
