-- How long the lists of a run are, by how many entries each op has in them.
use Rattle.std.proofs.Common.{◌≡◌, ℕ, zero, suc, ◌+◌, ◌*◌, ◌<◌, ◌≤◌, Bool, true, List, [], ◌∷◌, length, filter, Option, Some, None, inl, inr, refl, sym, subst, ap, arith}
use Rattle.std.specs.Prelude.{IsSome, slice_get, slice_index_or}
use Rattle.std.specs.List.{sum_by}
use Rattle.std.proofs.Math.Nat.{mul-add, mul-le-mul_left, mul-suc}
use Rattle.std.proofs.lemmas.Bool.{cases_Bool}
use Rattle.std.proofs.lemmas.List.Sums.{sum_by-cons}
use Rattle.std.proofs.lemmas.Option.{slice_get_within}
use Rattle.machine.specs.declared.parameters.Parameters.{Parameters}
use Rattle.run_law.specs.Journals.{At}
use Rattle.script_ops.specs.Values.{ScriptValue, op_at, threads_of}
use Rattle.script_ops.proofs.laws.Weights.{length-weights_of}
use Rattle.script_ops.specs.Weights.{weights_of}
use Rattle.script_ops.specs.declared.op.Op.{Op}

-- a filter passes no fewer where there is one more
length-filter_cons : {E : Type 0} (p : E → Bool) (x : E) (xs : List E) → length (filter p xs) ≤ length (filter p (x ∷ xs))
length-filter_cons p x xs = elim (cases_Bool (p x)) [
  | inl is ↦ rw is (omega arith)
  | inr isnt ↦ rw isnt (omega arith)
]

-- and one more that passes
length-filter_cons_true : {E : Type 0} (p : E → Bool) (x : E) (xs : List E) → p x ≡ true → length (filter p xs) + 1 ≤ length (filter p (x ∷ xs))
length-filter_cons_true p x xs is = rw is (omega arith)

-- Entries by the numbers of their thread and op, and whether an entry is of an op.
module _ {E : Type 0} (thread_of op_of : E → ℕ) (is_of : ℕ → ℕ → E → Bool) (own : (x : E) → is_of (thread_of x) (op_of x) x ≡ true) where
  -- how often ops of a thread stand in a list, from op number o on
  abbrev of_thread : ℕ → ℕ → List Op → List E → ℕ
  of_thread t o [] xs = 0
  of_thread t o (c ∷ cs) xs = length (filter (is_of t o) xs) + of_thread t (o + 1) cs xs

  -- the same of all threads, from thread number t on
  abbrev of_threads : ℕ → List (List Op) → List E → ℕ
  of_threads t [] xs = 0
  of_threads t (ops ∷ rest) xs = of_thread t 0 ops xs + of_threads (t + 1) rest xs

  own-at : (t o : ℕ) (x : E) → thread_of x ≡ t → op_of x ≡ o → is_of t o x ≡ true
  own-at t o x a b = subst (λ n. is_of n o x ≡ true) a (subst (λ n. is_of (thread_of x) n x ≡ true) b (own x))

  of_thread-cons : (t o : ℕ) (cs : List Op) (x : E) (xs : List E) → of_thread t o cs xs ≤ of_thread t o cs (x ∷ xs)
  of_thread-cons t o [] x xs = omega arith
  of_thread-cons t o (c ∷ cs) x xs = omega (arith, length-filter_cons (is_of t o) x xs, of_thread-cons t (o + 1) cs x xs)

  of_threads-cons : (t : ℕ) (all : List (List Op)) (x : E) (xs : List E) → of_threads t all xs ≤ of_threads t all (x ∷ xs)
  of_threads-cons t [] x xs = omega arith
  of_threads-cons t (ops ∷ rest) x xs = omega (arith, of_thread-cons t 0 ops x xs, of_threads-cons (t + 1) rest x xs)

  of_thread-cons_op : (t o : ℕ) (cs : List Op) (x : E) (xs : List E) (k : ℕ) → k < length cs → thread_of x ≡ t → op_of x ≡ o + k → of_thread t o cs xs + 1 ≤ of_thread t o cs (x ∷ xs)
  of_thread-cons_op t o [] x xs k within a b = absurd (omega arith)
  of_thread-cons_op t o (c ∷ cs) x xs zero within a b =
      let here : op_of x ≡ o = omega arith in
      omega (arith, length-filter_cons_true (is_of t o) x xs (own-at t o x a here), of_thread-cons t (o + 1) cs x xs)
  of_thread-cons_op t o (c ∷ cs) x xs (suc k) within a b =
      omega (arith, length-filter_cons (is_of t o) x xs, of_thread-cons_op t (o + 1) cs x xs k (omega arith) a (omega arith))

  of_threads-cons_op : (t : ℕ) (all : List (List Op)) (x : E) (xs : List E) (i : ℕ) (ops : List Op) → slice_get all i ≡ Some ops → thread_of x ≡ t + i → op_of x < length ops
      → of_threads t all xs + 1 ≤ of_threads t all (x ∷ xs)
  of_threads-cons_op t [] x xs i ops there a within = absurd cc
  of_threads-cons_op t (its ∷ rest) x xs zero ops there a within =
      let same : its ≡ ops = cc in
      let here : thread_of x ≡ t = omega arith in
      omega (arith, of_thread-cons_op t 0 its x xs (op_of x) (subst (λ (os : List Op). op_of x < length os) (sym same) within) here (omega arith), of_threads-cons (t + 1) rest x xs)
  of_threads-cons_op t (its ∷ rest) x xs (suc i) ops there a within =
      omega (arith, of_thread-cons t 0 its x xs, of_threads-cons_op (t + 1) rest x xs i ops there (omega arith) within)

  -- each entry is of an op of these threads
  abbrev AreThere : List (List Op) → List E → Type 0
  AreThere all xs = (k : ℕ) (x : E) → At xs k x → (ops : List Op) × (slice_get all (thread_of x) ≡ Some ops) × (op_of x < length ops)

  -- so that all entries are counted
  length-of_threads : (all : List (List Op)) (xs : List E) → AreThere all xs → length xs ≤ of_threads 0 all xs
  length-of_threads all [] there = omega arith
  length-of_threads all (x ∷ xs) there =
      let it = there 0 x refl in
      omega (arith, length-of_threads all xs (λ k y h. there (suc k) y h), of_threads-cons_op 0 all x xs (thread_of x) it.0 it.1 (omega arith) it.2)

  -- each op of a thread has at most so many
  of_thread-le : (most t o : ℕ) (cs : List Op) (xs : List E) → ((k : ℕ) (c : Op) → slice_get cs k ≡ Some c → length (filter (is_of t (o + k)) xs) ≤ most) → of_thread t o cs xs ≤ most * length cs
  of_thread-le most t o [] xs few = omega arith
  of_thread-le most t o (c ∷ cs) xs few =
      let here : o + 0 ≡ o = omega arith in
      let first : length (filter (is_of t o) xs) ≤ most = subst (λ n. length (filter (is_of t n) xs) ≤ most) here (few 0 c refl) in
      let rest : of_thread t (o + 1) cs xs ≤ most * length cs =
      of_thread-le most t (o + 1) cs xs (λ k d h. let e : o + suc k ≡ (o + 1) + k = omega arith in subst (λ n. length (filter (is_of t n) xs) ≤ most) e (few (suc k) d h)) in
      let more = mul-suc most (length cs) in
      omega (arith, first, rest, more)

  -- and so each of all
  of_threads-le : (m : Parameters) (most t : ℕ) (all : List (List Op)) (xs : List E) → ((i : ℕ) (os : List Op) → slice_get all i ≡ Some os → of_thread (t + i) 0 os xs ≤ most * length os)
      → of_threads t all xs ≤ most * sum_by (weights_of m) all
  of_threads-le m most t [] xs few = omega arith
  of_threads-le m most t (its ∷ rest) xs few =
      let here : t + 0 ≡ t = omega arith in
      let first : of_thread t 0 its xs ≤ most * length its = subst (λ n. of_thread n 0 its xs ≤ most * length its) here (few 0 its refl) in
      let others : of_threads (t + 1) rest xs ≤ most * sum_by (weights_of m) rest =
      of_threads-le m most (t + 1) rest xs (λ i os h. let e : t + suc i ≡ (t + 1) + i = omega arith in subst (λ n. of_thread n 0 os xs ≤ most * length os) e (few (suc i) os h)) in
      let heavy : most * length its ≤ most * weights_of m its = mul-le-mul_left most (length-weights_of m its) in
      let parts = mul-add most (weights_of m its) (sum_by (weights_of m) rest) in
      let whole = ap (λ n. most * n) (sum_by-cons (weights_of m) its rest) in
      omega (arith, first, others, heavy, parts, whole)

  -- a list in which each entry is of an op of the script, and each op has at most so many
  pub length-le : (script : ScriptValue) (most : ℕ) (xs : List E) → ((k : ℕ) (x : E) → At xs k x → IsSome (op_at script (thread_of x) (op_of x)))
      → ((t o : ℕ) (c : Op) → op_at script t o ≡ Some c → length (filter (is_of t o) xs) ≤ most) → length xs ≤ most * sum_by (weights_of script.machine) (threads_of script)
  length-le script most xs there few =
      let counted = length-of_threads (threads_of script) xs (λ k x at. slice_get-thread_of_op (threads_of script) (thread_of x) (op_of x) (op_at script (thread_of x) (op_of x)) refl (there k x at)) in
      let all = of_threads-le script.machine most 0 (threads_of script) xs each in
      omega (arith, counted, all)
    where
      -- an op that is there
      slice_get-thread_of_op : (all : List (List Op)) (t o : ℕ) (c : Option Op) → slice_get (slice_index_or all t []) o ≡ c → IsSome c → (ops : List Op) × (slice_get all t ≡ Some ops) × (o < length ops)
      slice_get-thread_of_op all t o None h some = absurd cc
      slice_get-thread_of_op [] t o (Some c) h some = absurd cc
      slice_get-thread_of_op (ops ∷ rest) zero o (Some c) h some = (ops, refl, slice_get_within ops o c h)
      slice_get-thread_of_op (ops ∷ rest) (suc t) o (Some c) h some = slice_get-thread_of_op rest t o (Some c) h some

      -- its thread is there
      slice_index_or-slice_get : (all : List (List Op)) (t : ℕ) (ops : List Op) → slice_get all t ≡ Some ops → slice_index_or all t [] ≡ ops
      slice_index_or-slice_get [] t ops h = absurd cc
      slice_index_or-slice_get (its ∷ rest) zero ops h = cc
      slice_index_or-slice_get (its ∷ rest) (suc t) ops h = slice_index_or-slice_get rest t ops h

      each : (i : ℕ) (os : List Op) → slice_get (threads_of script) i ≡ Some os → of_thread (0 + i) 0 os xs ≤ most * length os
      each i os h =
          let first : 0 + i ≡ i = omega arith in
          let its : of_thread i 0 os xs ≤ most * length os =
          of_thread-le most i 0 os xs (λ k c at. let e : 0 + k ≡ k = omega arith in
          subst (λ n. length (filter (is_of i n) xs) ≤ most) (sym e) (few i k c (subst (λ (l : List Op). slice_get l k ≡ Some c) (sym (slice_index_or-slice_get (threads_of script) i os h)) at))) in
          subst (λ t. of_thread t 0 os xs ≤ most * length os) (sym first) its
