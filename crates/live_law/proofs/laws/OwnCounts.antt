-- How many entries a thread has of its own: the sum of what its ops have.
use Rattle.std.proofs.Common.{◌≡◌, ◌≢◌, ℕ, zero, suc, ◌+◌, ◌<◌, ◌≤◌, Bool, inl, inr, List, [], ◌∷◌, length, filter, take, get_or, sum_by, Some, refl, ap, ◌∙◌, arith}
use Rattle.std.specs.Prelude.{◌==◌, ◌&&◌, nat_lt}
use Rattle.std.proofs.lemmas.Bool.{cases_Bool, cases_lt, eqb-false, eqb-true, le-ltb, lt-ltb, ne_eqb}
use Rattle.std.proofs.lemmas.List.Sums.{sum_by_more}
use Rattle.std.proofs.lemmas.Option.{slice_get-get_or}
use Rattle.run_law.specs.Journals.{At}
use Rattle.script_ops.specs.Values.{ScriptValue, op_at, ops_of}
use Rattle.script_ops.specs.declared.op.Op.{Op}
use Rattle.script_ops.specs.declared.op.Op.TheVariants.{Access}

-- entries by their threads and ops
module _ {E : Type 0} (thread op : E → ℕ) where
  -- whether an entry is of thread t
  abbrev pub is_of : ℕ → E → Bool
  is_of t e = thread e == t

  -- whether it is of op n of that thread
  abbrev pub is_of_op : ℕ → ℕ → E → Bool
  is_of_op t n e = (thread e == t) && (op e == n)

  -- whether it is of an op of that thread before op n
  abbrev pub is_of_first : ℕ → ℕ → E → Bool
  is_of_first t n e = (thread e == t) && nat_lt (op e) n

  -- of one op more
  pub length-first_next : (t n : ℕ) (es : List E)
      → length (filter (is_of_first t (suc n)) es) ≡ length (filter (is_of_first t n) es) + length (filter (is_of_op t n) es)
  length-first_next t n [] = omega arith
  length-first_next t n (e ∷ es) =
      let rest = length-first_next t n es in
      elim (cases_Bool (thread e == t)) [
        | inr other ↦ rw other rest
        | inl mine ↦ elim (cases_lt (op e) n) [
          | inl less ↦
              let next : op e < suc n = omega (arith, less) in
              rw (mine, lt-ltb (op e) n less, lt-ltb (op e) (suc n) next, ne_eqb (op e) n (λ same. omega (arith, same, less)))
              (omega (arith, rest))
          | inr more ↦ elim (cases_Bool (op e == n)) [
            | inl here ↦
                let next : op e < suc n = omega (arith, eqb-true (op e) n here) in
                rw (mine, here, le-ltb (op e) n more, lt-ltb (op e) (suc n) next) (omega (arith, rest))
            | inr away ↦
                let apart : op e ≢ n = eqb-false (op e) n away in
                rw (mine, away, le-ltb (op e) n more, le-ltb (op e) (suc n) (omega (arith, more, apart))) rest
          ]
        ]
      ]

  -- of none
  pub length-first_none : (t : ℕ) (es : List E) → length (filter (is_of_first t 0) es) ≡ 0
  length-first_none t [] = refl
  length-first_none t (e ∷ es) = elim (cases_Bool (thread e == t)) [
    | inr other ↦ rw other (length-first_none t es)
    | inl mine ↦ rw (mine, le-ltb (op e) 0 (omega arith)) (length-first_none t es)
  ]

  -- where all of the thread's are of ops before op n, these are all
  pub length-first_all : (t n : ℕ) (es : List E)
      → ((k : ℕ) (e : E) → At es k e → thread e ≡ t → op e < n)
      → length (filter (is_of t) es) ≡ length (filter (is_of_first t n) es)
  length-first_all t n [] below = refl
  length-first_all t n (e ∷ es) below =
      let rest = length-first_all t n es (λ k x at. below (suc k) x at) in
      elim (cases_Bool (thread e == t)) [
        | inr other ↦ rw other rest
        | inl mine ↦ rw (mine, lt-ltb (op e) n (below 0 e refl (eqb-true (thread e) t mine))) (omega (arith, rest))
      ]

  module _ (script : ScriptValue) (t : ℕ) (f : Op → ℕ) (es : List E) where
    -- an op for positions past the end
    no_op : Op
    no_op = Access 0 0 0

    -- op n is that at its position
    next_op : (n : ℕ) → suc n ≤ length (ops_of script t) → op_at script t n ≡ Some (get_or (ops_of script t) n no_op)
    next_op n fits = slice_get-get_or (ops_of script t) n no_op (omega (arith, fits))

    -- a sum with it
    next_sum : (n : ℕ) → suc n ≤ length (ops_of script t)
        → sum_by f (take (suc n) (ops_of script t)) ≡ sum_by f (take n (ops_of script t)) + f (get_or (ops_of script t) n no_op)
    next_sum n fits =
        let next : suc n ≡ n + 1 = omega arith in
        ap (λ k. sum_by f (take k (ops_of script t))) next ∙ sum_by_more f (ops_of script t) n no_op (omega (arith, fits))

    -- where each op has at most so many, the first ops have at most their sum
    pub length-first_few : (n : ℕ)
        → n ≤ length (ops_of script t) → ((o : ℕ) (c : Op) → o < n → op_at script t o ≡ Some c → length (filter (is_of_op t o) es) ≤ f c)
        → length (filter (is_of_first t n) es) ≤ sum_by f (take n (ops_of script t))
    length-first_few zero fits each = omega (arith, length-first_none t es)
    length-first_few (suc n) fits each =
        let rest = length-first_few n (omega (arith, fits)) (λ o c less is. each o c (omega (arith, less)) is) in
        let last = each n (get_or (ops_of script t) n no_op) (omega arith) (next_op n fits) in
        omega (arith, rest, last, next_sum n fits, length-first_next t n es)

    -- where each has just so many, the first ops have their sum
    pub length-first_same : (n : ℕ)
        → n ≤ length (ops_of script t) → ((o : ℕ) (c : Op) → o < n → op_at script t o ≡ Some c → length (filter (is_of_op t o) es) ≡ f c)
        → length (filter (is_of_first t n) es) ≡ sum_by f (take n (ops_of script t))
    length-first_same zero fits each = length-first_none t es
    length-first_same (suc n) fits each =
        let rest = length-first_same n (omega (arith, fits)) (λ o c less is. each o c (omega (arith, less)) is) in
        let last = each n (get_or (ops_of script t) n no_op) (omega arith) (next_op n fits) in
        omega (arith, rest, last, next_sum n fits, length-first_next t n es)
