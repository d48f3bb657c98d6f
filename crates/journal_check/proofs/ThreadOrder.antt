-- Ops of a thread that end before others begin.
use Rattle.std.proofs.Common.{◌≡◌, ℕ, ◌+◌, ◌<◌, ◌≤◌, inl, inr, List, refl, ap, ◌∙◌, subst, arith}
use Rattle.std.proofs.lemmas.Bool.{cases_lt}
use Rattle.journal_check.specs.Marks.{IsThreadEnd, IsThreadInOrder, IsThreadInOrderUpTo, stop_of}
use Rattle.run_law.specs.Journals.{At}
use Rattle.script_ops.specs.declared.op.Op.{Op}

-- an op ends when it began or after
stop_of-ge : (c : Op) (n : ℕ) → n ≤ stop_of c n
stop_of-ge c n = omega arith

-- at the start
pub IsThreadInOrder-zero : (ops : List Op) (starts : List ℕ) (barrier : ℕ) → IsThreadInOrderUpTo ops starts barrier 0
IsThreadInOrder-zero ops starts barrier = record {
  after_barrier = λ o n within at. absurd (omega arith);
  chain = λ o p n m c less within is at there. absurd (omega arith);
}

pub IsThreadEnd-zero : (ops : List Op) (starts : List ℕ) (barrier : ℕ) → IsThreadEnd ops starts barrier 0 barrier
IsThreadEnd-zero ops starts barrier = record {
  after_barrier = omega arith;
  after_ops = λ o n c within is at. absurd (omega arith);
  there = inl refl;
}

module _ (ops : List Op) (starts : List ℕ) (barrier count end start : ℕ) (c : Op) (is : At ops count c) (at : At starts count start) where
  -- one op more, which began after the others
  pub IsThreadInOrder-suc : end ≤ start → IsThreadEnd ops starts barrier count end → IsThreadInOrderUpTo ops starts barrier count → IsThreadInOrderUpTo ops starts barrier (count + 1)
  IsThreadInOrder-suc later ended order = record {
    after_barrier = λ o n within here. elim (cases_lt o count) [
      | inl before ↦ order.after_barrier o n before here
      | inr after ↦
          let last : o ≡ count = omega arith in
          let there : At starts count n = subst (λ k. At starts k n) last here in
          let same : n ≡ start = cc in
          let bound = ended.after_barrier in
          omega arith
    ];
    chain = λ o p n m d less within is_d here there. elim (cases_lt p count) [
      | inl before ↦ order.chain o p n m d less before is_d here there
      | inr after ↦
          let last : p ≡ count = omega arith in
          let there_too : At starts count m = subst (λ k. At starts k m) last there in
          let same : m ≡ start = cc in
          let bound = ended.after_ops o n d (omega arith) is_d here in
          omega arith
    ];
  }

  -- and its end is the last
  pub IsThreadEnd-suc : end ≤ start → IsThreadEnd ops starts barrier count end → IsThreadEnd ops starts barrier (count + 1) (stop_of c start)
  IsThreadEnd-suc later ended = record {
    after_barrier = (let bound = ended.after_barrier in omega arith);
    after_ops = λ o n d within is_d here. elim (cases_lt o count) [
      | inl before ↦ (let bound = ended.after_ops o n d before is_d here in omega arith)
      | inr after ↦
          let last : o ≡ count = omega arith in
          let there : At starts count n = subst (λ k. At starts k n) last here in
          let same : n ≡ start = cc in
          let its : At ops count d = subst (λ k. At ops k d) last is_d in
          let one : d ≡ c = cc in
          let ends : stop_of d n ≡ stop_of c start = ap (λ x. stop_of x n) one ∙ ap (stop_of c) same in
          omega arith
    ];
    there = inr (count, start, c, omega arith, is, at, refl);
  }

  -- an op that began before the end of the others
  pub early-not_in_order : start < end → IsThreadEnd ops starts barrier count end → IsThreadInOrder ops starts barrier → ⊥
  early-not_in_order early ended order = elim ended.there [
    | inl none ↦ (let bound = order.after_barrier count start at in omega arith)
    | inr it ↦ (let bound = order.chain it.0 count it.1 start it.2 it.3 it.4 it.5 at in let last = it.6 in omega arith)
  ]

-- all ops
pub IsThreadInOrder-all : (ops : List Op) (starts : List ℕ) (barrier count : ℕ) → ((o n : ℕ) → At starts o n → o < count) → IsThreadInOrderUpTo ops starts barrier count → IsThreadInOrder ops starts barrier
IsThreadInOrder-all ops starts barrier count all order = record {
  after_barrier = λ o n at. order.after_barrier o n (all o n at) at;
  chain = λ o p n m c less is at there. order.chain o p n m c less (all p m there) is at there;
}
