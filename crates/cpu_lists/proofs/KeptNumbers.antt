-- What the numbers that were kept say of all numbers of a text.
use Rattle.std.proofs.Common.{◌≡◌, ℕ, ◌-◌, ◌^◌, ◌<◌, ◌≤◌, min, true, false, inl, inr, List, Some, None, Err, sym, ap, subst, ◌∙◌, arith}
use Rattle.std.specs.Prelude.{IsOkAnd}
use Rattle.std.proofs.lemmas.Bool.{cases_lt}
use Rattle.cpu_lists.specs.declared.fault.CpuFault.TheVariants.{NotACpu}
use Rattle.cpu_lists.specs.declared.numbers.Numbers.{Numbers}
use Rattle.cpu_lists.specs.Sets.{has, is_among, answer_of, IsSetOf}
use Rattle.cpu_lists.specs.Collected.{IsLeastFrom, IsBeyond, Collects}
use Rattle.cpu_lists.proofs.Bits.{has-above, lt-pow_from_bits}
use Rattle.cpu_lists.proofs.LeastNumbers.{answer_of-stranger, answer_of-all}

module _ (numbers : List ℕ) (kept : Numbers) (cpus : ℕ) where
  -- none of the numbers from here up to another is kept
  abbrev pub NoneUpTo : ℕ → Type 0
  NoneUpTo n = (k : ℕ) → cpus ≤ k → k < n → has kept.low k ≡ false

  -- a number below 64 that is no CPU
  pub answer_of-stranger_low : (n : ℕ) → Collects (is_among numbers) kept → cpus ≤ n → n < 64 → has kept.low n ≡ true → NoneUpTo n → answer_of cpus (Some numbers) ≡ Err (NotACpu n)
  answer_of-stranger_low n c le lt there none =
      let short : min n (2 ^ 64 - 1) ≡ n = omega arith in
      answer_of-stranger cpus n numbers (record {
        within = le;
        passes = sym (c.low n lt) ∙ there;
        before = λ k from before. sym (c.low k (omega arith)) ∙ none k from before;
      }) ∙ ap (λ (m : ℕ). Err (NotACpu m)) short

  -- no number below 64 is no CPU
  is_among-none_low : (first : ℕ) → Collects (is_among numbers) kept → IsLeastFrom 64 (is_among numbers) first → NoneUpTo 64 → (k : ℕ) → cpus ≤ k → k < first → is_among numbers k ≡ false
  is_among-none_low first c least none k from lt = elim (cases_lt k 64) [
    | inl under ↦ sym (c.low k under) ∙ none k from under
    | inr over ↦ least.before k over lt
  ]

  -- a number from 64 on, which is no CPU
  pub answer_of-stranger_high : (n : ℕ) → Collects (is_among numbers) kept → cpus ≤ 64 → kept.high ≡ Some n → NoneUpTo 64 → answer_of cpus (Some numbers) ≡ Err (NotACpu n)
  answer_of-stranger_high n c few is none = by (subst (IsBeyond (is_among numbers)) is c.high)
    where
      by : IsBeyond (is_among numbers) (Some n) → answer_of cpus (Some numbers) ≡ Err (NotACpu n)
      by (first, least, e) = answer_of-stranger cpus first numbers (record {
        within = (let le = least.within in omega arith);
        passes = least.passes;
        before = is_among-none_low first c least none;
      }) ∙ ap (λ (m : ℕ). Err (NotACpu m)) (sym e)

  -- all numbers are CPUs
  pub answer_of-all_cpus : Collects (is_among numbers) kept → kept.low < 2 ^ 64 → kept.high ≡ None → NoneUpTo 64 → IsOkAnd (answer_of cpus (Some numbers)) (λ (ns : List ℕ). IsSetOf ns kept.low)
  answer_of-all_cpus c small is none = rw (answer_of-all cpus numbers absent) same
    where
      beyond : (k : ℕ) → 64 ≤ k → is_among numbers k ≡ false
      beyond = subst (IsBeyond (is_among numbers)) is c.high

      absent : (k : ℕ) → cpus ≤ k → is_among numbers k ≡ false
      absent k from = elim (cases_lt k 64) [
        | inl under ↦ sym (c.low k under) ∙ none k from under
        | inr over ↦ beyond k over
      ]

      same : IsSetOf numbers kept.low
      same k = elim (cases_lt k 64) [
        | inl under ↦ c.low k under
        | inr over ↦ has-above kept.low 64 k small over ∙ sym (beyond k over)
      ]

  -- then the set is one of CPUs
  pub low-lt_pow : kept.low < 2 ^ 64 → NoneUpTo 64 → kept.low < 2 ^ cpus
  low-lt_pow small none = lt-pow_from_bits kept.low cpus (λ k from. elim (cases_lt k 64) [
    | inl under ↦ none k from under
    | inr over ↦ has-above kept.low 64 k small over
  ])
