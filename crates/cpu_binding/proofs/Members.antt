-- Collecting the CPUs that pass a test into a set.
use Rattle.std.proofs.Common.{◌≡◌, ◌≢◌, ℕ, ◌+◌, ◌<◌, ◌≤◌, Bool, true, false, ◌==◌, List, length, get_or, sym, ap, ◌∙◌, inl, inr, arith}
use Rattle.std.proofs.lemmas.Bool.{cases_lt}
use Rattle.std.proofs.lemmas.List.{get_or_default}
use Rattle.std.proofs.lemmas.Nat.Bits.{bit_at-zero}
use Rattle.cpu_binding.specs.declared.groups.CpuGroups.{CpuGroups}
use Rattle.cpu_binding.specs.Sets.{has_cpu}

-- the set has the CPUs below n that pass
pub record Collected (test : CpuGroups → Bool) (groups : List CpuGroups) (set n : ℕ) : Type 0 where
  pub done : (k : ℕ) (d : CpuGroups) → k < n → has_cpu set k ≡ test (get_or groups k d)
  pub rest : (k : ℕ) → n ≤ k → has_cpu set k ≡ false

-- before the first CPU the set is empty
pub Collected-start : (test : CpuGroups → Bool) (groups : List CpuGroups) → Collected test groups 0 0
Collected-start test groups = record { done = λ k d h. absurd (omega arith); rest = λ k h. ap (λ n. n == 1) (bit_at-zero k) }

-- a CPU that passes the test is put in
pub Collected-yes : (test : CpuGroups → Bool) (groups : List CpuGroups) (set more n : ℕ) (e : CpuGroups) → n < length groups → test (get_or groups n e) ≡ true
    → has_cpu more n ≡ true → ((k : ℕ) → k ≢ n → has_cpu more k ≡ has_cpu set k) → Collected test groups set n → Collected test groups more (n + 1)
Collected-yes test groups set more n e within is same others c = record {
  done = λ k d h. elim (cases_lt k n) [
    | inl below ↦ (let other : k ≢ n = omega arith in others k other ∙ c.done k d below)
    | inr past ↦ (let here : k ≡ n = omega arith in rw here (same ∙ sym is ∙ ap test (get_or_default groups n e d within)))
  ];
  rest = λ k h. let other : k ≢ n = omega arith in others k other ∙ c.rest k (omega arith);
}

-- a CPU that does not is left out
pub Collected-no : (test : CpuGroups → Bool) (groups : List CpuGroups) (set n : ℕ) (e : CpuGroups) → n < length groups → test (get_or groups n e) ≡ false → Collected test groups set n → Collected test groups set (n + 1)
Collected-no test groups set n e within is c = record {
  done = λ k d h. elim (cases_lt k n) [
    | inl below ↦ c.done k d below
    | inr past ↦ (let here : k ≡ n = omega arith in rw here (c.rest n (omega arith) ∙ sym is ∙ ap test (get_or_default groups n e d within)))
  ];
  rest = λ k h. c.rest k (omega arith);
}
