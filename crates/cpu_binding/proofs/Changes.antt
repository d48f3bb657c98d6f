-- A walk over the CPUs that changes the groups of each.
use Rattle.std.proofs.Common.{◌≡◌, ◌≢◌, ℕ, ◌+◌, ◌<◌, ◌≤◌, List, length, take, set, get_or, refl, ap, ◌∙◌, inl, inr, arith, get_or-set_same, get_or-set_other, length-set, zero, suc, ◌∷◌, replicate}
use Rattle.std.proofs.lemmas.Bool.{cases_lt}
use Rattle.std.proofs.lemmas.List.{get_or_default}
use Rattle.cpu_binding.specs.declared.groups.CpuGroups.{CpuGroups}

-- the CPUs below n are changed, and the others are as they were
pub record ChangedTo (how : ℕ → CpuGroups → CpuGroups) (before after : List CpuGroups) (n : ℕ) : Type 0 where
  pub long : length after ≡ length before
  pub done : (k : ℕ) (d : CpuGroups) → k < n → get_or after k d ≡ how k (get_or before k d)
  pub rest : (k : ℕ) (d : CpuGroups) → n ≤ k → get_or after k d ≡ get_or before k d

-- at the start nothing has changed
pub ChangedTo-start : (how : ℕ → CpuGroups → CpuGroups) (before : List CpuGroups) → ChangedTo how before before 0
ChangedTo-start how before = record { long = refl; done = λ k d h. absurd (omega arith); rest = λ k d h. refl }

-- one place more has changed
pub ChangedTo-set : (how : ℕ → CpuGroups → CpuGroups) (before after : List CpuGroups) (n : ℕ) (e v : CpuGroups) → n < length after → v ≡ how n (get_or after n e) → ChangedTo how before after n → ChangedTo how before (set after n v) (n + 1)
ChangedTo-set how before after n e v within is c = record {
  long = length-set after n v ∙ c.long;
  done = λ k d h. elim (cases_lt k n) [
    | inl below ↦ (let other : k ≢ n = omega arith in get_or-set_other after n k v d other ∙ c.done k d below)
    | inr past ↦ (let same : k ≡ n = omega arith in
        rw same (get_or-set_same after n v d within ∙ is ∙ ap (how n) (get_or_default after n e d within ∙ c.rest n d (omega arith))))
  ];
  rest = λ k d h. let other : k ≢ n = omega arith in get_or-set_other after n k v d other ∙ c.rest k d (omega arith);
}

-- the first CPUs of a table that has the same groups everywhere
pub take-replicate : (n k : ℕ) (g : CpuGroups) → n ≤ k → take n (replicate k g) ≡ replicate n g
take-replicate zero k g h = refl
take-replicate (suc n) zero g h = absurd (omega arith)
take-replicate (suc n) (suc k) g h = ap (λ l. g ∷ l) (take-replicate n k g (omega arith))
