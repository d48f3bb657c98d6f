-- Where a sweep over the changes of a run stands.
use Rattle.std.proofs.Common.{◌≡◌, ℕ, suc, ◌+◌, ◌-◌, ◌*◌, ◌/◌, ◌<◌, ◌≤◌, List, [], ◌∷◌, ◌++◌, length, get_or, Option, Some, inl, inr, sym, subst, ap, ap₂, ◌∙◌, arith}
use Rattle.std.specs.Option.{option_map_or}
use Rattle.std.specs.Prelude.{slice_get}
use Rattle.std.proofs.Math.Nat.{mul-div-le, mul-div_cancel_left}
use Rattle.std.proofs.lemmas.Bool.{cases_lt}
use Rattle.std.proofs.lemmas.Option.{slice_get-get_or}
use Rattle.private_lru.specs.declared.exclusive_span.ExclusiveSpan.{ExclusiveSpan}
use Rattle.run_law.specs.Journals.{At}
use Rattle.run_windows.proofs.LongerLists.{At-push}
use Rattle.run_windows.specs.Sweeps.{IsSwept, Swept, swept, swept_over}
use Rattle.run_windows.specs.declared.changes.Past.{Past}
use Rattle.run_windows.specs.declared.sweep.Sweep.{Sweep}

-- where a sweep stands
pub swept-is : (s : Swept) (sweep : Sweep) → IsSwept s sweep → record { stays = sweep.stays.items; last = sweep.last } ≡ s
swept-is s sweep is = ap₂ {C = Swept} (λ (l : List ExclusiveSpan) (n : ℕ). record { stays = l; last = n }) is.0 is.1

-- one change further back
pub swept-suc : (domain end : ℕ) (ps : List Past) (k : ℕ) (p : Past) → slice_get ps (length ps - suc k) ≡ Some p → swept domain end ps (suc k) ≡ swept_over domain (swept domain end ps k) p
swept-suc domain end ps k p there = ap (λ (o : Option Past). option_map_or (swept_over domain (swept domain end ps k)) o (swept domain end ps k)) there

-- the same of what stands there
pub IsSwept-next : (domain end : ℕ) (ps : List Past) (k place : ℕ) (p : Past) (old new : Sweep) → k < length ps → place ≡ length ps - 1 - k → p ≡ get_or ps place p → IsSwept (swept domain end ps k) old
    → IsSwept (swept_over domain (record { stays = old.stays.items; last = old.last }) p) new → IsSwept (swept domain end ps (k + 1)) new
IsSwept-next domain end ps k place p old new within at is was made =
    let one : suc k ≡ k + 1 = omega arith in
    let there : slice_get ps (length ps - suc k) ≡ Some p =
    subst (λ n. slice_get ps n ≡ Some p) (omega (arith, at, within)) (slice_get-get_or ps place p (omega (arith, at, within)) ∙ ap (λ (x : Past). Some x) (sym is)) in
    subst (λ n. IsSwept (swept domain end ps n) new) one
    (subst (λ (s : Swept). IsSwept s new) (sym (swept-suc domain end ps k p there))
    (subst (λ (s : Swept). IsSwept (swept_over domain s p) new) (swept-is (swept domain end ps k) old was) made))

-- ---- kept sweeps

-- one more is kept, where as many changes were gone over as those before it need
pub marks-push : (domain end : ℕ) (ps : List Past) (k : ℕ) (old now : List Sweep) (x : Sweep) → ((i : ℕ) (m : Sweep) → At old i m → IsSwept (swept domain end ps (32 * i + 1)) m) → k ≡ 32 * length old
    → IsSwept (swept domain end ps (k + 1)) x → now ≡ old ++ x ∷ [] → (i : ℕ) (m : Sweep) → At now i m → IsSwept (swept domain end ps (32 * i + 1)) m
marks-push domain end ps k old now x were place is made i m there = elim (At-push old x i m (subst (λ (l : List Sweep). At l i m) made there)) [
  | inl h ↦ were i m h
  | inr h ↦
      let at : k ≡ 32 * i = let n = h.0 in omega (arith, n, place) in
      subst (λ n. IsSwept (swept domain end ps (n + 1)) m) at (subst (λ (s : Sweep). IsSwept (swept domain end ps (k + 1)) s) (sym h.1) is)
]

-- so many are kept when the next one is due
pub marks-due : (k n : ℕ) → k / 32 ≡ n → k ≤ 32 * n → k ≡ 32 * n
marks-due k n is most = let whole = mul-div-le k 32 in let same : 32 * (k / 32) ≡ 32 * n = ap (λ i. 32 * i) is in omega (arith, whole, same, most)

-- and else more than were gone over
pub marks-early : (k n : ℕ) → (k / 32 ≡ n → ⊥) → k ≤ 32 * n → k + 1 ≤ 32 * n
marks-early k n isnt most = elim (cases_lt k (32 * n)) [
  | inl lt ↦ omega (arith, lt)
  | inr ge ↦ absurd (isnt (let all : k ≡ 32 * n = omega (arith, ge, most) in ap (λ i. i / 32) all ∙ mul-div_cancel_left n (omega arith)))
]
