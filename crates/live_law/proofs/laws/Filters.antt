-- Where the elements stand that pass a test.
use Rattle.std.proofs.Common.{◌≡◌, ℕ, zero, suc, ◌<◌, Bool, true, inl, inr, List, [], ◌∷◌, length, filter, take, drop, refl, ap, ◌∙◌, arith}
use Rattle.std.proofs.lemmas.Bool.{cases_Bool, cases_lt}
use Rattle.std.proofs.lemmas.List.{length-take-le, take-append-drop}
use Rattle.std.proofs.lemmas.Option.{slice_get_within}
use Rattle.run_law.specs.Journals.{At}
use Rattle.run_law.proofs.laws.StandingEntries.{less_in_front}
use Rattle.live_law.proofs.laws.Prefixes.{At-prefix_front}

module _ {A : Type 0} where
  -- what passes stands among those that pass
  pub At-filter : (p : A → Bool) (xs : List A) (k : ℕ) (x : A) → At xs k x → p x ≡ true → (q : ℕ) × At (filter p xs) q x
  At-filter p [] k x at passes = absurd cc
  At-filter p (y ∷ xs) zero x at passes =
      let same : y ≡ x = cc in
      let mine : p y ≡ true = ap p same ∙ passes in
      (0, rw mine at)
  At-filter p (y ∷ xs) (suc k) x at passes =
      let rest : (q : ℕ) × At (filter p xs) q x = At-filter p xs k x at passes in
      elim (cases_Bool (p y)) [
        | inl also ↦ (suc rest.0, rw also rest.1)
        | inr other ↦ (rest.0, rw other rest.1)
      ]

  -- where some pass, one of them stands there
  pub At-filter_some : (p : A → Bool) (xs : List A) → 0 < length (filter p xs) → (k : ℕ) × (x : A) × At xs k x × (p x ≡ true)
  At-filter_some p [] some = absurd (omega arith)
  At-filter_some p (y ∷ xs) some = elim (cases_Bool (p y)) [
    | inl passes ↦ (0, y, refl, passes)
    | inr other ↦
        let fewer : 0 < length (filter p xs) = rw other at some in
        let rest = At-filter_some p xs fewer in
        (suc rest.0, rest.1, rest.2, rest.3)
  ]

  -- where just one passes, no two do
  once-apart : (p : A → Bool) (xs : List A) (k l : ℕ) (x y : A)
      → k < l → At xs k x → p x ≡ true → At xs l y → p y ≡ true → length (filter p xs) ≡ 1
      → ⊥
  once-apart p xs k l x y before at passes there also once =
      let within : l < length xs = slice_get_within xs l y there in
      let long : length (take l xs) ≡ l = length-take-le l xs (omega (arith, within)) in
      let front : At (take l xs) k x =
      At-prefix_front (take l xs) xs k x (drop l xs, take-append-drop l xs) at (omega (arith, before, long)) in
      omega (arith, less_in_front p (take l xs) 0 k x front (omega arith) passes, less_in_front p xs l l y there (omega arith) also, once)

  -- so it stands at one position
  pub At-once : (p : A → Bool) (xs : List A) (k l : ℕ) (x y : A)
      → length (filter p xs) ≡ 1 → At xs k x → p x ≡ true → At xs l y → p y ≡ true
      → k ≡ l
  At-once p xs k l x y once at passes there also = elim (cases_lt k l) [
    | inl before ↦ absurd (once-apart p xs k l x y before at passes there also once)
    | inr after ↦ elim (cases_lt l k) [
      | inl before ↦ absurd (once-apart p xs l k y x before there also at passes once)
      | inr same ↦ omega (arith, after, same)
    ]
  ]
