-- Entries in the order of their ops, one after the other.
use Rattle.std.proofs.Common.{◌≡◌, ℕ, ◌+◌, ◌<◌, ◌≤◌, ◌⊎◌, inl, inr, List, length, set, refl, sym, ap, ◌∙◌, subst, arith}
use Rattle.std.specs.Prelude.{slice_index}
use Rattle.std.proofs.lemmas.Bool.{cases_eq, cases_lt}
use Rattle.std.proofs.lemmas.List.{get_or-set_other, get_or-set_same}
use Rattle.cache_core.specs.declared.entry.SliceEntry.{SliceEntry}
use Rattle.journal_check.specs.Orders.{AreOrdered, HasPassed}
use Rattle.run_law.specs.Journals.{At}
use Rattle.run_law.specs.Ops.{Precedes, phase_in}
use Rattle.script_ops.specs.Values.{ScriptValue}

-- a position below the next is one below this, or this
At-suc : (entries : List SliceEntry) (n p : ℕ) (e x : SliceEntry) → At entries n e → p < n + 1 → At entries p x → (p < n) ⊎ ((p ≡ n) × (x ≡ e))
At-suc entries n p e x at within there = elim (cases_lt p n) [
  | inl before ↦ inl before
  | inr after ↦
      let here : p ≡ n = omega arith in
      let there_too : At entries n x = subst (λ i. At entries i x) here there in
      inr (here, (let same : x ≡ e = cc in same))
]

-- none passed yet
pub HasPassed-zero : (script : ScriptValue) (entries : List SliceEntry) (last : List ℕ) → ((t : ℕ) → slice_index last t ≡ 0) → HasPassed script entries 0 0 last
HasPassed-zero script entries last zero = record {
  ordered = λ p q e later below also there here before. absurd (omega arith);
  phases = λ p e below there. absurd (omega arith);
  ops = λ p e below there. absurd (omega arith);
  of_phase = inl refl;
  of_op = λ t. inl (zero t);
}

-- all passed
pub AreOrdered-passed : (script : ScriptValue) (entries : List SliceEntry) (n phase : ℕ) (last : List ℕ) → ((p : ℕ) (e : SliceEntry) → At entries p e → p < n) → HasPassed script entries n phase last → AreOrdered script entries
AreOrdered-passed script entries n phase last all passed = λ p q e later there here before. passed.ordered p q e later (all p e there) (all q later here) there here before

module _ (script : ScriptValue) (entries : List SliceEntry) (n phase : ℕ) (last : List ℕ) (e : SliceEntry) (at : At entries n e) (passed : HasPassed script entries n phase last) where
  -- an entry of an earlier phase than one before it
  pub early_phase-not_ordered : phase_in script.phases e.thread < phase → AreOrdered script entries → ⊥
  early_phase-not_ordered early ordered = elim passed.of_phase [
    | inl none ↦ omega arith
    | inr it ↦
        let is = it.4 in
        let below = it.2 in
        let wrong : n < it.0 = ordered n it.0 e it.1 at it.3 (inr (omega arith)) in
        omega arith
  ]

  -- an entry of an earlier op of its thread than one before it
  pub early_op-not_ordered : e.op < slice_index last e.thread → AreOrdered script entries → ⊥
  early_op-not_ordered early ordered = elim (passed.of_op e.thread) [
    | inl none ↦ omega arith
    | inr it ↦
        let is = it.5 in
        let below = it.2 in
        let wrong : n < it.0 = ordered n it.0 e it.1 at it.3 (inl (sym it.4, omega arith)) in
        omega arith
  ]

  -- one entry more, neither of an earlier phase nor of an earlier op
  pub HasPassed-suc : phase ≤ phase_in script.phases e.thread → slice_index last e.thread ≤ e.op → e.thread < length last → HasPassed script entries (n + 1) (phase_in script.phases e.thread) (set last e.thread e.op)
  HasPassed-suc of_phase of_op within = record {
    ordered = λ p q x later below also there here before. elim (At-suc entries n p e x at below there) [
      | inl first ↦ elim (At-suc entries n q e later at also here) [
        | inl second ↦ passed.ordered p q x later first second there here before
        | inr last_one ↦ omega (arith, first, last_one.0)
      ]
      | inr own ↦ elim (At-suc entries n q e later at also here) [
        | inl second ↦ absurd (no_later q later second here (subst (λ (y : SliceEntry). Precedes script y.thread y.op later.thread later.op) own.1 before))
        | inr both ↦ absurd (not_itself (subst (λ (y : SliceEntry). Precedes script e.thread e.op y.thread y.op) both.1 (subst (λ (y : SliceEntry). Precedes script y.thread y.op later.thread later.op) own.1 before)))
      ]
    ];
    phases = λ p x below there. elim (At-suc entries n p e x at below there) [
      | inl first ↦ (let old = passed.phases p x first there in omega arith)
      | inr own ↦ (let is : phase_in script.phases x.thread ≡ phase_in script.phases e.thread = ap (λ (y : SliceEntry). phase_in script.phases y.thread) own.1 in omega arith)
    ];
    ops = λ p x below there. elim (At-suc entries n p e x at below there) [
      | inl first ↦ elim (cases_eq x.thread e.thread) [
        | inl mine ↦
            let old = passed.ops p x first there in
            let had : slice_index last x.thread ≡ slice_index last e.thread = ap (slice_index last) mine in
            let now : slice_index (set last e.thread e.op) x.thread ≡ e.op = ap (slice_index (set last e.thread e.op)) mine ∙ get_or-set_same last e.thread e.op 0 within in
            omega arith
        | inr other ↦
            let old = passed.ops p x first there in
            let now : slice_index (set last e.thread e.op) x.thread ≡ slice_index last x.thread = get_or-set_other last e.thread x.thread e.op 0 other in
            omega arith
      ]
      | inr own ↦
          let mine : x.thread ≡ e.thread = ap (λ (y : SliceEntry). y.thread) own.1 in
          let same : x.op ≡ e.op = ap (λ (y : SliceEntry). y.op) own.1 in
          let now : slice_index (set last e.thread e.op) x.thread ≡ e.op = ap (slice_index (set last e.thread e.op)) mine ∙ get_or-set_same last e.thread e.op 0 within in
          omega arith
    ];
    of_phase = inr (n, e, omega arith, at, refl);
    of_op = λ t. elim (cases_eq t e.thread) [
      | inl mine ↦
          let now : slice_index (set last e.thread e.op) t ≡ e.op = ap (slice_index (set last e.thread e.op)) mine ∙ get_or-set_same last e.thread e.op 0 within in
          inr (n, e, omega arith, at, sym mine, sym now)
      | inr other ↦
          let now : slice_index (set last e.thread e.op) t ≡ slice_index last t = get_or-set_other last e.thread t e.op 0 other in
          elim (passed.of_op t) [
            | inl none ↦ inl (now ∙ none)
            | inr it ↦ inr (it.0, it.1, (let below = it.2 in omega arith), it.3, it.4, it.5 ∙ sym now)
          ]
    ];
  }
    where
      not_itself : Precedes script e.thread e.op e.thread e.op → ⊥
      not_itself (inl same) = omega (arith, same.1)
      not_itself (inr earlier) = omega (arith, earlier)

      no_later : (q : ℕ) (later : SliceEntry) → q < n → At entries q later → Precedes script e.thread e.op later.thread later.op → ⊥
      no_later q later below there (inl same) = (let old = passed.ops q later below there in let had : slice_index last later.thread ≡ slice_index last e.thread = ap (slice_index last) (sym same.0) in omega (arith, same.1))
      no_later q later below there (inr earlier) = (let old = passed.phases q later below there in omega (arith, earlier))
