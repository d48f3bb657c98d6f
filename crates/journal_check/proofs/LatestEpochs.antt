-- The greatest epochs of the entries so far, with one more.
use Rattle.std.proofs.Common.{◌≡◌, ℕ, ◌+◌, ◌<◌, ◌≤◌, ◌⊎◌, inl, inr, max, true, false, List, refl, sym, ap, ◌∙◌, subst, arith}
use Rattle.std.specs.Prelude.{IsSome, IsTrue}
use Rattle.std.proofs.lemmas.Bool.{cases_Bool, cases_lt, lt-ltb, le-ltb}
use Rattle.cache_core.specs.declared.entry.SliceEntry.{SliceEntry}
use Rattle.journal_check.specs.AfterCommands.{IsLatest, IsOther, IsPassed, noted}
use Rattle.journal_check.specs.declared.after_commands.TwoLatestEpochs.{TwoLatestEpochs}
use Rattle.run_law.proofs.laws.Pairs.{both_eqb-same, both_eqb-true}
use Rattle.run_law.specs.Journals.{At}
use Rattle.run_law.specs.Truth.{is_made_by}
use Rattle.script_ops.specs.Values.{ScriptValue, op_at}

-- what passed before is one of the first n, or the one more
pub IsPassed-suc : (script : ScriptValue) (entries : List SliceEntry) (n p : ℕ) (e x : SliceEntry) → At entries n e → IsPassed script entries (n + 1) p x → IsPassed script entries n p x ⊎ ((p ≡ n) × (x ≡ e))
IsPassed-suc script entries n p e x at passed = elim (cases_lt p n) [
  | inl before ↦ inl (record { within = before; there = passed.there; of_op = passed.of_op })
  | inr after ↦
      let here : p ≡ n = let within = passed.within in omega arith in
      let there : At entries n x = subst (λ i. At entries i x) here passed.there in
      inr (here, (let same : x ≡ e = cc in same))
]

-- what passed is still there
IsPassed-more : (script : ScriptValue) (entries : List SliceEntry) (n p : ℕ) (x : SliceEntry) → IsPassed script entries n p x → IsPassed script entries (n + 1) p x
IsPassed-more script entries n p x passed = record { within = (let within = passed.within in omega arith); there = passed.there; of_op = passed.of_op }

-- two entries of one op
pub made_by-same : (t o : ℕ) (x e : SliceEntry) → IsTrue (is_made_by t o x) → IsTrue (is_made_by t o e) → IsTrue (is_made_by e.thread e.op x)
made_by-same t o x e a b =
    let first = both_eqb-true x.thread t x.op o a in
    let second = both_eqb-true e.thread t e.op o b in
    both_eqb-same x.thread e.thread x.op e.op (first.0 ∙ sym second.0) (first.1 ∙ sym second.1)

-- an entry of no op of the script
pub IsLatest-skip : (script : ScriptValue) (entries : List SliceEntry) (n : ℕ) (l : TwoLatestEpochs) (e : SliceEntry) → At entries n e → (IsSome (op_at script e.thread e.op) → ⊥) → IsLatest script entries n l → IsLatest script entries (n + 1) l
IsLatest-skip script entries n l e at none latest = record {
  epochs = λ p x passed. latest.epochs p x (old p x passed);
  others = λ p x passed other. latest.others p x (old p x passed) other;
  epoch_there = elim latest.epoch_there [ inl none ↦ inl none | inr some ↦ inr (some.0, some.1, IsPassed-more script entries n some.0 some.1 some.2, some.3, some.4) ];
  other_there = elim latest.other_there [ inl none ↦ inl none | inr some ↦ inr (some.0, some.1, IsPassed-more script entries n some.0 some.1 some.2, some.3, some.4) ];
}
  where
    old : (p : ℕ) (x : SliceEntry) → IsPassed script entries (n + 1) p x → IsPassed script entries n p x
    old p x passed = elim (IsPassed-suc script entries n p e x at passed) [
      | inl before ↦ before
      | inr here ↦ absurd (none (subst (λ (y : SliceEntry). IsSome (op_at script y.thread y.op)) here.1 passed.of_op))
    ]

module _ (script : ScriptValue) (entries : List SliceEntry) (n : ℕ) (l : TwoLatestEpochs) (e : SliceEntry) (at : At entries n e) (of_op : IsSome (op_at script e.thread e.op)) (latest : IsLatest script entries n l) where
  -- the entry passes
  here_passes : IsPassed script entries (n + 1) n e
  here_passes = record { within = omega arith; there = at; of_op = of_op }

  -- an entry of the same op
  IsLatest-same : IsTrue (is_made_by l.thread l.op e) → IsLatest script entries (n + 1) (record l { epoch = max l.epoch e.epoch })
  IsLatest-same own = record {
    epochs = λ p x passed. elim (IsPassed-suc script entries n p e x at passed) [
      | inl before ↦ (let old = latest.epochs p x before in omega arith)
      | inr here ↦ (let same : x.epoch ≡ e.epoch = ap (λ (y : SliceEntry). y.epoch) here.1 in omega arith)
    ];
    others = λ p x passed other. elim (IsPassed-suc script entries n p e x at passed) [
      | inl before ↦ latest.others p x before other
      | inr here ↦ absurd (other (subst (λ (y : SliceEntry). IsTrue (is_made_by l.thread l.op y)) (sym here.1) own))
    ];
    epoch_there = elim (cases_lt l.epoch e.epoch) [
      | inl less ↦ inr (n, e, here_passes, own, omega arith)
      | inr more ↦ elim latest.epoch_there [
        | inl none ↦ inl (omega arith)
        | inr some ↦ inr (some.0, some.1, IsPassed-more script entries n some.0 some.1 some.2, some.3, (let is = some.4 in omega arith))
      ]
    ];
    other_there = elim latest.other_there [ inl none ↦ inl none | inr some ↦ inr (some.0, some.1, IsPassed-more script entries n some.0 some.1 some.2, some.3, some.4) ];
  }

  -- one of another op, of a greater epoch
  IsLatest-greater : IsOther l.thread l.op e → l.epoch < e.epoch → IsLatest script entries (n + 1) (record { thread = e.thread; op = e.op; epoch = e.epoch; other = l.epoch })
  IsLatest-greater other greater = record {
    epochs = λ p x passed. elim (IsPassed-suc script entries n p e x at passed) [
      | inl before ↦ (let old = latest.epochs p x before in omega arith)
      | inr here ↦ (let same : x.epoch ≡ e.epoch = ap (λ (y : SliceEntry). y.epoch) here.1 in omega arith)
    ];
    others = λ p x passed apart. elim (IsPassed-suc script entries n p e x at passed) [
      | inl before ↦ latest.epochs p x before
      | inr here ↦ absurd (apart (subst (λ (y : SliceEntry). IsTrue (is_made_by e.thread e.op y)) (sym here.1) (both_eqb-same e.thread e.thread e.op e.op refl refl)))
    ];
    epoch_there = inr (n, e, here_passes, both_eqb-same e.thread e.thread e.op e.op refl refl, refl);
    other_there = elim latest.epoch_there [
      | inl none ↦ inl none
      | inr some ↦ inr (
        some.0,
        some.1,
        IsPassed-more script entries n some.0 some.1 some.2,
        (λ mine. other (let mine_too = both_eqb-true some.1.thread e.thread some.1.op e.op mine in
            let its = both_eqb-true some.1.thread l.thread some.1.op l.op some.3 in
            both_eqb-same e.thread l.thread e.op l.op (sym mine_too.0 ∙ its.0) (sym mine_too.1 ∙ its.1))),
        some.4,
      )
    ];
  }

  -- one of another op, of no greater epoch
  IsLatest-other : IsOther l.thread l.op e → e.epoch ≤ l.epoch → IsLatest script entries (n + 1) (record l { other = max l.other e.epoch })
  IsLatest-other other small = record {
    epochs = λ p x passed. elim (IsPassed-suc script entries n p e x at passed) [
      | inl before ↦ latest.epochs p x before
      | inr here ↦ (let same : x.epoch ≡ e.epoch = ap (λ (y : SliceEntry). y.epoch) here.1 in omega arith)
    ];
    others = λ p x passed apart. elim (IsPassed-suc script entries n p e x at passed) [
      | inl before ↦ (let old = latest.others p x before apart in omega arith)
      | inr here ↦ (let same : x.epoch ≡ e.epoch = ap (λ (y : SliceEntry). y.epoch) here.1 in omega arith)
    ];
    epoch_there = elim latest.epoch_there [ inl none ↦ inl none | inr some ↦ inr (some.0, some.1, IsPassed-more script entries n some.0 some.1 some.2, some.3, some.4) ];
    other_there = elim (cases_lt l.other e.epoch) [
      | inl less ↦ inr (n, e, here_passes, other, omega arith)
      | inr more ↦ elim latest.other_there [
        | inl none ↦ inl (omega arith)
        | inr some ↦ inr (some.0, some.1, IsPassed-more script entries n some.0 some.1 some.2, some.3, (let is = some.4 in omega arith))
      ]
    ];
  }

  -- whichever it is
  pub IsLatest-noted : IsLatest script entries (n + 1) (noted l e)
  IsLatest-noted = elim (cases_Bool (is_made_by l.thread l.op e)) [
    | inl own ↦ rw own (IsLatest-same own)
    | inr apart ↦
        let other : IsOther l.thread l.op e = λ own. absurd (let wrong : true ≡ false = sym own ∙ apart in cc) in
        elim (cases_lt l.epoch e.epoch) [
          | inl less ↦ rw (apart, lt-ltb l.epoch e.epoch less) (IsLatest-greater other less)
          | inr more ↦ rw (apart, le-ltb l.epoch e.epoch more) (IsLatest-other other more)
        ]
  ]

-- before the first entry
pub IsLatest-zero : (script : ScriptValue) (entries : List SliceEntry) (l : TwoLatestEpochs) → l.epoch ≡ 0 → l.other ≡ 0 → IsLatest script entries 0 l
IsLatest-zero script entries l none also = record {
  epochs = λ p e passed. absurd (let within = passed.within in omega arith);
  others = λ p e passed apart. absurd (let within = passed.within in omega arith);
  epoch_there = inl none;
  other_there = inl also;
}
