-- The entries of accesses, as far as a walk through the slices has come.
use Rattle.std.proofs.Common.{◌≡◌, ℕ, ◌+◌, ◌<◌, ◌≤◌, inl, inr, List, [], ◌∷◌, ◌++◌, length, get_or, Some, refl, sym, subst, arith}
use Rattle.std.specs.Prelude.{Contains, slice_get}
use Rattle.std.proofs.lemmas.Bool.{cases_lt}
use Rattle.std.proofs.lemmas.List.Elements.{Contains-append_left, Contains-append_right}
use Rattle.std.proofs.lemmas.Option.{get_or_from_slice_get, slice_get-get_or, slice_get_within}
use Rattle.cache_core.specs.declared.entry.SliceEntry.{SliceEntry}
use Rattle.journal_check.specs.Asks.{AreAsks, IsAskOf, IsAsked}
use Rattle.journal_check.specs.declared.asks.Ask.{Ask}
use Rattle.run_law.proofs.laws.Positions.{At-append, At-one}
use Rattle.run_law.specs.Journals.{At, JournalsValue, slice_at}
use Rattle.script_ops.specs.Values.{ScriptValue}

-- no slice yet
pub AreAsks-zero : (script : ScriptValue) (j : JournalsValue) → AreAsks script j 0 0 []
AreAsks-zero script j = record {
  each = λ i d below. absurd (omega (arith, below));
  every = λ a p e seen at asked. absurd (elim seen [ inl before ↦ omega (arith, before) | inr here ↦ (let low = here.1 in omega arith) ]);
}

module _ (script : ScriptValue) (j : JournalsValue) (i n : ℕ) (asks : List Ask) (e : SliceEntry) (at : At (slice_at j i) n e) (old : AreAsks script j i n asks) where
  -- an entry that is none
  pub AreAsks-skip : (IsAsked script e → ⊥) → AreAsks script j i (n + 1) asks
  AreAsks-skip none = record {
    each = old.each;
    every = λ a p x seen there asked. elim seen [
      | inl before ↦ old.every a p x (inl before) there asked
      | inr here ↦ elim (cases_lt p n) [
        | inl earlier ↦ old.every a p x (inr (here.0, earlier)) there asked
        | inr late ↦ absurd (
            let low = here.1 in
            let last : p ≡ n = omega (arith, low, late) in
            let it : At (slice_at j i) n x = subst (λ k. At (slice_at j i) k x) last (subst (λ b. At (slice_at j b) p x) here.0 there) in
            let same : x ≡ e = cc in
            none (subst (λ (y : SliceEntry). IsAsked script y) same asked))
      ]
    ];
  }

  -- one more
  pub AreAsks-more : i < length j.slices → IsAsked script e → AreAsks script j i (n + 1) (asks ++ (record { epoch = e.epoch; slice = i; position = n }) ∷ [])
  AreAsks-more inside asked = record {
    each = λ k d below.
        let all = asks ++ ask ∷ [] in
        let there : slice_get all k ≡ Some (get_or all k d) = slice_get-get_or all k d below in
        elim (At-append asks (ask ∷ []) k (get_or all k d) there) [
          | inl front ↦ subst (λ (x : Ask). IsAskOf script j x) (get_or_from_slice_get asks k (get_or all k d) d front) (old.each k d (slice_get_within asks k (get_or all k d) front))
          | inr back ↦ subst (λ (x : Ask). IsAskOf script j x) (sym (At-one ask _ (get_or all k d) back.1).1) own
        ];
    every = λ a p x seen there want. elim seen [
      | inl before ↦ Contains-append_left asks (ask ∷ []) _ (old.every a p x (inl before) there want)
      | inr here ↦ elim (cases_lt p n) [
        | inl earlier ↦ Contains-append_left asks (ask ∷ []) _ (old.every a p x (inr (here.0, earlier)) there want)
        | inr late ↦
            let low = here.1 in
            let last : p ≡ n = omega (arith, low, late) in
            let it : At (slice_at j i) n x = subst (λ k. At (slice_at j i) k x) last (subst (λ b. At (slice_at j b) p x) here.0 there) in
            let same : x ≡ e = cc in
            let is : ask ≡ (record { epoch = x.epoch; slice = a; position = p }) = (let f = here.0 in cc) in
            Contains-append_right asks (ask ∷ []) _ (subst (λ (y : Ask). Contains (ask ∷ []) y) is (0, omega arith, refl))
      ]
    ];
  }
    where
      ask : Ask
      ask = record { epoch = e.epoch; slice = i; position = n }

      own : IsAskOf script j ask
      own = record { entry = e; inside = inside; there = at; same_epoch = refl; asked = asked }

-- a slice is done
pub AreAsks-slice : (script : ScriptValue) (j : JournalsValue) (i n : ℕ) (asks : List Ask) → length (slice_at j i) ≤ n → AreAsks script j i n asks → AreAsks script j (i + 1) 0 asks
AreAsks-slice script j i n asks over old = record {
  each = old.each;
  every = λ a p x seen there asked. elim seen [
    | inl before ↦ elim (cases_lt a i) [
      | inl earlier ↦ old.every a p x (inl earlier) there asked
      | inr late ↦
          let here : a ≡ i = omega (arith, before, late) in
          let within = slice_get_within (slice_at j i) p x (subst (λ b. At (slice_at j b) p x) here there) in
          old.every a p x (inr (here, omega (arith, within, over))) there asked
    ]
    | inr none ↦ absurd (let low = none.1 in omega arith)
  ];
}
