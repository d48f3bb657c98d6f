-- Uses that are added one after the other.
use Rattle.std.proofs.Common.{◌≡◌, ℕ, ◌+◌, ◌≤◌, List, [], ◌∷◌, ◌++◌, length, Result, Ok, Err, refl, sym, ◌∙◌, arith, inl, inr, lt-ltb, le-ltb}
use Rattle.std.proofs.lemmas.Bool.{cases_lt}
use Rattle.std.proofs.lemmas.List.{append_assoc, append-nil, length-append}
use Rattle.pair_text.specs.declared.op.PairOp.{PairOp}
use Rattle.pair_text.specs.PairLines.{PairState, with_uses}
use Rattle.pair_text.specs.Readers.{Fails}
use Rattle.pair_text.specs.declared.fault.PairFault.{PairFault}
use Rattle.pair_text.specs.declared.fault.PairFault.TheVariants.{Line}
use Rattle.pair_text.specs.declared.stop.Stop.{Stop}
use Rattle.pair_text.specs.declared.stop.Stop.TheVariants as stops
use Rattle.script_lines.specs.declared.fault.LineFault.TheVariants.{TooLarge}

module _ (s : PairState) where
  -- the state with these uses more
  abbrev pub added : List PairOp → PairState
  added uses = record s { ops = s.ops ++ uses; uses = s.uses + length uses }

  -- none more
  pub added-none : added [] ≡ s
  added-none = let none : s.uses + 0 ≡ s.uses = omega arith in rw (none, append-nil s.ops) refl

  -- one more
  pub added-more : (uses : List PairOp) (u : PairOp) (t : PairState) → with_uses (added uses) 1 (u ∷ []) ≡ Ok t → t ≡ added (uses ++ u ∷ [])
  added-more uses u t is = elim (cases_lt 2000000 (s.uses + length uses + 1)) [
    | inl long ↦ absurd (let e : ◌≡◌ {A = Result PairState PairFault} (Err (Line TooLarge)) (Ok t) = rw (lt-ltb 2000000 (s.uses + length uses + 1) long) at is in cc)
    | inr fits ↦
        let after : PairState = record s { ops = (s.ops ++ uses) ++ u ∷ []; uses = s.uses + length uses + 1 } in
        let e : ◌≡◌ {A = Result PairState PairFault} (Ok after) (Ok t) = rw (le-ltb 2000000 (s.uses + length uses + 1) fits) at is in
        let same : after ≡ t = cc in
        let sum : s.uses + length uses + 1 ≡ s.uses + length (uses ++ u ∷ []) = omega (arith, length-append uses (u ∷ [])) in
        sym same ∙ rw (append_assoc s.ops uses (u ∷ []), sum) refl
  ]

  -- all of them at once, where they are not too many
  pub with_uses-added : (uses : List PairOp) (n : ℕ) → n ≡ length uses → s.uses + length uses ≤ 2000000 → with_uses s n uses ≡ Ok (added uses)
  with_uses-added uses n is fits = rw (is, le-ltb 2000000 (s.uses + length uses) fits) refl

  -- where some uses are too many for a later state, all are too many for an earlier one
  pub Fails-with_uses : (t : PairState) (u : PairOp) (uses : List PairOp) (n : ℕ) (stop : Stop) → t.uses + 1 ≤ s.uses + n → Fails stop (with_uses t 1 (u ∷ [])) → Fails stop (with_uses s n uses)
  Fails-with_uses t u uses n stops.NoMemory more fails = tt
  Fails-with_uses t u uses n (stops.Fault f) more fails = elim (cases_lt 2000000 (t.uses + 1)) [
    | inl long ↦
        let e : ◌≡◌ {A = Result PairState PairFault} (Err (Line TooLarge)) (Err f) = rw (lt-ltb 2000000 (t.uses + 1) long) at fails in
        rw (lt-ltb 2000000 (s.uses + n) (omega (arith, long, more))) e
    | inr fits ↦ absurd (let e : ◌≡◌ {A = Result PairState PairFault} (Ok (record t { ops = t.ops ++ u ∷ []; uses = t.uses + 1 })) (Err f) = rw (le-ltb 2000000 (t.uses + 1) fits) at fails in cc)
  ]
