-- A segment, op by op.
use Rattle.std.proofs.Common.{◌≡◌, ℕ, zero, suc, ◌+◌, ◌-◌, ◌<◌, ◌≤◌, Bool, true, false, List, [], ◌∷◌, ◌++◌, length, get_or, Option, None, Some, inl, inr, refl, subst, ap, ◌∙◌, arith}
use Rattle.std.specs.Prelude.{◌==◌}
use Rattle.std.specs.List.{flat_map, range_with_len}
use Rattle.std.proofs.lemmas.Bool.{cases_Bool, cases_lt}
use Rattle.std.proofs.lemmas.Grind.{flat_map-append}
use Rattle.std.proofs.lemmas.List.{append-nil, length-append}
use Rattle.std.proofs.lemmas.Option.{slice_get-get_or, slice_get_within}
use Rattle.cache_core.specs.declared.entry.SliceEntry.{SliceEntry}
use Rattle.pair_windows.specs.DomainWalks.{IsQuiet}
use Rattle.pair_windows.specs.Joined.{joined, joined_at, joined_of_op}
use Rattle.pair_windows.specs.Segments.{IsSegment, is_end}
use Rattle.pair_text.specs.Values.{PairScriptValue, op_at}
use Rattle.pair_text.specs.declared.op.PairOp.{PairOp}
use Rattle.pair_text.specs.declared.op.PairOp.TheVariants as ops
use Rattle.pair_text.specs.declared.side.Side.TheVariants.{Second}
use Rattle.pair_law.proofs.laws.Cuts.{range_with_len-append}
use Rattle.pair_law.specs.JointWindows.{is_flush}
use Rattle.pair_law.specs.LevelRuns.{domain_on}

-- ---- where a segment ends

module _ (script : PairScriptValue) (place : ℕ) where
  -- there is an op, and it is no flush
  pub is_end-within : is_end (op_at script place) ≡ false → place < length script.ops
  is_end-within is = of (op_at script place) refl is
    where
      of : (o : Option PairOp) → op_at script place ≡ o → is_end o ≡ false → place < length script.ops
      of None none is = absurd (let f : true ≡ false = is in cc)
      of (Some op) some is = slice_get_within script.ops place op some

  pub is_flush-more : is_end (op_at script place) ≡ false → is_flush (op_at script place) ≡ false
  is_flush-more is = of (op_at script place) is
    where
      of : (o : Option PairOp) → is_end o ≡ false → is_flush o ≡ false
      of None is = refl
      of (Some op) is = is

-- ---- several ops

module _ (script : PairScriptValue) (domain : ℕ) (hits : ℕ → ℕ → ℕ → Bool) where
  -- one more
  pub joined-more : (first place : ℕ) → first ≤ place → joined script domain hits first (place + 1 - first) ≡ joined script domain hits first (place - first) ++ joined_at script domain hits place
  joined-more first place le =
      let n : ℕ = place - first in
      let one : place + 1 - first ≡ n + 1 = omega (arith, le) in
      ap (joined script domain hits first) one
      ∙ (ap (flat_map (joined_at script domain hits)) (range_with_len-append first n 1 (n + 1) place refl (omega (arith, le)))
      ∙ (flat_map-append (joined_at script domain hits) (range_with_len first n) (place ∷ [])
      ∙ ap (λ (l : List SliceEntry). joined script domain hits first n ++ l) (append-nil (joined_at script domain hits place))))

  -- an op is one entry at most
  length-joined_of_op : (i : ℕ) (op : Option PairOp) → length (joined_of_op script domain hits i op) ≤ 1
  length-joined_of_op i (Some (ops.Use task cpu line code)) = elim (cases_Bool (domain_on script Second cpu == domain)) [
    | inl here ↦ rw here (omega arith)
    | inr there ↦ rw there (omega arith)
  ]
  length-joined_of_op i (Some ops.Flush) = omega arith
  length-joined_of_op i (Some (ops.Mkdir name)) = omega arith
  length-joined_of_op i (Some (ops.Rmdir name)) = omega arith
  length-joined_of_op i (Some (ops.Write file text)) = omega arith
  length-joined_of_op i (Some (ops.Read file)) = omega arith
  length-joined_of_op i None = omega arith

  pub length-joined : (first n : ℕ) → length (joined script domain hits first n) ≤ n
  length-joined first zero = omega arith
  length-joined first (suc n) =
      let here = length-joined_of_op first (op_at script first) in
      let rest = length-joined (first + 1) n in
      let both = length-append (joined_at script domain hits first) (joined script domain hits (first + 1) n) in
      omega (arith, here, rest, both)

-- ---- from a place up to another

module _ (script : PairScriptValue) (first : ℕ) where
  -- nothing
  pub IsQuiet-none : first ≤ length script.ops → IsQuiet script first first
  IsQuiet-none within = record { later = omega arith; within = within; quiet = λ i low high. absurd (omega (arith, low, high)) }

  -- an op more, which is no flush
  pub IsQuiet-more : (place next : ℕ) → next ≡ place + 1 → place < length script.ops → is_flush (op_at script place) ≡ false → IsQuiet script first place → IsQuiet script first next
  IsQuiet-more place next one lt quiet before =
      let later = before.later in
      record {
        later = omega (arith, later, one);
        within = omega (arith, lt, one);
        quiet = λ i low high. elim (cases_lt i place) [
          | inl less ↦ before.quiet i low less
          | inr ge ↦ let same : place ≡ i = omega (arith, high, one, ge) in subst (λ k. is_flush (op_at script k) ≡ false) same quiet
        ];
      }

  -- up to an end
  pub IsSegment-quiet : (place : ℕ) → IsQuiet script first place → is_end (op_at script place) ≡ true → IsSegment script first place
  IsSegment-quiet place before end = record { later = before.later; within = before.within; quiet = before.quiet; ends = λ lt. of (op_at script place) (slice_get-get_or script.ops place ops.Flush lt) end }
    where
      of : (o : Option PairOp) → o ≡ Some (get_or script.ops place ops.Flush) → is_end o ≡ true → is_flush o ≡ true
      of None none is = absurd (let no : None ≡ Some (get_or script.ops place ops.Flush) = none in cc)
      of (Some op) some is = is
