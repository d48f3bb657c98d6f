use Rattle.std.proofs.Common.{◌≡◌, ◌+◌, ◌-◌, Global, Vec, ◌++◌, ◌∷◌, [], ℕ, zero, suc, inl, inr, List, length, map, refl, sym, ap, ◌∙◌, arith}
use Rattle.std.proofs.lemmas.Bool.{cases_lt}
use Rattle.std.proofs.lemmas.List.{get_or-append_right, get_or_append_left, get_or_past, length_push, map_push}
use Rattle.cache_core.specs.declared.entry.SliceEntry.{SliceEntry}
use Rattle.check_parts.specs.JudgedSlices.{entries_at}
use Rattle.run_law.specs.Entries.{entries_of}
use Rattle.check_parts.proofs.left_journals.padded.Goals as goal

-- an empty list has nothing anywhere
nothing-at : (i : ℕ) → entries_at ([] ∷ []) i ≡ []
nothing-at zero = refl
nothing-at (suc i) = refl

-- nor does it add anything at the end of others
entries_at-empty : (slices : List (List SliceEntry)) (i : ℕ) → entries_at (slices ++ [] ∷ []) i ≡ entries_at slices i
entries_at-empty slices i = elim (cases_lt i (length slices)) [
  | inl within ↦ get_or_append_left slices ([] ∷ []) [] i within
  | inr past ↦ get_or-append_right slices ([] ∷ []) (length slices) i [] refl past ∙ (nothing-at (i - length slices) ∙ sym (get_or_past slices i [] past))
]

pub loop-preserved : goal.loop-preserved
loop-preserved c =
    let old = c.loop.new.items in
    let new = c.push.new.self.items in
    let is : new ≡ old ++ c.new.result ∷ [] = c.in_ok-push.ensures.items in
    let size : length new ≡ length old + 1 = ap (λ (xs : List (Vec SliceEntry Global)). length xs) is ∙ length_push old c.new.result in
    let mapped : map entries_of new ≡ map entries_of old ++ [] ∷ [] =
    ap (map entries_of) is ∙ (map_push entries_of old c.new.result ∙ ap (λ (es : List SliceEntry). map entries_of old ++ es ∷ []) c.new.ensures.items) in
    record {
      count = omega (arith, size, c.loop.invariant.count);
      same = λ i. ap (λ (slices : List (List SliceEntry)). entries_at slices i) mapped ∙ (entries_at-empty (map entries_of old) i ∙ c.loop.invariant.same i);
    }

pub returns-clause-count : goal.returns-clause-count
returns-clause-count c =
    λ few.
    let over = c.loop-test.false in
    let within = c.loop.auto.counter-end (let start = c.len-counter.ensures in let own = c.args.slices.ok in omega (arith, start, own.0, few)) in
    omega (arith, over, within, c.loop.invariant.count)
