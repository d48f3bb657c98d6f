-- The changes of a run, by their places.
use Rattle.std.proofs.Common.{◌≡◌, ℕ, suc, ◌+◌, ◌<◌, ◌≤◌, true, leb, List, [], ◌∷◌, length, get_or, drop, Option, None, Some, inl, inr, refl, subst, ap, arith}
use Rattle.std.specs.List.Sorted.{IsPartitionedBy}
use Rattle.std.specs.List.{AllWithin}
use Rattle.std.specs.Option.{option_map_or}
use Rattle.std.specs.Prelude.{slice_get}
use Rattle.std.proofs.lemmas.Bool.{cases_lt, le-leb, leb-true}
use Rattle.std.proofs.lemmas.Option.{get_or_from_slice_get, slice_get-get_or, slice_get_within}
use Rattle.run_law.specs.Journals.{At, JournalsValue}
use Rattle.run_windows.proofs.Logs.{length-changes_of, slice_get-changes_of}
use Rattle.run_windows.specs.Changes.{AreChanges}
use Rattle.run_windows.specs.Edits.{Change, changes_of, edited, undone}
use Rattle.run_windows.specs.declared.changes.Past.{Past}
use Rattle.run_windows.specs.declared.exclusive_group.ExclusiveGroup.{ExclusiveGroup}
use Rattle.script_ops.specs.Values.{ScriptValue}

-- the epoch from which a change holds, or the one past the run
abbrev pub end_at : ℕ → List Past → ℕ → ℕ
end_at end ps i = option_map_or (λ (p : Past). p.from) (slice_get ps i) (end + 1)

module _ (script : ScriptValue) (j : JournalsValue) (ps : List Past) (are : AreChanges script j (length j.tree + 1) (changes_of [] ps)) where
  -- the groups before a change
  abbrev pub groups_at : ℕ → List ExclusiveGroup
  groups_at i = undone [] (drop i ps)

  -- a change as it is listed
  abbrev pub change_at : ℕ → Past → Change
  change_at i p = record { from = p.from; exclusive = edited p.edit (groups_at (suc i)) }

  listed : (i : ℕ) (p : Past) → At ps i p → (i < length (changes_of [] ps)) × (get_or (changes_of [] ps) i (change_at i p) ≡ change_at i p)
  listed i p there =
      let here = slice_get-changes_of [] ps i p there in
      (slice_get_within (changes_of [] ps) i (change_at i p) here, get_or_from_slice_get (changes_of [] ps) i (change_at i p) (change_at i p) here)

  -- it is in the run
  pub from-within : (i : ℕ) (p : Past) → At ps i p → p.from < length j.tree + 1
  from-within i p there =
      let l = listed i p there in
      subst (λ (c : Change). c.from < length j.tree + 1) l.1 (are.known i (change_at i p) l.0)

  -- it is before the next one
  pub from-rises : (i : ℕ) (p : Past) → At ps i p → p.from < end_at (length j.tree) ps (suc i)
  from-rises i p there = of (slice_get ps (suc i)) refl
    where
      of : (o : Option Past) → slice_get ps (suc i) ≡ o → p.from < option_map_or (λ (q : Past). q.from) o (length j.tree + 1)
      of None none = from-within i p there
      of (Some q) some =
          let l = listed i p there in
          let m = listed (suc i) q some in
          let d : Change = change_at (suc i) q in
          let own : get_or (changes_of [] ps) i d ≡ change_at i p = get_or_from_slice_get (changes_of [] ps) i (change_at i p) d (slice_get-changes_of [] ps i p there) in
          let less = are.rising i (suc i) d (omega arith) m.0 in
          let one : (get_or (changes_of [] ps) i d).from ≡ p.from = ap (λ (c : Change). c.from) own in
          let two : (get_or (changes_of [] ps) (suc i) d).from ≡ q.from = ap (λ (c : Change). c.from) m.1 in
          omega (arith, less, one, two)

  pub end-within : (i : ℕ) → end_at (length j.tree) ps i ≤ length j.tree + 1
  end-within i = of (slice_get ps i) refl
    where
      of : (o : Option Past) → slice_get ps i ≡ o → option_map_or (λ (q : Past). q.from) o (length j.tree + 1) ≤ length j.tree + 1
      of None none = omega arith
      of (Some q) some = let lt = from-within i q some in omega (arith, lt)

  -- a change is before all later ones
  rises-far : (a b : ℕ) (d : Past) → a < b → b < length ps → (get_or ps a d).from < (get_or ps b d).from
  rises-far a b d lt within =
      let p : Past = get_or ps a d in
      let q : Past = get_or ps b d in
      let m = listed b q (slice_get-get_or ps b d within) in
      let x : Change = change_at b q in
      let own : get_or (changes_of [] ps) a x ≡ change_at a p = get_or_from_slice_get (changes_of [] ps) a (change_at a p) x (slice_get-changes_of [] ps a p (slice_get-get_or ps a d (omega (arith, lt, within)))) in
      let less = are.rising a b x lt m.0 in
      let one : (get_or (changes_of [] ps) a x).from ≡ p.from = ap (λ (c : Change). c.from) own in
      let two : (get_or (changes_of [] ps) b x).from ≡ q.from = ap (λ (c : Change). c.from) m.1 in
      omega (arith, less, one, two)

  -- those that have begun at an epoch come first
  pub IsPartitionedBy-begun : (epoch : ℕ) → IsPartitionedBy (λ (p : Past). leb p.from epoch) ps
  IsPartitionedBy-begun epoch = λ a b d le within begun. elim (cases_lt a b) [
    | inl lt ↦ let less = rises-far a b d lt within in let is = leb-true (get_or ps b d).from epoch begun in le-leb (get_or ps a d).from epoch (omega (arith, less, is))
    | inr ge ↦ let same : b ≡ a = omega (arith, le, ge) in subst (λ k. leb (get_or ps k d).from epoch ≡ true) same begun
  ]

  -- some of them have begun at any epoch
  pub begun-some : (epoch begun : ℕ) → AllWithin (λ (p : Past). epoch < p.from) ps begun (length ps) → 0 < begun
  begun-some epoch begun rest = elim (cases_lt 0 begun) [
    | inl lt ↦ lt
    | inr none ↦ absurd (
        let some = are.some (omega arith) in
        let d : Past = past_of ps (omega (arith, some, length-changes_of [] ps)) in
        let first = are.first (change_at 0 (get_or ps 0 d)) (slice_get-changes_of [] ps 0 (get_or ps 0 d) (slice_get-get_or ps 0 d (omega (arith, some, length-changes_of [] ps)))) in
        let late = rest 0 d (omega (arith, none)) (omega (arith, some, length-changes_of [] ps)) in
        omega (arith, first, late))
  ]
    where
      past_of : (l : List Past) → 0 < length l → Past
      past_of [] lt = absurd (omega (arith, lt))
      past_of (x ∷ xs) lt = x
