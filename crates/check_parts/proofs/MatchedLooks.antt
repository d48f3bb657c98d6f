-- Counts of commands by the first looks of slices.
use Rattle.std.proofs.Common.{◌≡◌, ◌↔◌, ℕ, List, [], ◌∷◌, map, take, Option, Some, None, refl, sym, ap, ◌∙◌}
use Rattle.std.specs.List.{range_with_len}
use Rattle.std.specs.Prelude.{IsSome}
use Rattle.cache_core.specs.declared.entry.SliceEntry.{SliceEntry}
use Rattle.journal_check.proofs.laws.Told.{IsSome-some}
use Rattle.check_parts.specs.JudgedSlices.{HaveLooks, entries_at, journals_of}
use Rattle.machine.specs.Slices.{slice_number}
use Rattle.run_law.specs.Looks.{AreMatched, first_look, lines_looked, needs_of, sum_of_all}
use Rattle.run_law.specs.TreeHistory.{TreeEntryValue, tree_after}
use Rattle.script_ops.specs.Values.{ScriptValue, op_at}
use Rattle.script_ops.specs.declared.op.Op.{Op}
use Rattle.tree_law.specs.State.{State}

-- ---- lists

-- the same of each element
map-each : {A B : Type 0} (f g : A → B) (xs : List A) → ((x : A) → f x ≡ g x) → map f xs ≡ map g xs
map-each f g [] same = refl
map-each {A} {B} f g (x ∷ xs) same = ap (λ (y : B). y ∷ map f xs) (same x) ∙ ap (λ (ys : List B). g x ∷ ys) (map-each f g xs same)

-- ---- counts by first looks

module _ (script : ScriptValue) (tree : List TreeEntryValue) (all looks : List (List SliceEntry)) (have : (i : ℕ) → HaveLooks script (entries_at all i) (entries_at looks i)) where
  -- what was looked for a need of an op of the script
  lines_looked-same : (h : TreeEntryValue) → IsSome (op_at script h.thread h.op) → (need : ℕ × ℕ) → lines_looked script (journals_of tree looks) h need ≡ lines_looked script (journals_of tree all) h need
  lines_looked-same h some need =
      ap sum_of_all (map-each
      (λ (x : ℕ). first_look h.thread h.op need.1 (entries_at looks (slice_number script.machine need.0 x)))
      (λ (x : ℕ). first_look h.thread h.op need.1 (entries_at all (slice_number script.machine need.0 x)))
      (range_with_len 0 script.machine.slices)
      (λ x. have (slice_number script.machine need.0 x) h.thread h.op need.1 some))

  -- and for all its needs
  needs-same : (h : TreeEntryValue) (s : State) (o : Option Op) → op_at script h.thread h.op ≡ o
      → map (lines_looked script (journals_of tree looks) h) (needs_of script.machine s o) ≡ map (lines_looked script (journals_of tree all) h) (needs_of script.machine s o)
  needs-same h s None is = refl
  needs-same h s (Some op) is =
      map-each (lines_looked script (journals_of tree looks) h) (lines_looked script (journals_of tree all) h) (needs_of script.machine s (Some op))
      (lines_looked-same h (IsSome-some (op_at script h.thread h.op) op is))

  -- so commands were given what their looks counted by either
  pub AreMatched-looks : AreMatched script (journals_of tree looks) ↔ AreMatched script (journals_of tree all)
  AreMatched-looks = (
    λ matched k h there. matched k h there ∙ needs-same h (tree_after script (take k tree)) (op_at script h.thread h.op) refl,
    λ matched k h there. matched k h there ∙ sym (needs-same h (tree_after script (take k tree)) (op_at script h.thread h.op) refl),
  )
