-- The slices, the threads and the lists of counts before the first step.
use Rattle.std.proofs.Common.{◌≡◌, ℕ, ◌+◌, ◌-◌, ◌<◌, inl, inr, List, [], ◌∷◌, ◌++◌, length, get_or, sym, ◌∙◌, subst, arith}
use Rattle.std.proofs.lemmas.Bool.{cases_lt}
use Rattle.std.proofs.Math.Seq.{get_or-append_seam}
use Rattle.std.proofs.lemmas.List.{get_or_append_left, length-append}
use Rattle.run_law.specs.Quotas.{room_of}
use Rattle.script_ops.specs.Values.{ScriptValue}
use Rattle.step_world.specs.Openings.{AreFresh}
use Rattle.step_world.specs.Slices.{IsFresh, SliceValue}

-- what holds of each element holds of each of a longer list
all-push : {X : Type 0} (P : ℕ → X → Type 0) (n : ℕ) (xs : List X) (x : X) → length xs ≡ n → ((i : ℕ) (d : X) → i < n → P i (get_or xs i d)) → P n x → (i : ℕ) (d : X) → i < n + 1 → P i (get_or (xs ++ x ∷ []) i d)
all-push P n xs x count each one i d within = elim (cases_lt i (length xs)) [
  | inl before ↦ subst (λ y. P i y) (sym (get_or_append_left xs (x ∷ []) d i before)) (each i d (omega (arith, before, count)))
  | inr last ↦
      let at : i ≡ length xs = omega (arith, within, last, count) in
      subst (λ k. P k (get_or (xs ++ x ∷ []) k d)) (sym at) (subst (λ y. P (length xs) y) (sym (get_or-append_seam xs x [] d)) (subst (λ k. P k x) (sym count) one))
]

-- ---- slices

-- one slice more
pub AreFresh-push : (script : ScriptValue) (n : ℕ) (slices : List SliceValue) (s : SliceValue) → AreFresh script n slices → IsFresh script.machine n s → s.room ≡ room_of script n → AreFresh script (n + 1) (slices ++ s ∷ [])
AreFresh-push script n slices s all one room = record {
  count = length-append slices (s ∷ []) ∙ omega (arith, all.count);
  each = all-push (λ i x. IsFresh script.machine i x) n slices s all.count all.each one;
  rooms = all-push (λ i (x : SliceValue). x.room ≡ room_of script i) n slices s all.count all.rooms room;
}

-- ---- threads
