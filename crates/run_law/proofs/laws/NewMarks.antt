-- Which marks an entry brings.
use Rattle.std.proofs.Common.{◌≡◌, ℕ, ◌+◌, ◌⊎◌, inl, inr, List, [], ◌∷◌, ◌++◌, length, Some, sym, ap, ◌∙◌, subst, arith}
use Rattle.std.specs.Prelude.{IsTrue}
use Rattle.std.proofs.lemmas.Option.{same_Some}
use Rattle.cache_core.specs.declared.entry.SliceEntry.{SliceEntry}
use Rattle.run_law.specs.Ops.{is_command}
use Rattle.run_law.specs.Journals.{JournalsValue}
use Rattle.run_law.specs.Order.{HasMarks, IsMadeAt, IsTakenAt}
use Rattle.run_law.specs.Truth.{is_made_by}
use Rattle.run_law.specs.TreeHistory.{TreeEntryValue}
use Rattle.script_ops.specs.Values.{ScriptValue, op_at}
use Rattle.script_ops.specs.declared.op.Op.{Op}
use Rattle.script_ops.specs.declared.op.Op.TheVariants.{Access}
use Rattle.run_law.proofs.laws.Pairs.{both_eqb-true}
use Rattle.run_law.proofs.laws.GrownLists.{Adds, at_push, stood, with_slices, with_tree}
use Rattle.run_law.proofs.laws.OpMarks.{AllHad}

-- an entry of a command brings none
made_of_command : (j : JournalsValue) (slices : List (List SliceEntry)) (i : ℕ) (e : SliceEntry) (u o start stop : ℕ) → Adds j slices i e → (IsTrue (is_made_by u o e) → ⊥)
    → IsMadeAt (with_slices j slices) u o start stop → IsMadeAt j u o start stop
made_of_command j slices i e u o start stop adds other (k, p, x, there, mine, epoch, same) =
    elim (stood j slices i e adds k p x there) [
      | inl old ↦ (k, p, x, old, mine, epoch, same)
      | inr new ↦ absurd (other (subst (λ (y : SliceEntry). IsTrue (is_made_by u o y)) new.2 mine))
    ]

-- an entry of a command: all marks were there before
pub marks_of_command : (script : ScriptValue) (j : JournalsValue) (slices : List (List SliceEntry)) (i : ℕ) (e : SliceEntry) (c : Op) → Adds j slices i e
    → op_at script e.thread e.op ≡ Some c → IsTrue (is_command c)
    → (u o start stop : ℕ) (d : Op) → op_at script u o ≡ Some d → HasMarks (with_slices j slices) u o d start stop → HasMarks j u o d start stop
marks_of_command script j slices i e c adds is command u o start stop (Access task cpu addr) is_d marks =
    made_of_command j slices i e u o start stop adds
    (λ mine.
    let its = both_eqb-true e.thread u e.op o mine in
    let there : op_at script e.thread e.op ≡ Some (Access task cpu addr) = subst (λ x. op_at script x e.op ≡ Some (Access task cpu addr)) (sym its.0) (subst (λ x. op_at script u x ≡ Some (Access task cpu addr)) (sym its.1) is_d) in
    let access : IsTrue (is_command (Access task cpu addr)) = subst (λ x. IsTrue (is_command x)) (same_Some c (Access task cpu addr) (sym is ∙ there)) command in
    absurd cc)
    marks
marks_of_command script j slices i e c adds is command u o start stop d is_d marks = marks

-- an entry of an access: its epoch is both marks
made_of_access : (j : JournalsValue) (slices : List (List SliceEntry)) (i : ℕ) (e : SliceEntry) (u o start stop : ℕ) → Adds j slices i e
    → IsMadeAt (with_slices j slices) u o start stop → IsMadeAt j u o start stop ⊎ ((u ≡ e.thread) × (o ≡ e.op) × (start ≡ e.epoch) × (stop ≡ e.epoch))
made_of_access j slices i e u o start stop adds (k, p, x, there, mine, epoch, same) =
    elim (stood j slices i e adds k p x there) [
      | inl old ↦ inl (k, p, x, old, mine, epoch, same)
      | inr new ↦
          let its = both_eqb-true x.thread u x.op o mine in
          inr (
            sym its.0 ∙ ap (λ (y : SliceEntry). y.thread) new.2,
            sym its.1 ∙ ap (λ (y : SliceEntry). y.op) new.2,
            sym epoch ∙ ap (λ (y : SliceEntry). y.epoch) new.2,
            same ∙ (sym epoch ∙ ap (λ (y : SliceEntry). y.epoch) new.2),
          )
    ]

-- an access brings its own
pub marks_of_access : (script : ScriptValue) (j : JournalsValue) (slices : List (List SliceEntry)) (i : ℕ) (e : SliceEntry) → Adds j slices i e
    → AllHad script j (with_slices j slices) e.thread e.op e.epoch e.epoch
marks_of_access script j slices i e adds u o start stop (Access task cpu addr) is marks = made_of_access j slices i e u o start stop adds marks
marks_of_access script j slices i e adds u o start stop d is marks = inl marks

-- a command that is taken: its position and the next one
taken_more : (j : JournalsValue) (h : TreeEntryValue) (u o start stop : ℕ) → IsTakenAt (with_tree j (j.tree ++ h ∷ [])) u o start stop
    → IsTakenAt j u o start stop ⊎ ((u ≡ h.thread) × (o ≡ h.op) × (start ≡ length j.tree) × (stop ≡ length j.tree + 1))
taken_more j h u o start stop (x, there, mine, same) =
    elim (at_push j.tree h start x there) [
      | inl old ↦ inl (x, old, mine, same)
      | inr new ↦
          let its = both_eqb-true x.thread u x.op o mine in
          inr (
            sym its.0 ∙ ap (λ (y : TreeEntryValue). y.thread) new.1,
            sym its.1 ∙ ap (λ (y : TreeEntryValue). y.op) new.1,
            new.0,
            omega (arith, same, new.0),
          )
    ]

-- a command brings its own
pub marks_of_taken : (script : ScriptValue) (j : JournalsValue) (h : TreeEntryValue) → AllHad script j (with_tree j (j.tree ++ h ∷ [])) h.thread h.op (length j.tree) (length j.tree + 1)
marks_of_taken script j h u o start stop (Access task cpu addr) is marks = inl marks
marks_of_taken script j h u o start stop d is marks = taken_more j h u o start stop marks
