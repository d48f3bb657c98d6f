-- The groups before the changes of a log.
use Rattle.std.proofs.Common.{◌≡◌, ℕ, zero, suc, List, [], ◌∷◌, ◌++◌, length, drop, None, Some, refl, ap, ap₂, ◌∙◌}
use Rattle.std.specs.Prelude.{slice_get}
use Rattle.std.proofs.lemmas.Option.{same_Some}
use Rattle.run_windows.specs.Changes.{logged}
use Rattle.run_windows.specs.Edits.{Change, changes_of, edited, undone}
use Rattle.run_windows.specs.declared.changes.Log.{Log}
use Rattle.run_windows.specs.declared.changes.Past.{Past}
use Rattle.run_windows.specs.declared.exclusive_group.ExclusiveGroup.{ExclusiveGroup}

-- before one change more
undone-snoc : (after : List ExclusiveGroup) (ps : List Past) (p : Past) → undone after (ps ++ p ∷ []) ≡ undone (edited p.edit after) ps
undone-snoc after [] p = refl
undone-snoc after (q ∷ qs) p = ap (edited q.edit) (undone-snoc after qs p)

-- those of each change
pub changes_of-snoc : (after : List ExclusiveGroup) (ps : List Past) (p : Past)
    → changes_of after (ps ++ p ∷ []) ≡ changes_of (edited p.edit after) ps ++ record { from = p.from; exclusive = edited p.edit after } ∷ []
changes_of-snoc after [] p = refl
changes_of-snoc after (q ∷ qs) p =
    ap₂ (λ (l : List ExclusiveGroup) (cs : List Change). record { from = q.from; exclusive = edited q.edit l } ∷ cs) (undone-snoc after qs p) (changes_of-snoc after qs p)

-- there are as many
pub length-changes_of : (after : List ExclusiveGroup) (ps : List Past) → length (changes_of after ps) ≡ length ps
length-changes_of after [] = refl
length-changes_of after (p ∷ ps) = ap suc (length-changes_of after ps)

-- those of a change by its place
pub slice_get-changes_of : (after : List ExclusiveGroup) (ps : List Past) (i : ℕ) (p : Past) → slice_get ps i ≡ Some p
    → slice_get (changes_of after ps) i ≡ Some (record { from = p.from; exclusive = edited p.edit (undone after (drop (suc i) ps)) })
slice_get-changes_of after [] i p is = absurd (let none : None ≡ Some p = is in cc)
slice_get-changes_of after (q ∷ qs) zero p is = ap (λ (x : Past). Some (record { from = x.from; exclusive = edited x.edit (undone after qs) })) (same_Some q p is)
slice_get-changes_of after (q ∷ qs) (suc i) p is = slice_get-changes_of after qs i p is

-- a log with one change more, whose edit makes the latest groups of others
pub logged-changed : (old new : Log) (p : Past) → p.from ≡ old.from → edited p.edit new.latest.items ≡ old.latest.items → new.pasts.items ≡ old.pasts.items ++ p ∷ []
    → logged new ≡ logged old ++ record { from = new.from; exclusive = new.latest.items } ∷ []
logged-changed old new p from before made =
    ap (λ (cs : List Change). cs ++ record { from = new.from; exclusive = new.latest.items } ∷ [])
    (ap (changes_of new.latest.items) made ∙ (changes_of-snoc new.latest.items old.pasts.items p
    ∙ ap₂ (λ (l : List ExclusiveGroup) (n : ℕ). changes_of l old.pasts.items ++ record { from = n; exclusive = l } ∷ []) before from))
