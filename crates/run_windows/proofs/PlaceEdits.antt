-- An element at a place of a list, replaced, removed and put back.
use Rattle.std.proofs.Common.{◌≡◌, ℕ, zero, suc, ◌≤◌, List, [], ◌∷◌, length, Some, None, refl, sym, ap, arith}
use Rattle.std.specs.List.{insert, remove, slice_set}
use Rattle.std.specs.Prelude.{slice_get}

-- an element at a place, replaced or removed, and put back
pub set-back : {X : Type 0} (xs : List X) (at : ℕ) (old now : X) → slice_get xs at ≡ Some old → slice_set (slice_set xs at now) at old ≡ xs
set-back [] at old now there = absurd (let none : None ≡ Some old = there in cc)
set-back (x ∷ xs) zero old now there = let same : x ≡ old = cc in ap (λ y. y ∷ xs) (sym same)
set-back (x ∷ xs) (suc at) old now there = ap (λ l. x ∷ l) (set-back xs at old now there)

pub insert-remove : {X : Type 0} (xs : List X) (at : ℕ) (old : X) → slice_get xs at ≡ Some old → insert (remove xs at) at old ≡ xs
insert-remove [] at old there = absurd (let none : None ≡ Some old = there in cc)
insert-remove (x ∷ xs) zero old there = let same : x ≡ old = cc in ap (λ y. y ∷ xs) (sym same)
insert-remove (x ∷ xs) (suc at) old there = ap (λ l. x ∷ l) (insert-remove xs at old there)

pub remove-insert : {X : Type 0} (xs : List X) (at : ℕ) (now : X) → at ≤ length xs → remove (insert xs at now) at ≡ xs
remove-insert [] zero now within = refl
remove-insert [] (suc at) now within = absurd (omega (arith, within))
remove-insert (x ∷ xs) zero now within = refl
remove-insert (x ∷ xs) (suc at) now within = ap (λ l. x ∷ l) (remove-insert xs at now (omega (arith, within)))

pub set-own : {X : Type 0} (xs : List X) (at : ℕ) (old : X) → slice_get xs at ≡ Some old → slice_set xs at old ≡ xs
set-own [] at old there = absurd (let none : None ≡ Some old = there in cc)
set-own (x ∷ xs) zero old there = let same : x ≡ old = cc in ap (λ y. y ∷ xs) (sym same)
set-own (x ∷ xs) (suc at) old there = ap (λ l. x ∷ l) (set-own xs at old there)
