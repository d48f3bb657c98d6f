-- Masks that are valid in a machine.
use Rattle.std.proofs.Common.{◌≡◌, ℕ, ◌^◌, ◌<◌, ◌≤◌, Bool, Result, Ok, Err, Option, MatchOption, refl, sym, ◌∙◌, arith, lit<, subst, lt_of_lt_of_le}
use Rattle.std.specs.Prelude.{IfOk}
use Rattle.std.specs.Result.{result_ok}
use Rattle.std.proofs.Math.Nat.{pow-le-pow_right}
use Rattle.cbm.proofs.laws.Validity.{checked-checked, checked-ok}
use Rattle.cbm.specs.Validity.{checked}
use Rattle.cbm.specs.declared.fault.CbmFault.{CbmFault}
use Rattle.cbm.specs.declared.geometry.Geometry.{Geometry}
use Rattle.journal_text.specs.Writable.{IsMask}
use Rattle.machine.specs.declared.parameters.Parameters.{Parameters}
use Rattle.tree_law.specs.Space.{geometry_of}

-- what a machine asks of masks, part by part
same_geometry : (g : Geometry) (len min : ℕ) (sparse : Bool) → g.len ≡ len → g.min ≡ min → g.sparse ≡ sparse → g ≡ record { len = len; min = min; sparse = sparse }
same_geometry g len min sparse l m s = rw (← l, ← m, ← s) refl

-- a mask that the check gives back is one of the machine, and what it refuses is none
pub mask-told : (r : Result ℕ CbmFault) (o : Option ℕ) (g : Geometry) (m : Parameters) (n : ℕ) → r ≡ checked g n → IfOk r (λ mask. (0 < mask) × (mask < 2 ^ g.len)) → o ≡ result_ok r
    → g.len ≡ m.ways → g.min ≡ m.min → g.sparse ≡ m.sparse → m.ways ≤ 32 → MatchOption o (IsMask m n → ⊥) (λ mask. (mask ≡ n) × IsMask m mask)
mask-told (Ok mask) o g m n exact range given len min sparse narrow =
    let geometry : g ≡ geometry_of m = same_geometry g m.ways m.min m.sparse len min sparse in
    let wide : g.len ≤ 32 = omega (arith, len, narrow) in
    let small : mask < 2 ^ 32 = lt_of_lt_of_le range.1 (pow-le-pow_right {n = 2} (lit< tt) wide) in
    rw given (checked-ok g n mask (sym exact), (small, subst (λ (h : Geometry). checked h mask ≡ Ok mask) geometry (checked-checked g n mask (sym exact))))
mask-told (Err fault) o g m n exact range given len min sparse narrow =
    let geometry : g ≡ geometry_of m = same_geometry g m.ways m.min m.sparse len min sparse in
    rw given (λ is. (let some : checked g n ≡ Ok n = subst (λ (h : Geometry). checked h n ≡ Ok n) (sym geometry) is.1 in absurd (let e : Err fault ≡ Ok n = exact ∙ some in cc)))
