-- What holds of a choice between two.
use Rattle.std.proofs.Common.{◌≡◌, Bool, true, false, not, ◌&&◌, cond, refl}

-- what holds of both branches holds of the choice
pub cond-both : {X : Type 0} (P : X → Type 0) (b : Bool) (x y : X) → P x → P y → P (cond b x y)
cond-both P true x y px py = px
cond-both P false x y px py = py

-- the same, where each branch may use its case
pub cond-case : {X : Type 0} (P : X → Type 0) (b : Bool) (x y : X) → (b ≡ true → P x) → (b ≡ false → P y) → P (cond b x y)
cond-case P true x y px py = px refl
cond-case P false x y px py = py refl

-- two tests, one after the other, that both pass
pub cond-and : (a b : Bool) → cond a b false ≡ true → (a ≡ true) × (b ≡ true)
cond-and true b e = (refl, e)
cond-and false b e = absurd (let f : false ≡ true = e in cc)

-- where neither of two tests passes, both are false
pub and-not_true : (a b : Bool) → (not a && not b) ≡ true → (a ≡ false) × (b ≡ false)
and-not_true false false e = (refl, refl)
and-not_true false true e = absurd (let f : false ≡ true = e in cc)
and-not_true true b e = absurd (let f : false ≡ true = e in cc)
