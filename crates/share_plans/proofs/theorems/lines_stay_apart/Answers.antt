use Rattle.std.proofs.Common.{◌≡◌, ℕ, ◌+◌, ◌*◌, ◌/◌, ◌%◌, ◌<◌, ◌^◌, sym, ap, ◌∙◌, arith}
use Rattle.std.proofs.Math.Nat.{add-mul-mod_self_right, lt-div-mul-add}
use Rattle.std.proofs.lemmas.Nat.{div-mul-add, mod-mul-add}
use Rattle.share_plans.specs.Sharing.{far}
use Rattle.share_plans.proofs.theorems.lines_stay_apart.Goals as goal

-- the lines of a program have room
far-long : (sets : ℕ) → 0 < sets → 2 ^ 42 < far sets
far-long sets some = let long : 2 ^ 42 < 2 ^ 42 / sets * sets + sets = lt-div-mul-add {a = 2 ^ 42} {b = sets} some in omega (arith, long)

pub returns-clause-apart : goal.returns-clause-apart
returns-clause-apart c = λ sets u v some u_near v_near same.
    let w = far sets in
    let long = far-long sets some in
    let u_in : u.line < w = omega (arith, u_near, long) in
    let v_in : v.line < w = omega (arith, v_near, long) in (
      sym (div-mul-add u.program w u.line u_in) ∙ (ap (λ (n : ℕ). n / w) same ∙ div-mul-add v.program w v.line v_in),
      sym (mod-mul-add u.program w u.line u_in) ∙ (ap (λ (n : ℕ). n % w) same ∙ mod-mul-add v.program w v.line v_in),
    )

-- a multiple of the sets before a line
mod-far : (sets p k x : ℕ) → (p * (k * sets) + x) % sets ≡ x % sets
mod-far sets p k x = ap (λ (n : ℕ). n % sets) (let turned : p * (k * sets) + x ≡ x + p * k * sets = omega arith in turned) ∙ add-mul-mod_self_right x (p * k) sets

pub returns-clause-sets : goal.returns-clause-sets
returns-clause-sets c = λ sets u. mod-far sets u.program (2 ^ 42 / sets + 1) u.line
