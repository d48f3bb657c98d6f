-- How many L2 domains lie in an L3 domain.
use Rattle.std.proofs.Common.{◌≡◌, ℕ, zero, suc, ◌+◌, ◌*◌, ◌/◌, ◌<◌, Bool, true, false, ◌&&◌, [], ◌∷◌, Option, None, Some, unwrap_or, refl, sym, ap, ◌∙◌, arith}
use Rattle.std.specs.Prelude.{IfSome}
use Rattle.std.specs.List.{list_all, range_with_len}
use Rattle.std.proofs.lemmas.List.Folds.{list_all-append}
use Rattle.std.proofs.lemmas.Nat.{div-mul-add}
use Rattle.machine.specs.Ranges.{InRange}
use Rattle.machine.specs.declared.parameters.Parameters.{Parameters}
use Rattle.pair_text.specs.Values.{AreMachines, LiesBelow, Machines, side_machine}
use Rattle.pair_text.specs.declared.side.Side.TheVariants.{First}
use Rattle.pair_law.proofs.laws.Cuts.{range_with_len-append}
use native.Mathlib.Nat as nat

-- a whole number of times, and not none
positive : (r d a : ℕ) → a ≡ r * d → 0 < a → 0 < r
positive zero d a is some = absurd (let z : 0 * d ≡ 0 = omega arith in omega (arith, z, is, some))
positive (suc r) d a is some = omega arith

of : (machine : Parameters) (o : Option Parameters) → InRange machine → IfSome o (LiesBelow machine) → 0 < (unwrap_or o machine).domains / machine.domains
of machine None range below =
    let d : ℕ = machine.domains in
    let one : d ≡ 1 * d + 0 = omega arith in
    let is : d / d ≡ 1 = ap (λ k. k / d) one ∙ div-mul-add 1 d 0 range.some_domain in
    omega (arith, is)
of machine (Some l2) range below =
    let whole : l2.domains ≡ l2.domains / machine.domains * machine.domains = (let parts = nat.div-add-mod' l2.domains machine.domains in let rest = below.whole in omega (arith, parts, rest)) in
    positive (l2.domains / machine.domains) machine.domains l2.domains whole below.in_range.some_domain

-- one at least
pub share-some : (m : Machines) → AreMachines m → 0 < (side_machine m First).domains / m.machine.domains
share-some m are = of m.machine m.l2 are.in_range are.below

-- a test of one number more
pub list_all-more : (f : ℕ → Bool) (x : ℕ) (before now : Bool) → before ≡ list_all f (range_with_len 0 x) → now ≡ (before && f x) → now ≡ list_all f (range_with_len 0 (x + 1))
list_all-more f x before now so_far is =
    is ∙ (ap (λ b. b && f x) so_far ∙ (ap (λ b. list_all f (range_with_len 0 x) && b) (sym (and-true (f x)))
    ∙ (sym (list_all-append f (range_with_len 0 x) (x ∷ [])) ∙ ap (list_all f) (sym (range_with_len-append 0 x 1 (x + 1) x refl (omega arith))))))
  where
    and-true : (b : Bool) → (b && true) ≡ b
    and-true true = refl
    and-true false = refl
