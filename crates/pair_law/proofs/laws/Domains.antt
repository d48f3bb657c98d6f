-- The L2 and L3 domains of a CPU.
use Rattle.std.proofs.Common.{◌≡◌, ℕ, zero, suc, ◌+◌, ◌*◌, ◌/◌, ◌<◌, ◌≤◌, Option, None, Some, unwrap_or, sym, ap, ◌∙◌, arith}
use Rattle.std.specs.Prelude.{IfSome}
use Rattle.std.proofs.lemmas.Nat.{div-mul-add, div_below, mul-le}
use Rattle.machine.specs.Maps.{domain_of}
use Rattle.machine.specs.Ranges.{InRange}
use Rattle.machine.specs.declared.parameters.Parameters.{Parameters}
use Rattle.pair_text.specs.Values.{LiesBelow}
use native.Mathlib.Nat as nat

-- the L2 that there is
pub LiesBelow-first : (machine : Parameters) (o : Option Parameters) (l2 : Parameters) → o ≡ Some l2 → IfSome o (LiesBelow machine) → LiesBelow machine (unwrap_or o machine)
LiesBelow-first machine None l2 is below = absurd (let f : None ≡ Some l2 = is in cc)
LiesBelow-first machine (Some p) l2 is below = below

-- the domain of a CPU is one of the machine's
pub domain_of-lt : (p : Parameters) (cpu : ℕ) → 0 < p.domains → cpu < p.cpus → domain_of p cpu < p.domains
domain_of-lt p cpu some lt = div_below (cpu * p.domains) p.cpus p.domains (omega arith) (less p.domains some)
  where
    less : (d : ℕ) → 0 < d → cpu * d < d * p.cpus
    less d some =
        (let most : (cpu + 1) * d ≤ p.cpus * d = mul-le (cpu + 1) d p.cpus d (omega arith) (omega arith) in
        let one : (cpu + 1) * d ≡ cpu * d + d = (let e : (cpu + 1) * d ≡ d * (cpu + 1) = nat.mul_comm (cpu + 1) d in let f : d * (cpu + 1) ≡ d * cpu + d * 1 = nat.mul-add d cpu 1 in let g : d * cpu ≡ cpu * d = nat.mul_comm d cpu in omega (arith, e, f, g)) in
        let turned : p.cpus * d ≡ d * p.cpus = nat.mul_comm p.cpus d in
        omega (arith, most, one, turned))

-- the L2 domain of a CPU lies in its L3 domain
pub domain_of-above : (machine p : Parameters) (cpu : ℕ) → InRange machine → LiesBelow machine p → domain_of p cpu / (p.domains / machine.domains) ≡ domain_of machine cpu
domain_of-above machine p cpu range below =
    let d : ℕ = machine.domains in
    let n : ℕ = machine.cpus in
    let r : ℕ = p.domains / d in
    let whole : p.domains ≡ r * d = (let parts = nat.div-add-mod' p.domains d in let rest = below.whole in omega arith) in
    let some : 0 < r = positive r d whole below.in_range.some_domain in
    let product : cpu * p.domains ≡ cpu * d * r + 0 = (let e : cpu * p.domains ≡ cpu * (r * d) = ap (λ k. cpu * k) whole in let f : cpu * (r * d) ≡ cpu * (d * r) = ap (λ k. cpu * k) (nat.mul_comm r d) in let g : cpu * (d * r) ≡ cpu * d * r = sym (nat.mul_assoc cpu d r) in omega (arith, e, f, g)) in
    ap (λ k. cpu * p.domains / k / r) below.same_cpus
    ∙ (nat.div-div-eq-div-mul (cpu * p.domains) n r
    ∙ (ap (λ k. cpu * p.domains / k) (nat.mul_comm n r)
    ∙ (sym (nat.div-div-eq-div-mul (cpu * p.domains) r n)
    ∙ ap (λ k. k / n) (ap (λ k. k / r) product ∙ div-mul-add (cpu * d) r 0 some))))
  where
    positive : (r d : ℕ) → p.domains ≡ r * d → 0 < p.domains → 0 < r
    positive zero d is some = absurd (let z : 0 * d ≡ 0 = omega arith in omega arith)
    positive (suc r) d is some = omega arith
