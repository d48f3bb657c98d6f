use Rattle.std.proofs.Common.{◌≡◌, ℕ, ◌+◌, ◌-◌, ◌<◌, ◌∙◌, false, drop, length, ap, sym, subst, arith}
use Rattle.std.specs.List.{list_any}
use Rattle.way_plans.proofs.Emptied.{is_emptying, since_emptied-at, since_emptied-none}
use Rattle.way_plans.proofs.slice_lines.behind_emptied.Goals as goal

pub returns-else-not-empties-clause-rest : goal.returns-else-not-empties-clause-rest
returns-else-not-empties-clause-rest c =
    let entries = c.args.entries.now in
    let some : 0 < c.loop-from.from = c.loop-from-test.true in
    let next : c.loop-from.from ≡ c.loop-from.from - 1 + 1 = omega (arith, some) in
    let is = sym c.empties.ensures ∙ c.if-not-empties.false in
    let none = subst (λ (n : ℕ). list_any is_emptying (drop n entries) ≡ false) next c.loop-from.invariant.none in
    let within : c.loop-from.from - 1 < length entries = omega (arith, some, c.loop-from.invariant.within) in
    ap (λ (n : ℕ). drop n entries) next ∙ since_emptied-at entries (c.loop-from.from - 1) _ within is none

pub returns-after-loop-from-clause-rest : goal.returns-after-loop-from-clause-rest
returns-after-loop-from-clause-rest c =
    let all : c.loop-from.from ≡ 0 = omega (arith, c.loop-from-test.false) in
    ap (λ (n : ℕ). drop n c.args.entries.now) all
    ∙ sym (since_emptied-none c.args.entries.now (subst (λ (n : ℕ). list_any is_emptying (drop n c.args.entries.now) ≡ false) all c.loop-from.invariant.none))
