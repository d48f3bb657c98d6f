use Rattle.std.proofs.Common.{◌≡◌, ℕ, true, is_none, unwrap_or, sym, ap, arith}
use Rattle.lists.proofs.RangeTests.{append-filled, find-least, find-none}
use Rattle.tree_core.specs.Values.{TreeValue}
use Rattle.tree_law.specs.Space.{initial_mask}
use Rattle.tree_core.proofs.tree.Tree.new_masks.Goals as goal

pub returns-clause-space : goal.returns-clause-space
returns-clause-space c =
    let t = c.args.self.now in
    let domains = ap (λ (v : TreeValue). v.machine.domains) c.self.view_is in
    find-none (λ (domain : ℕ). is_none (initial_mask t.machine t.state domain)) t.machine.domains (λ k lt. c.loop-domain.invariant.space k (omega (arith, domains)))

pub returns-clause-masks : goal.returns-clause-masks
returns-clause-masks c =
    let t = c.args.self.now in
    let domains = ap (λ (v : TreeValue). v.machine.domains) c.self.view_is in
    append-filled (λ (domain : ℕ). unwrap_or (initial_mask t.machine t.state domain) 0) c.loop-domain.masks t.machine.domains (omega (arith, domains)) c.loop-domain.invariant.count
    (λ k lt. c.loop-domain.invariant.before k (omega (arith, domains))) (λ k le. c.loop-domain.invariant.behind k (omega (arith, domains)))

pub returns-in_default-clause-full : goal.returns-in_default-clause-full
returns-in_default-clause-full c =
    let t = c.args.self.now in
    let domains = ap (λ (v : TreeValue). v.machine.domains) c.self.view_is in
    let full : is_none (initial_mask t.machine t.state c.loop-domain.domain) ≡ true = ap is_none (sym c.in_default.ensures) in
    find-least (λ (domain : ℕ). is_none (initial_mask t.machine t.state domain)) t.machine.domains c.loop-domain.domain (omega (arith, domains)) c.loop-domain.invariant.space full
