use Rattle.std.proofs.Common.{◌≡◌, ◌∙◌, true, false, sym, subst}
use Rattle.journal_check.specs.Tables.{AreTakenOnce}
use Rattle.run_law.specs.TreeHistory.{IsLegalTree}
use Rattle.check_parts.proofs.judged_slices.are_looks_matched.Goals as goal

pub places_of-requires-clause-legal : goal.places_of-requires-clause-legal
places_of-requires-clause-legal c = let some = rw c.in-Some.is at c.in_ok-steps.ensures in some.0

pub are_matched-requires-clause-range : goal.are_matched-requires-clause-range
are_matched-requires-clause-range c = c.threads-threads.ensures.lawful.in_range

pub are_matched-requires-clause-legal : goal.are_matched-requires-clause-legal
are_matched-requires-clause-legal c =
    let script = c.args.script.now in
    let some = rw c.in-Some.is at c.in_ok-steps.ensures in
    let legal = subst (IsLegalTree script) c.tree-tree.ensures some.0 in
    legal

pub returns-then-not-once : goal.returns-then-not-once
returns-then-not-once c =
    λ once legal.
    absurd (let wrong : true ≡ false = sym (c.in_ok-once.ensures.1 (subst (AreTakenOnce c.args.script.now) (sym c.tree-tree.ensures) once)) ∙ c.if-not-once.true in cc)

pub returns-in_default : goal.returns-in_default
returns-in_default c =
    λ once legal.
    absurd (let none = rw c.in_default.is at c.in_ok-steps.ensures in none (subst (IsLegalTree c.args.script.now) (sym c.tree-tree.ensures) legal))
