use Rattle.std.proofs.Common.{◌≡◌, true, false, sym, subst, ◌∙◌}
use Rattle.journal_check.proofs.FirstFalse.{HoldBefore-accesses, HoldBefore-after, HoldBefore-entries, HoldBefore-first, HoldBefore-looks, HoldBefore-marks, HoldBefore-order, HoldBefore-others, HoldBefore-slices, HoldBefore-tree}
use Rattle.journal_check.specs.Tables.{AreTakenOnce}
use Rattle.run_law.specs.Clauses.{EntriesStandOnce}
use Rattle.run_law.specs.TreeHistory.{IsLegalTree}
use Rattle.journal_check.proofs.answers.first_false.Goals as goal

-- ---- clauses that a test takes as given

pub are_accesses_true-requires-clause-legal : goal.are_accesses_true-requires-clause-legal
are_accesses_true-requires-clause-legal c =
    let script = c.args.script.now in
    let some = rw c.in-Some.is at c.in_ok-steps.ensures in
    let legal = subst (IsLegalTree script) c.tree-tree.ensures some.0 in
    legal

pub are_accesses_true-requires-clause-once : goal.are_accesses_true-requires-clause-once
are_accesses_true-requires-clause-once c =
    let script = c.args.script.now in
    let once = subst (AreTakenOnce script) c.tree-tree.ensures (c.in_ok-once.ensures.0 c.if-not-once.false) in
    once

pub places_of-requires-clause-legal : goal.places_of-requires-clause-legal
places_of-requires-clause-legal c = let some = rw c.in-Some.is at c.in_ok-steps.ensures in some.0

pub are_matched-requires-clause-range : goal.are_matched-requires-clause-range
are_matched-requires-clause-range c = c.threads-threads.ensures.lawful.in_range

pub are_matched-requires-clause-legal : goal.are_matched-requires-clause-legal
are_matched-requires-clause-legal c =
    let script = c.args.script.now in
    let some = rw c.in-Some.is at c.in_ok-steps.ensures in
    let legal = subst (IsLegalTree script) c.tree-tree.ensures some.0 in
    legal

pub are_made_once-requires-clause-legal : goal.are_made_once-requires-clause-legal
are_made_once-requires-clause-legal c =
    let script = c.args.script.now in
    let some = rw c.in-Some.is at c.in_ok-steps.ensures in
    let legal = subst (IsLegalTree script) c.tree-tree.ensures some.0 in
    legal

pub starts_of-requires-clause-legal : goal.starts_of-requires-clause-legal
starts_of-requires-clause-legal c =
    let script = c.args.script.now in
    let some = rw c.in-Some.is at c.in_ok-steps.ensures in
    let legal = subst (IsLegalTree script) c.tree-tree.ensures some.0 in
    legal

pub are_in_order-requires-2-clause-of_ops : goal.are_in_order-requires-2-clause-of_ops
are_in_order-requires-2-clause-of_ops c =
    let made : EntriesStandOnce c.args.script.now c.args.j.now = c.in_ok-made.ensures.0 c.if-not-made.false in
    made.no_others

-- ---- the first that is false

pub returns-then-not-once : goal.returns-then-not-once
returns-then-not-once c =
    let script = c.args.script.now in
    record {
      before = HoldBefore-first script c.args.j.now;
      false_here = λ holds. (let wrong : true ≡ false = sym (c.in_ok-once.ensures.1 (subst (AreTakenOnce script) (sym c.tree-tree.ensures) holds)) ∙ c.if-not-once.true in cc);
    }

pub returns-in_default : goal.returns-in_default
returns-in_default c =
    let script = c.args.script.now in
    let once = subst (AreTakenOnce script) c.tree-tree.ensures (c.in_ok-once.ensures.0 c.if-not-once.false) in
    record {
      before = HoldBefore-tree script c.args.j.now once;
      false_here = λ holds. (let none = rw c.in_default.is at c.in_ok-steps.ensures in none (subst (IsLegalTree script) (sym c.tree-tree.ensures) holds));
    }

pub returns-then-not-legal : goal.returns-then-not-legal
returns-then-not-legal c =
    let script = c.args.script.now in
    let once = subst (AreTakenOnce script) c.tree-tree.ensures (c.in_ok-once.ensures.0 c.if-not-once.false) in
    let some = rw c.in-Some.is at c.in_ok-steps.ensures in
    let legal = subst (IsLegalTree script) c.tree-tree.ensures some.0 in
    record {
      before = HoldBefore-slices script c.args.j.now once legal;
      false_here = λ holds. (let wrong : true ≡ false = sym (c.in_ok-legal.ensures.1 holds) ∙ c.if-not-legal.true in cc);
    }

pub returns-then-not-answered : goal.returns-then-not-answered
returns-then-not-answered c =
    let script = c.args.script.now in
    let once = subst (AreTakenOnce script) c.tree-tree.ensures (c.in_ok-once.ensures.0 c.if-not-once.false) in
    let some = rw c.in-Some.is at c.in_ok-steps.ensures in
    let legal = subst (IsLegalTree script) c.tree-tree.ensures some.0 in
    record {
      before = HoldBefore-accesses script c.args.j.now once legal (c.in_ok-legal.ensures.0 c.if-not-legal.false);
      false_here = λ holds. (let wrong : true ≡ false = sym (c.in_ok-answered.ensures.1 holds) ∙ c.if-not-answered.true in cc);
    }

pub returns-then-not-are_owed : goal.returns-then-not-are_owed
returns-then-not-are_owed c =
    let script = c.args.script.now in
    let once = subst (AreTakenOnce script) c.tree-tree.ensures (c.in_ok-once.ensures.0 c.if-not-once.false) in
    let some = rw c.in-Some.is at c.in_ok-steps.ensures in
    let legal = subst (IsLegalTree script) c.tree-tree.ensures some.0 in
    record {
      before = HoldBefore-others script c.args.j.now once legal (c.in_ok-legal.ensures.0 c.if-not-legal.false) (c.in_ok-answered.ensures.0 c.if-not-answered.false);
      false_here = λ holds. (let wrong : true ≡ false = sym (c.are_owed.ensures.1 holds) ∙ c.if-not-are_owed.true in cc);
    }

pub returns-then-not-are_after_commands : goal.returns-then-not-are_after_commands
returns-then-not-are_after_commands c =
    let script = c.args.script.now in
    let once = subst (AreTakenOnce script) c.tree-tree.ensures (c.in_ok-once.ensures.0 c.if-not-once.false) in
    let some = rw c.in-Some.is at c.in_ok-steps.ensures in
    let legal = subst (IsLegalTree script) c.tree-tree.ensures some.0 in
    record {
      before = HoldBefore-after script c.args.j.now once legal (c.in_ok-legal.ensures.0 c.if-not-legal.false) (c.in_ok-answered.ensures.0 c.if-not-answered.false) (c.are_owed.ensures.0 c.if-not-are_owed.false);
      false_here = λ holds. (let wrong : true ≡ false = sym (c.are_after_commands.ensures.1 holds) ∙ c.if-not-are_after_commands.true in cc);
    }

pub returns-then-not-matched : goal.returns-then-not-matched
returns-then-not-matched c =
    let script = c.args.script.now in
    let once = subst (AreTakenOnce script) c.tree-tree.ensures (c.in_ok-once.ensures.0 c.if-not-once.false) in
    let some = rw c.in-Some.is at c.in_ok-steps.ensures in
    let legal = subst (IsLegalTree script) c.tree-tree.ensures some.0 in
    record {
      before = HoldBefore-looks script c.args.j.now once legal (c.in_ok-legal.ensures.0 c.if-not-legal.false) (c.in_ok-answered.ensures.0 c.if-not-answered.false) (c.are_owed.ensures.0 c.if-not-are_owed.false) (c.are_after_commands.ensures.0 c.if-not-are_after_commands.false);
      false_here = λ holds. (let wrong : true ≡ false = sym (c.in_ok-matched.ensures.1 holds) ∙ c.if-not-matched.true in cc);
    }

pub returns-then-not-made : goal.returns-then-not-made
returns-then-not-made c =
    let script = c.args.script.now in
    let once = subst (AreTakenOnce script) c.tree-tree.ensures (c.in_ok-once.ensures.0 c.if-not-once.false) in
    let some = rw c.in-Some.is at c.in_ok-steps.ensures in
    let legal = subst (IsLegalTree script) c.tree-tree.ensures some.0 in
    record {
      before = HoldBefore-entries script c.args.j.now once legal (c.in_ok-legal.ensures.0 c.if-not-legal.false) (c.in_ok-answered.ensures.0 c.if-not-answered.false) (c.are_owed.ensures.0 c.if-not-are_owed.false) (c.are_after_commands.ensures.0 c.if-not-are_after_commands.false) (c.in_ok-matched.ensures.0 c.if-not-matched.false);
      false_here = λ holds. (let wrong : true ≡ false = sym (c.in_ok-made.ensures.1 holds) ∙ c.if-not-made.true in cc);
    }

pub returns-then-not-are_in_order : goal.returns-then-not-are_in_order
returns-then-not-are_in_order c =
    let script = c.args.script.now in
    let once = subst (AreTakenOnce script) c.tree-tree.ensures (c.in_ok-once.ensures.0 c.if-not-once.false) in
    let some = rw c.in-Some.is at c.in_ok-steps.ensures in
    let legal = subst (IsLegalTree script) c.tree-tree.ensures some.0 in
    record {
      before = HoldBefore-marks script c.args.j.now once legal (c.in_ok-legal.ensures.0 c.if-not-legal.false) (c.in_ok-answered.ensures.0 c.if-not-answered.false) (c.are_owed.ensures.0 c.if-not-are_owed.false) (c.are_after_commands.ensures.0 c.if-not-are_after_commands.false) (c.in_ok-matched.ensures.0 c.if-not-matched.false) (c.in_ok-made.ensures.0 c.if-not-made.false);
      false_here = λ holds. (let wrong : true ≡ false = sym (c.are_in_order.ensures.1 holds) ∙ c.if-not-are_in_order.true in cc);
    }

pub returns-then-not-ordered : goal.returns-then-not-ordered
returns-then-not-ordered c =
    let script = c.args.script.now in
    let once = subst (AreTakenOnce script) c.tree-tree.ensures (c.in_ok-once.ensures.0 c.if-not-once.false) in
    let some = rw c.in-Some.is at c.in_ok-steps.ensures in
    let legal = subst (IsLegalTree script) c.tree-tree.ensures some.0 in
    record {
      before = HoldBefore-order script c.args.j.now once legal (c.in_ok-legal.ensures.0 c.if-not-legal.false) (c.in_ok-answered.ensures.0 c.if-not-answered.false) (c.are_owed.ensures.0 c.if-not-are_owed.false) (c.are_after_commands.ensures.0 c.if-not-are_after_commands.false) (c.in_ok-matched.ensures.0 c.if-not-matched.false) (c.in_ok-made.ensures.0 c.if-not-made.false) (c.are_in_order.ensures.0 c.if-not-are_in_order.false);
      false_here = λ holds. (let wrong : true ≡ false = sym (c.in_ok-ordered.ensures.1 holds) ∙ c.if-not-ordered.true in cc);
    }

-- ---- none

pub returns : goal.returns
returns c =
    let script = c.args.script.now in
    let once = subst (AreTakenOnce script) c.tree-tree.ensures (c.in_ok-once.ensures.0 c.if-not-once.false) in
    let some = rw c.in-Some.is at c.in_ok-steps.ensures in
    let legal = subst (IsLegalTree script) c.tree-tree.ensures some.0 in
    record {
      commands_once = once;
      tree_legal = legal;
      slices_legal = c.in_ok-legal.ensures.0 c.if-not-legal.false;
      accesses_true = c.in_ok-answered.ensures.0 c.if-not-answered.false;
      others_true = c.are_owed.ensures.0 c.if-not-are_owed.false;
      after_commands = c.are_after_commands.ensures.0 c.if-not-are_after_commands.false;
      looks_matched = c.in_ok-matched.ensures.0 c.if-not-matched.false;
      entries_once = c.in_ok-made.ensures.0 c.if-not-made.false;
      marks = c.are_in_order.ensures.0 c.if-not-are_in_order.false;
      entries_in_order = c.in_ok-ordered.ensures.0 c.if-not-ordered.false;
    }
