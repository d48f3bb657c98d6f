use Rattle.std.proofs.Common.{sym, ◌∙◌, arith}
use Rattle.pair_law.specs.Others.{class_is_free}
use Rattle.pair_text.specs.Values.{class_count}
use Rattle.lists.proofs.RangeTests.{find-least, find-none}
use Rattle.pair_tree.specs.Tables.{state_of}
use Rattle.pair_tree.proofs.tables.Tables.free_class.Goals as goal

pub returns-then-is_free : goal.returns-then-is_free
returns-then-is_free c =
    sym (find-least (class_is_free (state_of c.args.self.now)) (class_count c.args.m.now) c.loop-class.class (omega (arith, c.class_count-class-end.ensures.count)) c.loop-class.invariant (sym c.is_free.ensures ∙ c.if-is_free.true))

pub returns : goal.returns
returns c = sym (find-none (class_is_free (state_of c.args.self.now)) (class_count c.args.m.now) (λ k lt. c.loop-class.invariant k (omega (arith, c.class_count-class-end.ensures.count))))
