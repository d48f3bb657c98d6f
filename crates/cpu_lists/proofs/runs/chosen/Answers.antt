use Rattle.std.proofs.Common.{not, sym, ap, ◌∙◌}
use Rattle.std.proofs.lemmas.Bool.{not-true, not-false}
use Rattle.cpu_lists.specs.Sets.{has}
use Rattle.cpu_lists.proofs.LowParts.{has-bit_not}
use Rattle.cpu_lists.proofs.runs.chosen.Goals as goal

pub returns-then-wanted : goal.returns-then-wanted
returns-then-wanted c = record {
  chosen = λ k lt e. e ∙ sym c.if-wanted.true;
  others = λ k lt e. e ∙ sym (ap not c.if-wanted.true);
}

pub returns-else-wanted : goal.returns-else-wanted
returns-else-wanted c = record {
  chosen = λ k lt e. not-true (has c.args.set k) (sym (has-bit_not c.args.set k c.ranges.set.fits lt) ∙ e) ∙ sym c.if-wanted.false;
  others = λ k lt e. not-false (has c.args.set k) (sym (has-bit_not c.args.set k c.ranges.set.fits lt) ∙ e) ∙ sym (ap not c.if-wanted.false);
}
