use Rattle.std.proofs.Common.{◌≡◌, ℕ, ◌≤◌, codes, sym, subst, ◌∙◌, arith}
use Rattle.machine.specs.declared.parameters.Parameters.{Parameters}
use Rattle.machine.specs.Slices.{slice_count}
use Rattle.rc_base.proofs.laws.Texts.{is_text-same}
use Rattle.journal_text.proofs.Refusals.{LeadsFromSlices-none, last_line-other}
use Rattle.journal_text.proofs.slices.after_slices.Goals as goal

-- at least as many as the machine has
at_most : {m p : Parameters} {n k slices : ℕ} → m ≡ p → n ≡ slice_count m → k ≡ n → k ≤ slices → slice_count p ≤ slices
at_most {m} {p} {n} {k} {slices} machine count from le = subst (λ (q : Parameters). slice_count q ≤ slices) machine (omega (arith, count, from, le))

pub returns-then-is_text : goal.returns-then-is_text
returns-then-is_text c = record {
  all = let e : c.args.slices ≡ slice_count c.args.weighed.now.script.now.machine = omega (arith, at_most c.machine-machine.ensures c.slice_count.ensures.count c.from.ensures c.if-slices-from.false, c.requires.few) in e;
  same = sym (is_text-same c.args.line.now (codes "end") (sym c.is_text.ensures ∙ c.if-is_text.true));
}

pub returns-else-is_text : goal.returns-else-is_text
returns-else-is_text c = LeadsFromSlices-none c.args.weighed.now.script.now c.args.slices c.args.line.now (at_most c.machine-machine.ensures c.slice_count.ensures.count c.from.ensures c.if-slices-from.false) (last_line-other c.args.line.now (sym c.is_text.ensures ∙ c.if-is_text.false))
