use Rattle.std.proofs.Common.{◌≡◌, true, false, List, [], ◌∷◌, length, sym, ap, ◌∙◌, subst, arith}
use Rattle.lackey_text.specs.Uses.{uses_left, uses_of}
use Rattle.lackey_text.specs.declared.uses.LineUse.{LineUse}
use Rattle.way_curve.specs.Counting.{AddUses}
use Rattle.way_curve.specs.Samples.{is_sampled, sample_of}
use Rattle.way_curve.proofs.Counts.{AddUses-append, AddUses-nil}
use Rattle.way_curve.proofs.SampleLists.{length-sample_of, sample_of-cons_in, sample_of-cons_out}
use Rattle.way_curve.proofs.curves.UseCurves.note_sample.Goals as goal

pub note-requires : goal.note-requires
note-requires c =
    let n = c.args.one_of in
    let rest = uses_left c.next.new.self in
    let before = c.loop-used.invariant in
    let first : uses_left c.loop-used.used-iterator ≡ c.in-Some.used ∷ rest = c.in-Some.ensures.steps in
    let is_in : is_sampled n c.in-Some.used.line ≡ true = sym c.is_sampled.ensures ∙ c.if-is_sampled.true in
    let left : sample_of n (uses_left c.loop-used.used-iterator) ≡ c.in-Some.used ∷ sample_of n rest = ap (λ (us : List LineUse). sample_of n us) first ∙ sample_of-cons_in n c.in-Some.used rest is_in in
    record { room = omega (arith, before.count, ap length left, length-sample_of n (uses_of c.args.said.now), c.requires.room) }

pub loop-used-preserved-then-is_sampled : goal.loop-used-preserved-then-is_sampled
loop-used-preserved-then-is_sampled c =
    let n = c.args.one_of in
    let rest = uses_left c.next.new.self in
    let before = c.loop-used.invariant in
    let first : uses_left c.loop-used.used-iterator ≡ c.in-Some.used ∷ rest = c.in-Some.ensures.steps in
    let is_in : is_sampled n c.in-Some.used.line ≡ true = sym c.is_sampled.ensures ∙ c.if-is_sampled.true in
    let left : sample_of n (uses_left c.loop-used.used-iterator) ≡ c.in-Some.used ∷ sample_of n rest = ap (λ (us : List LineUse). sample_of n us) first ∙ sample_of-cons_in n c.in-Some.used rest is_in in
    record {
      next = tt;
      finite = tt;
      count = omega (arith, ap length left, before.count, c.note.ensures.uses);
      counted = λ now more. before.counted now (subst (λ (us : List LineUse). AddUses c.loop-used.self now us) (sym left)
          (AddUses-append c.loop-used.self c.note.new.self now (c.in-Some.used ∷ []) (sample_of n rest) c.note.ensures.counted more));
    }

pub loop-used-preserved : goal.loop-used-preserved
loop-used-preserved c =
    let n = c.args.one_of in
    let rest = uses_left c.next.new.self in
    let before = c.loop-used.invariant in
    let first : uses_left c.loop-used.used-iterator ≡ c.in-Some.used ∷ rest = c.in-Some.ensures.steps in
    let is_out : is_sampled n c.in-Some.used.line ≡ false = sym c.is_sampled.ensures ∙ c.if-is_sampled.false in
    let left : sample_of n (uses_left c.loop-used.used-iterator) ≡ sample_of n rest = ap (λ (us : List LineUse). sample_of n us) first ∙ sample_of-cons_out n c.in-Some.used rest is_out in
    record {
      next = tt;
      finite = tt;
      count = omega (arith, ap length left, before.count);
      counted = λ now more. before.counted now (subst (λ (us : List LineUse). AddUses c.loop-used.self now us) (sym left) more);
    }

pub returns-clause-counted : goal.returns-clause-counted
returns-clause-counted c =
    let none : uses_left c.loop-used.used-iterator ≡ [] = c.in-None.ensures.steps.0 in
    c.loop-used.invariant.counted c.loop-used.self (subst (λ (us : List LineUse). AddUses c.loop-used.self c.loop-used.self (sample_of c.args.one_of us)) (sym none) (AddUses-nil c.loop-used.self))
