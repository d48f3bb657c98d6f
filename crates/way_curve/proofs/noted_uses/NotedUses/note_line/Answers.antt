use Rattle.std.proofs.Common.{◌≡◌, true, false, List, [], ◌∷◌, sym, ap, ◌∙◌, subst}
use Rattle.lackey_text.specs.Uses.{uses_left}
use Rattle.lackey_text.specs.declared.uses.LineUse.{LineUse}
use Rattle.way_curve.specs.Noted.{NoteUses}
use Rattle.way_curve.specs.Samples.{is_kept, sampled}
use Rattle.way_curve.proofs.FirstCounts.{NoteUses-append, NoteUses-nil}
use Rattle.way_curve.proofs.SampleLists.{sampled-cons_in, sampled-cons_out, sampled-nil}
use Rattle.way_curve.proofs.noted_uses.NotedUses.note_line.Goals as goal

pub loop-used-preserved-then-is_kept : goal.loop-used-preserved-then-is_kept
loop-used-preserved-then-is_kept c =
    let o = c.args.one_of in
    let rest = uses_left c.next.new.self in
    let first : uses_left c.loop-used.used-iterator ≡ c.in-Some.used ∷ rest = c.in-Some.ensures.steps in
    let is_in : is_kept o c.in-Some.used.line ≡ true = sym c.is_kept.ensures ∙ c.if-is_kept.true in
    let left : sampled o (uses_left c.loop-used.used-iterator) ≡ c.in-Some.used ∷ sampled o rest = ap (λ (us : List LineUse). sampled o us) first ∙ sampled-cons_in o c.in-Some.used rest is_in in
    record {
      next = tt;
      finite = tt;
      noted = λ now more. c.loop-used.invariant.noted now (subst (λ (us : List LineUse). NoteUses c.loop-used.self now us) (sym left)
          (NoteUses-append c.loop-used.self c.note.new.self now (c.in-Some.used ∷ []) (sampled o rest) c.note.ensures more));
    }

pub loop-used-preserved : goal.loop-used-preserved
loop-used-preserved c =
    let o = c.args.one_of in
    let rest = uses_left c.next.new.self in
    let first : uses_left c.loop-used.used-iterator ≡ c.in-Some.used ∷ rest = c.in-Some.ensures.steps in
    let is_out : is_kept o c.in-Some.used.line ≡ false = sym c.is_kept.ensures ∙ c.if-is_kept.false in
    let left : sampled o (uses_left c.loop-used.used-iterator) ≡ sampled o rest = ap (λ (us : List LineUse). sampled o us) first ∙ sampled-cons_out o c.in-Some.used rest is_out in
    record {
      next = tt;
      finite = tt;
      noted = λ now more. c.loop-used.invariant.noted now (subst (λ (us : List LineUse). NoteUses c.loop-used.self now us) (sym left) more);
    }

pub returns : goal.returns
returns c =
    let none : uses_left c.loop-used.used-iterator ≡ [] = c.in-None.ensures.steps.0 in
    let left : sampled c.args.one_of (uses_left c.loop-used.used-iterator) ≡ [] = ap (λ (us : List LineUse). sampled c.args.one_of us) none ∙ sampled-nil c.args.one_of in
    c.loop-used.invariant.noted c.loop-used.self (subst (λ (us : List LineUse). NoteUses c.loop-used.self c.loop-used.self us) (sym left) (NoteUses-nil c.loop-used.self))
