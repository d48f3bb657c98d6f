use Rattle.std.proofs.Common.{◌≡◌, ℕ, ◌+◌, ◌-◌, ◌∷◌, [], Global, List, Vec, length, refl, sym, subst, ap, ◌∙◌, arith}
use Rattle.std.proofs.lemmas.List.{length-append}
use Rattle.run_law.specs.Journals.{At}
use Rattle.run_windows.proofs.SweptChanges.{IsSwept-next, marks-due, marks-early, marks-push}
use Rattle.run_windows.specs.Sweeps.{IsSwept, swept}
use Rattle.run_windows.specs.declared.sweep.Sweep.{Sweep}
use Rattle.run_windows.proofs.timeline.marks.Goals as goal
use Rattle.run_windows.proofs.timeline.marks.Goals.{then-back-len+in_ok-same_sweep+in_ok-push, else-back-len}

pub loop-back-preserved : goal.loop-back-preserved
loop-back-preserved c =
    let domain = c.args.domain in
    let pasts = c.args.pasts.now in
    let end : ℕ = length c.args.run.now.journals.now.tree in
    let back = c.loop-back.back in
    let was = c.loop-back.invariant in
    let old : List Sweep = c.loop-back.marks.items in
    let size : c.len.result ≡ length old = let e = c.len.ensures in omega (arith, e, c.loop-back.marks.ok.0) in
    let one : IsSwept (swept domain end pasts (back + 1)) c.sweep_over.new.sweep =
    IsSwept-next domain end pasts back (length pasts - 1 - back) c.index-pasts-pasts.result c.loop-back.sweep c.sweep_over.new.sweep c.loop-back-test.true refl c.index-pasts-pasts.is was.is c.in_ok-sweep_over.ensures in
    record {
      is = one;
      each = elim c.if-back-len.branch [
        | then-back-len+in_ok-same_sweep+in_ok-push w ↦
            let x : Sweep = w.in_ok-same_sweep.field-0 in
            let same = w.in_ok-same_sweep.ensures in
            marks-push domain end pasts back old c.if-back-len.marks.items x was.each (marks-due back (length old) (w.if-back-len.true ∙ size) was.all) (same.0 ∙ one.0, same.1 ∙ one.1)
            (ap (λ (v : Vec Sweep Global). v.items) w.marks-is ∙ w.in_ok-push.ensures.items)
        | else-back-len w ↦ λ i m at. was.each i m (subst (λ (l : List Sweep). At l i m) (ap (λ (v : Vec Sweep Global). v.items) w.marks-is) at)
      ];
      all = elim c.if-back-len.branch [
        | then-back-len+in_ok-same_sweep+in_ok-push w ↦
            let due = marks-due back (length old) (w.if-back-len.true ∙ size) was.all in
            let made = ap length (ap (λ (v : Vec Sweep Global). v.items) w.marks-is ∙ w.in_ok-push.ensures.items) in
            let more = length-append old (w.in_ok-same_sweep.field-0 ∷ []) in
            omega (arith, due, made, more)
        | else-back-len w ↦
            let less = marks-early back (length old) (λ is. w.if-back-len.false (is ∙ sym size)) was.all in
            let same = ap (λ (v : Vec Sweep Global). length v.items) w.marks-is in
            omega (arith, less, same)
      ];
    }
