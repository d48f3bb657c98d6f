use Rattle.std.proofs.Common.{◌≡◌, ℕ, Bool, true, false, not, ◌&&◌, ◌||◌, slice_index, sym, ap, ◌∙◌}
use Rattle.std.specs.Prelude.{◌==◌}
use Rattle.pair_windows.proofs.SharedDomains.{list_all-more}
use Rattle.pair_law.specs.JointWindows.{domain_above}
use Rattle.pair_windows.proofs.level_spans.is_same_below.Goals.{then-same, else-same}
use Rattle.pair_windows.proofs.level_spans.is_same_below.Goals as goal

pub loop-x-preserved : goal.loop-x-preserved
loop-x-preserved c =
    let f : ℕ → Bool = λ x. not (domain_above c.args.script.now.machines x == c.args.domain) || (slice_index c.args.first.now x == slice_index c.args.held.now x) in
    let now : c.if-same.same ≡ (c.loop-x.same && f c.loop-x.x) = (elim c.if-same.branch [
      | then-same w ↦ let on : c.loop-x.same ≡ true = w.if-same.true in w.same-is ∙ (w.is_same_in-same.ensures ∙ ap (λ b. b && f c.loop-x.x) (sym on))
      | else-same w ↦ let off : c.loop-x.same ≡ false = w.if-same.false in let is = w.same-is in let no : c.if-same.same ≡ false = cc in no ∙ ap (λ b. b && f c.loop-x.x) (sym off)
    ]) in
    list_all-more f c.loop-x.x c.loop-x.same c.if-same.same c.loop-x.invariant now
