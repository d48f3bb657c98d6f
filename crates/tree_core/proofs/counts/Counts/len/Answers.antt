use Rattle.std.proofs.Common.{ℕ, ◌*◌, List, length, sym, ap, ap₂, ◌∙◌}
use Rattle.tree_core.proofs.NeededCounts.{length-counts_in}
use Rattle.tree_core.proofs.counts.Counts.len.Goals as goal

pub returns : goal.returns
returns c =
    let counts = c.self.inside in
    ap₂ (λ (a b : ℕ). a * b) c.len.ensures.value c.from.ensures ∙ sym (length-counts_in counts.first counts.domains counts.rmids.items) ∙ ap (λ (xs : List (ℕ × ℕ)). length xs) c.self.view_is
