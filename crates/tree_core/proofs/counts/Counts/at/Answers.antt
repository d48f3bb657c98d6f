use Rattle.std.proofs.Common.{◌<◌, ◌*◌, ℕ, List, length, sym, subst, ap, ◌∙◌}
use Rattle.std.specs.List.{slice_get}
use Rattle.tree_core.proofs.NeededCounts.{length-counts_in, place-counts_in, slice_get-counts_in}
use Rattle.tree_core.proofs.counts.Counts.at.Goals as goal

pub bounds-deref-i : goal.bounds-deref-i
bounds-deref-i c =
    let counts = c.self.inside in
    let within : c.args.i < length counts.rmids.items * counts.domains = subst (λ (n : ℕ). c.args.i < n) (ap (λ (xs : List (ℕ × ℕ)). length xs) (sym c.self.view_is) ∙ length-counts_in counts.first counts.domains counts.rmids.items) c.requires in
    rw (c.from-domains.ensures, c.deref.ensures.0) (place-counts_in counts.domains c.args.i (length counts.rmids.items) c.self.invariant.0 within)

pub returns : goal.returns
returns c =
    let counts = c.self.inside in
    let within : c.args.i < length counts.rmids.items * counts.domains = subst (λ (n : ℕ). c.args.i < n) (ap (λ (xs : List (ℕ × ℕ)). length xs) (sym c.self.view_is) ∙ length-counts_in counts.first counts.domains counts.rmids.items) c.requires in
    rw (c.from-domains.ensures, c.deref.ensures.0)
    (ap (λ (xs : List (ℕ × ℕ)). slice_get xs c.args.i) (sym c.self.view_is) ∙ slice_get-counts_in counts.first counts.domains counts.rmids.items c.args.i c.self.invariant.0 within)
