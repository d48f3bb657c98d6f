use Rattle.std.proofs.Common.{ℕ, List, length, sym, subst}
use Rattle.private_lru.proofs.CountedFronts.{AreCounted-tallies}
use Rattle.private_lru.proofs.CutEnds.{AreEnds-cuts}
use Rattle.private_lru.specs.Cuts.{AreReaches}
use Rattle.private_lru.specs.Tallies.{AreTallies}
use Rattle.private_lru.specs.Uses.{AreUses}
use Rattle.private_lru.specs.declared.uses.LineUse.{LineUse}
use Rattle.private_lru.proofs.tallies.counts_of.Goals as goal

pub returns : goal.returns
returns c =
    let entries = c.args.entries.now in
    let stays = c.args.stays.now in
    let uses = subst (λ (us : List LineUse). AreUses entries us) (sym c.deref-2.ensures.value) c.in_ok-uses.ensures in
    let reaches = subst (λ (rs : List ℕ). AreReaches entries (length entries) stays rs) (sym c.deref.ensures.value) c.in_ok-reaches.ensures in
    AreCounted-tallies c.args.sets c.args.opening entries stays c.in_ok-ends.ends.items c.in_ok-counts.counts.items
    (AreEnds-cuts c.args.sets c.args.opening entries c.deref-2.result.now uses stays c.deref.result.now c.in_ok-ends.ends.items reaches c.in_ok-ends.ensures)
    (subst (λ (ends : List ℕ). AreTallies entries (length entries) stays ends c.in_ok-counts.counts.items) c.deref-3.ensures.value c.in_ok-counts.ensures)
