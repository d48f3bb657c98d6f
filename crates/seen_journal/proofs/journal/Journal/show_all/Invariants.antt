use Rattle.std.proofs.Common.{◌≡◌, All}
use Rattle.seen_journal.specs.Passes.{HasAll, PassValue}
use Rattle.seen_journal.proofs.journal.Journal.show_all.Given as goal

abbrev pub invariant-loop-pass : goal.invariant-loop-pass
invariant-loop-pass g l = record {
  self : l.self ≡ l.initial.self;
  names : All (λ (p : PassValue g.row.E.Denot). p.name ≡ l.initial.self.name) l.passes.items;
  whole : All (HasAll l.initial.self.entries) l.passes.items → All (HasAll l.initial.self.entries) l.initial.passes.items;
}

abbrev pub decreases-loop-pass : goal.decreases-loop-pass
decreases-loop-pass g l = goal.left-loop-pass g l
