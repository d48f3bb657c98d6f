-- Windows with the counts that were made for them.
-- (For functions and proofs: no promise of the program stands on it.)
use Rattle.std.specs.Prelude.{ℕ, ◌-◌, Bool, nat_lt, List, [], ◌∷◌}
use Rattle.pair_windows.specs.declared.joint_window.JointWindow.{JointWindow}
use Rattle.pair_windows.specs.declared.level_masks.LevelMasks.{LevelMasks}
use Rattle.private_lru.specs.declared.counts.WindowCounts.{WindowCounts}
use Rattle.private_lru.specs.declared.span.Span.{Span}

-- The window of a group with its masks, from its counts where a use hits by its L2 entry, and where it hits by its L3 entry. As many uses hit in
-- private caches as covered ones hit, and what does not hit the L2 is asked of the L3.
abbrev pub counted_window : ℕ → ℕ → Span LevelMasks → WindowCounts → WindowCounts → JointWindow
counted_window domain from h l2 l3 = record {
  domain = domain;
  gid = h.held.gid;
  from = from;
  uses = l2.accesses;
  covered = l2.covered;
  l2_hits = l2.covered_hits;
  l2_private = l2.covered_hits;
  l3_accesses = l2.covered - l2.covered_hits;
  l3_hits = l3.covered_hits;
  l3_private = l3.covered_hits;
}

-- whether the group of a window uses lines in it
abbrev pub is_used : JointWindow → Bool
is_used w = nat_lt 0 w.uses

-- the windows of these groups
abbrev pub counted_windows : ℕ → ℕ → List (Span LevelMasks) → List WindowCounts → List WindowCounts → List JointWindow
counted_windows domain from [] l2 l3 = []
counted_windows domain from (h ∷ hs) [] l3 = []
counted_windows domain from (h ∷ hs) (a ∷ rest) [] = []
counted_windows domain from (h ∷ hs) (a ∷ rest) (b ∷ bs) = counted_window domain from h a b ∷ counted_windows domain from hs rest bs
