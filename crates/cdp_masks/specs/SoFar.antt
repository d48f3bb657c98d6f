-- What was played so far of a script on data and code masks.
-- (For functions and proofs: no promise of the program stands on it.)
use Rattle.std.specs.Prelude.{◌≡◌, ℕ, Bool, None}
use Rattle.pair_text.specs.Values.{PairScriptValue, epoch_at}
use Rattle.pair_play.specs.Histories.{LevelValue}
use Rattle.pair_play.specs.SideTags.{tag_on}
use Rattle.pair_play.specs.SoFar.{IsLevelSoFar}
use Rattle.pair_law.specs.CdpRuns.{asked_at, owner_on, side_of}
use Rattle.pair_tree.specs.declared.tag.PairTag.{PairTag}
use Rattle.rc_base.specs.declared.names.Tag.{Tag}

-- the caches after the first ops of a script on data and code masks
pub record IsCdpSoFar (script : PairScriptValue) (i : ℕ) (l : LevelValue) : Type 0 where
  pub code_masks : script.machines.l2 ≡ None
  pub level : IsLevelSoFar (asked_at script) script.machines.machine i (epoch_at script i) l

-- the tag of a use: that of the side of its group
abbrev pub use_tag : PairTag → Bool → Tag
use_tag tag code = tag_on tag (side_of code) (owner_on tag.owner (side_of code))
