-- What was played so far of a script on two levels.
-- (For functions and proofs: no promise of the program stands on it.)
use Rattle.std.specs.Prelude.{ℕ, []}
use Rattle.pair_text.specs.Values.{PairScriptValue, epoch_at, side_machine}
use Rattle.pair_text.specs.declared.side.Side.{Side}
use Rattle.pair_text.specs.declared.side.Side.TheVariants.{First, Second}
use Rattle.pair_play.specs.Histories.{LevelValue}
use Rattle.pair_play.specs.SideTags.{tag_on}
use Rattle.pair_play.specs.SoFar.{IsLevelSoFar}
use Rattle.pair_law.specs.LevelRuns.{LevelJournalsValue, asked_at}
use Rattle.pair_tree.specs.declared.tag.PairTag.{PairTag}
use Rattle.rc_base.specs.declared.names.Tag.{Tag}

-- the journals so far, but for the replies, on which nothing that is asked depends
abbrev pub journals_of : LevelValue → LevelValue → LevelJournalsValue
journals_of l2 l3 = record { replies = []; l2 = l2.histories; l3 = l3.histories }

-- the caches of both levels after the first ops of a script
pub record IsLevelsSoFar (script : PairScriptValue) (i : ℕ) (first second : LevelValue) : Type 0 where
  pub l2 : IsLevelSoFar (asked_at script (journals_of first second) First) (side_machine script.machines First) i (epoch_at script i) first
  pub l3 : IsLevelSoFar (asked_at script (journals_of first second) Second) (side_machine script.machines Second) i (epoch_at script i) second

-- the tag of a use at a level: that of its group
abbrev pub level_tag : PairTag → Side → Tag
level_tag tag side = tag_on tag side tag.owner
