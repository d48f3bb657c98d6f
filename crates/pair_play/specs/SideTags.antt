-- The tags of accesses on one side.
-- (For functions and proofs: no promise of the program stands on it.)
use Rattle.std.specs.Prelude.{ℕ, slice_index}
use Rattle.pair_law.specs.Epochs.{state_at}
use Rattle.pair_law.specs.State.{PairState}
use Rattle.pair_text.specs.Values.{PairScriptValue, epoch_at}
use Rattle.pair_text.specs.declared.side.Side.{Side}
use Rattle.pair_text.specs.declared.side.Side.TheVariants.{First, Second}
use Rattle.pair_play.specs.SoFar.{CommandsValue}
use Rattle.pair_tree.specs.Tags.{tag_of}
use Rattle.pair_tree.specs.declared.tag.PairTag.{PairTag}
use Rattle.rc_base.specs.declared.names.Gid.{Gid}
use Rattle.rc_base.specs.declared.names.Tag.{Tag}

-- the place of a side in a tag of both
abbrev pub place_of : Side → ℕ
place_of First = 0
place_of Second = 1

-- the tag of an access on a side, where this owner stands for the group
abbrev pub tag_on : PairTag → Side → Gid → Tag
tag_on tag side owner = record {
  epoch = tag.epoch;
  owner = owner;
  class = tag.class;
  rmid = 0;
  mask = slice_index tag.masks (place_of side);
  domain = slice_index tag.domains (place_of side);
}

-- the state at an op of a script
abbrev pub state_now : PairScriptValue → ℕ → PairState
state_now script i = state_at script (epoch_at script i)

-- the tag that it gives to a task on a CPU
abbrev pub tag_now : PairScriptValue → ℕ → ℕ → ℕ → PairTag
tag_now script i task cpu = tag_of script.machines (state_now script i) (epoch_at script i) task cpu

-- the tag that the tree gives to it
abbrev pub tag_in : CommandsValue → ℕ → ℕ → PairTag
tag_in c task cpu = tag_of c.tree.machines c.tree.state c.tree.epoch task cpu
