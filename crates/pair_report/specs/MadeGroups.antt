-- The groups that ever were.
use Rattle.std.specs.Prelude.{ℕ, ◌+◌, List, [], ◌∷◌, ◌++◌, codes}
use Rattle.pair_text.specs.Values.{PairScriptValue, commands_of}
use Rattle.pair_text.specs.declared.op.PairOp.{PairOp}
use Rattle.pair_text.specs.declared.op.PairOp.TheVariants as ops
use Rattle.rc_base.specs.declared.replies.Reply.{Reply}
use Rattle.rc_base.specs.declared.replies.Reply.TheVariants as replies

-- a group that ever was, by its serial number and its path
pub record GroupPath : Type 0 where
  pub gid : ℕ
  pub path : List ℕ

-- the default group
abbrev pub default_path : GroupPath
default_path = record { gid = 0; path = codes "/" }

-- the groups that these commands made, by their replies, where the next serial number is this one: each accepted mkdir makes one
abbrev pub made_from : ℕ → List PairOp → List Reply → List GroupPath
made_from gid (ops.Mkdir name ∷ commands) (replies.Ok ∷ replies) = record { gid = gid; path = codes "/" ++ name } ∷ made_from (gid + 1) commands replies
made_from gid (op ∷ commands) (reply ∷ replies) = made_from gid commands replies
made_from gid commands replies = []

-- the default group, and those that were made, in order of creation and so of their serial numbers
abbrev pub groups_of : PairScriptValue → List Reply → List GroupPath
groups_of script replies = default_path ∷ made_from 1 (commands_of script) replies
