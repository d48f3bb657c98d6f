-- What was played of a pair script so far, and what its next op asks of the caches.
-- (For functions and proofs: no promise of the program stands on it.)
use Rattle.std.specs.Prelude.{◌≡◌, ◌≢◌, ℕ, ◌+◌, Bool, Some}
use Rattle.pair_text.specs.Values.{IsLawful, PairScriptValue, epoch_at, op_at}
use Rattle.pair_text.specs.declared.op.PairOp.{PairOp}
use Rattle.pair_text.specs.declared.op.PairOp.TheVariants as ops
use Rattle.pair_play.specs.SideTags.{tag_now}
use Rattle.pair_play.specs.SoFar.{AreCommandsSoFar, CommandsValue, IsShort}
use Rattle.pair_tree.specs.declared.tag.PairTag.{PairTag}

-- no flush, and no use
pub record IsOther (op : PairOp) : Type 0 where
  pub not_flush : op ≢ ops.Flush
  pub not_use : (task cpu line : ℕ) (code : Bool) → op ≢ ops.Use task cpu line code

-- the op is this use, and the tag is that of the state at the op
pub record IsUseAt (script : PairScriptValue) (i : ℕ) (tag : PairTag) (line : ℕ) (code : Bool) : Type 0 where
  pub lawful : IsLawful script
  pub short : IsShort script
  pub task : ℕ
  pub cpu : ℕ
  pub use_is : op_at script i ≡ Some (ops.Use task cpu line code)
  pub tag_is : tag ≡ tag_now script i task cpu

-- the op is a flush, and the epoch is that after it
pub record IsFlushAt (script : PairScriptValue) (i epoch : ℕ) : Type 0 where
  pub short : IsShort script
  pub flush_is : op_at script i ≡ Some ops.Flush
  pub epoch_is : epoch ≡ epoch_at script i + 1

module _ {S : Type 0} (after : PairScriptValue → ℕ → S → Type 0) where
  -- caches of which a use is the next that is asked
  pub record IsNextUse (i : ℕ) (tag : PairTag) (line : ℕ) (code : Bool) (caches : S) : Type 0 where
    pub script : PairScriptValue
    pub so_far : after script i caches
    pub use_at : IsUseAt script i tag line code

  -- or a flush
  pub record IsNextFlush (i epoch : ℕ) (caches : S) : Type 0 where
    pub script : PairScriptValue
    pub so_far : after script i caches
    pub flush_at : IsFlushAt script i epoch

  -- the first ops of a script were played
  pub record IsPlayedSoFar (script : PairScriptValue) (i : ℕ) (c : CommandsValue) (all : S) : Type 0 where
    pub commands : AreCommandsSoFar script i c
    pub caches : after script i all
