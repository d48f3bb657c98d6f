-- The uses on the CPUs of an L3 domain, over all L2 domains in it, as one list of entries.
-- (For functions and proofs: no promise of the program stands on it.)
use Rattle.std.specs.Prelude.{ℕ, ◌+◌, Bool, ◌==◌, if◌then◌else◌, List, [], ◌∷◌, Option, Some}
use Rattle.std.specs.List.{flat_map, range_with_len}
use Rattle.cache_core.specs.declared.entry.SliceEntry.{SliceEntry}
use Rattle.cache_core.specs.declared.entry.What.TheVariants.{Access, Flush}
use Rattle.pair_text.specs.Values.{PairScriptValue, epoch_at, op_at}
use Rattle.pair_text.specs.declared.op.PairOp.{PairOp}
use Rattle.pair_text.specs.declared.op.PairOp.TheVariants as ops
use Rattle.pair_text.specs.declared.side.Side.TheVariants.{Second}
use Rattle.pair_law.specs.Entries.{entry}
use Rattle.pair_law.specs.LevelRuns.{domain_on, user_at}

module _ (script : PairScriptValue) (domain : ℕ) (hits : ℕ → ℕ → ℕ → Bool) where
  -- an op as an entry: a use on a CPU of the domain is an access of its user, which hits where the test says so, and a flush a flush
  abbrev pub joined_of_op : ℕ → Option PairOp → List SliceEntry
  joined_of_op i (Some (ops.Use task cpu line code)) =
      if domain_on script Second cpu == domain then entry i (epoch_at script i) (Access (hits i cpu line) 0 (user_at script i task) 0 0 line) ∷ [] else []
  joined_of_op i (Some ops.Flush) = entry i (epoch_at script i + 1) Flush ∷ []
  joined_of_op i op = []

  abbrev pub joined_at : ℕ → List SliceEntry
  joined_at i = joined_of_op i (op_at script i)

  -- so many ops from a place on
  abbrev pub joined : ℕ → ℕ → List SliceEntry
  joined from n = flat_map joined_at (range_with_len from n)
