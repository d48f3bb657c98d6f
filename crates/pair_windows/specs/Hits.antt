-- Which uses of a script hit at a level.
-- (For functions and proofs: no promise of the program stands on it.)
use Rattle.std.specs.Prelude.{◌≡◌, ℕ, Bool, false, ◌==◌, ◌&&◌, ◌||◌, List, Option, Some, length, slice_index_or}
use Rattle.cache_core.specs.declared.entry.SliceEntry.{SliceEntry}
use Rattle.pair_text.specs.Values.{PairScriptValue, op_at}
use Rattle.pair_text.specs.declared.op.PairOp.{PairOp}
use Rattle.pair_text.specs.declared.op.PairOp.TheVariants as ops
use Rattle.pair_text.specs.declared.side.Side.{Side}
use Rattle.pair_law.specs.Entries.{slice_in}
use Rattle.pair_law.specs.LevelRuns.{domain_on, has_at, is_hit}

-- For each op, whether it is a use whose entry at the level is a hit.
pub record AreHits (script : PairScriptValue) (side : Side) (slices : List (List SliceEntry)) (hits : List Bool) : Type 0 where
  pub all : length hits ≡ length script.ops
  pub each :
      (i task cpu line : ℕ) (code : Bool) → op_at script i ≡ Some (ops.Use task cpu line code)
      → slice_index_or hits i false ≡ has_at (slice_in slices (domain_on script side cpu)) i is_hit

-- whether an op is a use on a CPU of a domain of the level
abbrev pub is_use_in : PairScriptValue → Side → ℕ → Option PairOp → Bool
is_use_in script side domain (Some (ops.Use task cpu line code)) = domain_on script side cpu == domain
is_use_in script side domain op = false

-- The ops are marked, beside those that were, whose entries among these of a domain are hits, of uses on CPUs of the domain.
pub record AreMarked (script : PairScriptValue) (side : Side) (domain : ℕ) (entries : List SliceEntry) (old new : List Bool) : Type 0 where
  pub same : length new ≡ length old
  pub each : (i : ℕ) → slice_index_or new i false ≡ (slice_index_or old i false || (is_use_in script side domain (op_at script i) && has_at entries i is_hit))
