-- What stands between a flush and the next one.
-- (For functions and proofs: no promise of the program stands on it.)
use Rattle.std.specs.Prelude.{◌≡◌, ℕ, ◌^◌, ◌<◌, ◌≤◌, Bool, false, true, not, ◌==◌, ◌&&◌, if◌then◌else◌, List, Option, None, Some, length, slice_index_or}
use Rattle.pair_windows.specs.declared.segments.Hits.{Hits}
use Rattle.pair_windows.specs.declared.line_uses.LineUse.{LineUse}
use Rattle.pair_law.specs.State.{PairState, owner_of}
use Rattle.pair_text.specs.Values.{PairScriptValue, op_at}
use Rattle.pair_text.specs.declared.op.PairOp.{PairOp}
use Rattle.pair_text.specs.declared.op.PairOp.TheVariants as ops
use Rattle.pair_text.specs.declared.side.Side.TheVariants.{Second}
use Rattle.pair_windows.specs.Replays.{IsPlayable}
use Rattle.pair_law.specs.JointWindows.{is_flush}
use Rattle.pair_law.specs.LevelRuns.{domain_on}

-- whether an op's use hit the L2, by the table of that level
abbrev pub hit_l2 : List Bool → ℕ → ℕ → ℕ → Bool
hit_l2 hits i cpu line = slice_index_or hits i false

-- whether it missed there and hit the L3
abbrev pub hit_l3 : List Bool → List Bool → ℕ → ℕ → ℕ → Bool
hit_l3 l2 l3 i cpu line = not (slice_index_or l2 i false) && slice_index_or l3 i false

-- From the first of these places up to the last there is no flush, and the last is that of a flush or the end of the script.
pub record IsSegment (script : PairScriptValue) (first last : ℕ) : Type 0 where
  pub later : first ≤ last
  pub within : last ≤ length script.ops
  pub quiet : (i : ℕ) → first ≤ i → i < last → is_flush (op_at script i) ≡ false
  pub ends : last < length script.ops → is_flush (op_at script last) ≡ true

-- ---- op by op

-- whether a segment ends at a place with this op: a flush, or nothing
abbrev pub is_end : Option PairOp → Bool
is_end None = true
is_end (Some op) = is_flush (Some op)

-- A playable script whose places fit 32 bits, and tables that have a place for each op.
pub record CanWalk (script : PairScriptValue) (hits : Hits) : Type 0 where
  pub playable : IsPlayable script
  pub few : length script.ops < 2 ^ 32
  pub l2 : length hits.l2.items ≡ length script.ops
  pub l3 : length hits.l3.items ≡ length script.ops

-- whose use an op is, where it is one on a CPU of an L3 domain, and of which line
abbrev pub use_in : PairScriptValue → PairState → ℕ → Option PairOp → Option LineUse
use_in script s domain (Some (ops.Use task cpu line code)) = if domain_on script Second cpu == domain then Some (record { owner = owner_of s task; line = line }) else None
use_in script s domain op = None
