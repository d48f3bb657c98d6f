-- The windows in which a group has its ways of an L3 cache, and of the L2 caches below it, for itself.
use Rattle.std.specs.Prelude.{◌≡◌, ℕ, ◌+◌, ◌-◌, ◌/◌, ◌<◌, ◌≤◌, ◌⊎◌, Bool, true, false, not, ◌==◌, ◌&&◌, IsSomeAnd, length, Option, Some}
use Rattle.std.specs.List.{list_any, range_with_len}
use Rattle.pair_law.specs.Epochs.{state_at}
use Rattle.pair_law.specs.State.{PairState, group_of, mask_in}
use Rattle.pair_text.specs.Values.{Machines, PairScriptValue, commands_of, epoch_at, op_at, side_machine}
use Rattle.pair_text.specs.declared.op.PairOp.{PairOp}
use Rattle.pair_text.specs.declared.op.PairOp.TheVariants as ops
use Rattle.pair_text.specs.declared.side.Side.TheVariants.{First, Second}
use Rattle.pair_law.specs.LevelRuns.{domain_on, user_at}
use Rattle.rc_base.specs.declared.names.Gid.{Gid}
use Rattle.rc_base.specs.declared.names.Mode.TheVariants.{Exclusive}
use Rattle.private_lru.specs.Spans.{IsSpan}

-- the L3 domain that an L2 domain lies in
abbrev pub domain_above : Machines → ℕ → ℕ
domain_above m x = x / ((side_machine m First).domains / m.machine.domains)

-- the group is exclusive, with this mask in an L3 domain and these in the L2 domains that lie in it
abbrev pub HasLevels : Machines → ℕ → Gid → ℕ → (ℕ → ℕ) → PairState → Type 0
HasLevels m domain group mask masks s =
    IsSomeAnd (group_of s group)
    (λ g. (g.mode ≡ Exclusive) × (mask_in Second domain g ≡ mask) × ((x : ℕ) → x < (side_machine m First).domains → domain_above m x ≡ domain → mask_in First x g ≡ masks x))

-- from the first of these epochs to the last it stays so, and no longer
abbrev pub StaysJoint : PairScriptValue → ℕ → Gid → ℕ → (ℕ → ℕ) → ℕ → ℕ → Type 0
StaysJoint script domain group mask masks first last = IsSpan (λ epoch. HasLevels script.machines domain group mask masks (state_at script epoch)) first (length (commands_of script)) last

abbrev pub is_flush : Option PairOp → Bool
is_flush (Some ops.Flush) = true
is_flush op = false

-- A window of an L3 domain: it begins after the flush at the place `from` of the script, and goes up to and without the op at `to`, the
-- first that is a flush or of a later epoch than the last, or to the end where none is.
pub record IsJointWindow (script : PairScriptValue) (domain from to : ℕ) (group : Gid) (mask : ℕ) (masks : ℕ → ℕ) (last : ℕ) : Type 0 where
  pub domain_exists : domain < script.machines.machine.domains
  pub opens : op_at script from ≡ Some ops.Flush
  pub joint : StaysJoint script domain group mask masks (epoch_at script from + 1) last
  pub after_opening : from < to
  pub within : to ≤ length script.ops
  pub goes_over : (i : ℕ) → from < i → i < to → (is_flush (op_at script i) ≡ false) × (epoch_at script i ≤ last)
  pub ends : to < length script.ops → (is_flush (op_at script to) ≡ true) ⊎ (last < epoch_at script to)

-- ---- uses in a window

-- a use of the line by the group, on a CPU of the L3 domain
abbrev pub is_own_use : PairScriptValue → ℕ → ℕ → ℕ → ℕ → Option PairOp → Bool
is_own_use script domain group x i (Some (ops.Use task cpu line code)) = (domain_on script Second cpu == domain) && ((user_at script i task).0 == group) && (line == x)
is_own_use script domain group x i op = false

-- whether the group uses the line somewhere in the window
abbrev pub uses_line : PairScriptValue → ℕ → ℕ → ℕ → ℕ → ℕ → Bool
uses_line script domain group from to x = list_any (λ i. is_own_use script domain group x i (op_at script i)) (range_with_len (from + 1) (to - (from + 1)))

-- a use of another owner, on a CPU of the L3 domain, of a line that the group uses in the window
abbrev pub is_other_use : PairScriptValue → ℕ → ℕ → ℕ → ℕ → ℕ → Option PairOp → Bool
is_other_use script domain group from to i (Some (ops.Use task cpu line code)) =
    (domain_on script Second cpu == domain) && not ((user_at script i task).0 == group) && uses_line script domain group from to line
is_other_use script domain group from to i op = false

-- the use at a place of the window is covered where no use before it in the window is another owner's of a line of the group's
abbrev pub is_covered : PairScriptValue → ℕ → ℕ → ℕ → ℕ → ℕ → Bool
is_covered script domain group from to i =
    not (list_any (λ k. is_other_use script domain group from to k (op_at script k)) (range_with_len (from + 1) (i - (from + 1))))
