-- Laws of the windows of pair scripts.
use Rattle.std.specs.Prelude.{◌≡◌, ℕ, ◌<◌, Bool, true, false, not, length, Some, None}
use Rattle.cache_core.specs.declared.entry.SliceEntry.{SliceEntry}
use Rattle.cbm.specs.Masks.{ways_of}
use Rattle.machine.specs.declared.parameters.Parameters.{Parameters}
use Rattle.pair_text.specs.Values.{IsLawful, PairScriptValue, op_at}
use Rattle.pair_text.specs.declared.op.PairOp.TheVariants as ops
use Rattle.pair_text.specs.declared.side.Side.{Side}
use Rattle.pair_text.specs.declared.side.Side.TheVariants.{First, Second}
use Rattle.pair_law.specs.CdpRuns.{CdpJournalsValue, IsCdpRun, owner_on}
use Rattle.pair_law.specs.CdpWindows.{IsCdpWindow}
use Rattle.pair_law.specs.Entries.{slice_in}
use Rattle.pair_law.specs.JointWindows.{IsJointWindow, is_covered}
use Rattle.pair_law.specs.LevelRuns.{IsLevelRun, LevelJournalsValue, domain_on, has_at, is_hit, is_miss, user_at}
use Rattle.pair_law.specs.PrivateLevels.{l2_hits, l3_hits}
use Rattle.private_lru.specs.Isolation.{IsIsolated, between}
use Rattle.rc_base.specs.declared.names.Gid.{Gid}

-- (For proofs.) In every window of a run with code and data prioritization, the side of the group is isolated, in a private cache of as many ways
-- as its mask has.
abbrev pub CdpWindowsAreIsolated : Type 0
CdpWindowsAreIsolated =
    (script : PairScriptValue) (j : CdpJournalsValue) (domain from to : ℕ) (opening : SliceEntry) (group : Gid) (side : Side) (mask last : ℕ)
    → IsLawful script → script.machines.l2 ≡ None → IsCdpRun script j → IsCdpWindow script j domain from to opening group side mask last
    → IsIsolated script.machines.machine.sets (owner_on group side).0 (length (ways_of mask)) opening.what (between (slice_in j.slices domain) from to)

-- What a use does at both levels: in the L2 of its CPU it hits exactly where the private L2 does, the L3 is asked exactly where it
-- misses, and there it hits exactly where the private L3 does.
pub record HitsAsPrivate (script : PairScriptValue) (j : LevelJournalsValue) (domain from : ℕ) (group : Gid) (mask : ℕ) (masks : ℕ → ℕ) (i cpu line : ℕ) : Type 0 where
  pub l2 : has_at (slice_in j.l2 (domain_on script First cpu)) i is_hit ≡ l2_hits script group.0 mask masks from (domain_on script First cpu) i line
  pub asked : has_at (slice_in j.l2 (domain_on script First cpu)) i is_miss ≡ not (l2_hits script group.0 mask masks from (domain_on script First cpu) i line)
  pub l3 : l2_hits script group.0 mask masks from (domain_on script First cpu) i line ≡ false → has_at (slice_in j.l3 domain) i is_hit ≡ l3_hits script group.0 mask masks from domain i line
  pub l3_missed : l2_hits script group.0 mask masks from (domain_on script First cpu) i line ≡ false → has_at (slice_in j.l3 domain) i is_miss ≡ not (l3_hits script group.0 mask masks from domain i line)

-- (For proofs.) In every joint window of a run with two levels, each covered use of the group does what it does in a private hierarchy.
abbrev pub LevelWindowsAreIsolated : Type 0
LevelWindowsAreIsolated =
    (script : PairScriptValue) (j : LevelJournalsValue) (l2 : Parameters) (domain from to : ℕ) (group : Gid) (mask : ℕ) (masks : ℕ → ℕ) (last i task cpu line : ℕ) (code : Bool)
    → IsLawful script → script.machines.l2 ≡ Some l2 → IsLevelRun script j → IsJointWindow script domain from to group mask masks last
    → from < i → i < to → op_at script i ≡ Some (ops.Use task cpu line code) → domain_on script Second cpu ≡ domain → (user_at script i task).0 ≡ group.0
    → is_covered script domain group.0 from to i ≡ true
    → HitsAsPrivate script j domain from group mask masks i cpu line
