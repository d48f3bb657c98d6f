-- All windows of a run with two levels in which their groups use lines.
use Rattle.std.specs.Prelude.{◌≡◌, ℕ, ◌<◌, ◌⊎◌, true, not, ◌&&◌, All, AllPairs, Contains, IsSome, List}
use Rattle.pair_windows.specs.JointWindows.{hits_l2, hits_l3, joint_windows, reaches_l3, uses_of}
use Rattle.pair_windows.specs.declared.joint_window.JointWindow.{JointWindow}
use Rattle.pair_text.specs.Values.{IsLawful, PairScriptValue, epoch_at}
use Rattle.pair_text.specs.declared.side.Side.TheVariants.{First}
use Rattle.pair_law.specs.JointWindows.{IsJointWindow}
use Rattle.pair_law.specs.LevelRuns.{IsLevelRun, LevelJournalsValue, domain_on}
use Rattle.pair_law.specs.PrivateLevels.{l2_hits, l3_hits}
use Rattle.pair_law.specs.WindowLaws.{count_uses}

-- The counts of a window of a group with these masks, from the flush at a place of the script up to the op at another: the uses of the
-- group, and of the covered ones how many there are, how many hit the L2 and would hit a private one, how many are asked of the L3,
-- and how many hit there and would hit in a private hierarchy.
pub record AreJointCounts (script : PairScriptValue) (j : LevelJournalsValue) (from to mask : ℕ) (masks : ℕ → ℕ) (w : JointWindow) : Type 0 where
  pub uses_is : w.uses ≡ uses_of script w.domain w.gid.0 from to
  pub covered_is : w.covered ≡ count_uses script w.domain w.gid.0 from to (λ i cpu line. true)
  pub l2_hits_is : w.l2_hits ≡ count_uses script w.domain w.gid.0 from to (hits_l2 script w.domain j)
  pub l2_private_is : w.l2_private ≡ count_uses script w.domain w.gid.0 from to (λ i cpu line. l2_hits script w.gid.0 mask masks from (domain_on script First cpu) i line)
  pub l3_accesses_is : w.l3_accesses ≡ count_uses script w.domain w.gid.0 from to (reaches_l3 script w.domain j)
  pub l3_hits_is : w.l3_hits ≡ count_uses script w.domain w.gid.0 from to (hits_l3 script w.domain j)
  pub l3_private_is :
      w.l3_private
      ≡ count_uses script w.domain w.gid.0 from to
      (λ i cpu line. not (l2_hits script w.gid.0 mask masks from (domain_on script First cpu) i line) && l3_hits script w.gid.0 mask masks from w.domain i line)

-- A window of a run, with its place and its counts, in which its group has a use. A window begins at an op of the script, and is told
-- by the position of that among the commands.
pub record IsUsedJointWindow (script : PairScriptValue) (j : LevelJournalsValue) (w : JointWindow) : Type 0 where
  pub from : ℕ
  pub to : ℕ
  pub mask : ℕ
  pub masks : ℕ → ℕ
  pub last : ℕ
  pub begins : w.from ≡ epoch_at script from
  pub is : IsJointWindow script w.domain from to w.gid mask masks last
  pub counts : AreJointCounts script j from to mask masks w
  pub used : 0 < w.uses

-- one window comes before another: by domain, then by the position of the flush, and then by group
abbrev pub PrecedesOnLevels : JointWindow → JointWindow → Type 0
PrecedesOnLevels a b = (a.domain < b.domain) ⊎ ((a.domain ≡ b.domain) × ((a.from < b.from) ⊎ ((a.from ≡ b.from) × (a.gid.0 < b.gid.0))))

-- at each level as many covered uses hit as in the private hierarchy
abbrev pub CountsAsPrivate : JointWindow → Type 0
CountsAsPrivate w = (w.l2_hits ≡ w.l2_private) × (w.l3_hits ≡ w.l3_private)

-- The windows of a run in which the group has a use: each with its counts, every one of them, and each once, in order.
pub record AreJointWindowsOf (script : PairScriptValue) (j : LevelJournalsValue) (windows : List JointWindow) : Type 0 where
  pub each : All (IsUsedJointWindow script j) windows
  pub all : (w : JointWindow) → IsUsedJointWindow script j w → Contains windows w
  pub ordered : AllPairs PrecedesOnLevels windows
  pub as_private : All CountsAsPrivate windows

-- (For proofs.) the windows that are listed are those
abbrev pub JointWindowsAreListed : Type 0
JointWindowsAreListed =
    (script : PairScriptValue) (j : LevelJournalsValue) → IsLawful script → IsSome script.machines.l2 → IsLevelRun script j → AreJointWindowsOf script j (joint_windows script j)
