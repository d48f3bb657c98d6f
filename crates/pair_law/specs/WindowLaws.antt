-- Laws of which windows there are, and of what is counted in one.
-- (For functions and proofs: no promise of the program stands on it.)
use Rattle.std.specs.Prelude.{◌≡◌, ◌≢◌, ℕ, ◌+◌, ◌-◌, ◌<◌, Bool, true, false, not, ◌==◌, ◌&&◌, count_by, List, [], ◌∷◌, ◌++◌, All, Option, Some}
use Rattle.std.specs.List.{range_with_len}
use Rattle.cache_core.specs.declared.entry.SliceEntry.{SliceEntry}
use Rattle.cache_core.specs.declared.entry.What.{What}
use Rattle.cache_core.specs.declared.entry.What.TheVariants.{Flush}
use Rattle.machine.specs.declared.parameters.Parameters.{Parameters}
use Rattle.pair_law.specs.Epochs.{replies_to, state_after, state_at}
use Rattle.pair_law.specs.State.{PairState}
use Rattle.pair_law.specs.Steps.{next}
use Rattle.pair_text.specs.Values.{IsLawful, Machines, PairScriptValue, epoch_at, is_command, op_at, side_machine}
use Rattle.pair_text.specs.declared.op.PairOp.{PairOp}
use Rattle.pair_text.specs.declared.op.PairOp.TheVariants as ops
use Rattle.pair_text.specs.declared.side.Side.{Side}
use Rattle.pair_text.specs.declared.side.Side.TheVariants.{First, Second}
use Rattle.pair_law.specs.CdpRuns.{CdpJournalsValue, IsCdpRun}
use Rattle.pair_law.specs.CdpWindows.{IsAlone, IsCdpWindow}
use Rattle.pair_law.specs.Entries.{slice_in}
use Rattle.run_law.specs.Journals.{At}
use Rattle.pair_law.specs.JointWindows.{HasLevels, IsJointWindow, domain_above, is_covered}
use Rattle.pair_law.specs.LevelRuns.{IsLevelRun, LevelJournalsValue, domain_on, has_at, is_hit, is_miss, user_at}
use Rattle.pair_law.specs.PrivateLevels.{l2_hits, l3_hits}
use Rattle.rc_base.specs.declared.names.Gid.{Gid}

-- ---- which windows there are

-- a flush begins a window of each side that is alone then
abbrev pub CdpWindowsExist : Type 0
CdpWindowsExist =
    (script : PairScriptValue) (j : CdpJournalsValue) (domain from : ℕ) (opening : SliceEntry) (group : Gid) (side : Side) (mask : ℕ)
    → IsCdpRun script j → domain < script.machines.machine.domains → At (slice_in j.slices domain) from opening → opening.what ≡ Flush → IsAlone domain group side mask (state_at script opening.epoch)
    → (to last : ℕ) × IsCdpWindow script j domain from to opening group side mask last

-- the same end, last epoch and mask
pub record IsSameWindow (to last mask other_to other_last other_mask : ℕ) : Type 0 where
  pub same_end : to ≡ other_to
  pub same_last : last ≡ other_last
  pub same_mask : mask ≡ other_mask

-- and at most one
abbrev pub CdpWindowsAreUnique : Type 0
CdpWindowsAreUnique =
    (script : PairScriptValue) (j : CdpJournalsValue) (domain from to other_to : ℕ) (opening other : SliceEntry) (group : Gid) (side : Side) (mask other_mask last other_last : ℕ)
    → IsCdpWindow script j domain from to opening group side mask last → IsCdpWindow script j domain from other_to other group side other_mask other_last
    → IsSameWindow to last mask other_to other_last other_mask

-- a flush begins a joint window of each group that is exclusive after it
abbrev pub JointWindowsExist : Type 0
JointWindowsExist =
    (script : PairScriptValue) (domain from : ℕ) (group : Gid) (mask : ℕ) (masks : ℕ → ℕ)
    → domain < script.machines.machine.domains → op_at script from ≡ Some ops.Flush → HasLevels script.machines domain group mask masks (state_at script (epoch_at script from + 1))
    → (to last : ℕ) × IsJointWindow script domain from to group mask masks last

-- and at most one, with the same masks in the L3 domain and in the L2 domains that lie in it
abbrev pub JointWindowsAreUnique : Type 0
JointWindowsAreUnique =
    (script : PairScriptValue) (domain from to other_to : ℕ) (group : Gid) (mask other_mask : ℕ) (masks other_masks : ℕ → ℕ) (last other_last : ℕ)
    → IsJointWindow script domain from to group mask masks last → IsJointWindow script domain from other_to group other_mask other_masks other_last
    → IsSameWindow to last mask other_to other_last other_mask
    × ((x : ℕ) → x < (side_machine script.machines First).domains → domain_above script.machines x ≡ domain → masks x ≡ other_masks x)

-- ---- what is counted in a joint window

-- the use at a place of the window is the group's, and covered, and passes a test of its CPU and line
abbrev pub counts_use : PairScriptValue → ℕ → ℕ → ℕ → ℕ → (ℕ → ℕ → Bool) → ℕ → Option PairOp → Bool
counts_use script domain group from to p i (Some (ops.Use task cpu line code)) =
    ((domain_on script Second cpu == domain) && ((user_at script i task).0 == group)) && (is_covered script domain group from to i && p cpu line)
counts_use script domain group from to p i op = false

-- how many covered uses of the group pass a test
abbrev pub count_uses : PairScriptValue → ℕ → ℕ → ℕ → ℕ → (ℕ → ℕ → ℕ → Bool) → ℕ
count_uses script domain group from to p = count_by (λ i. counts_use script domain group from to (p i) i (op_at script i)) (range_with_len (from + 1) (to - (from + 1)))

-- The counts of a window: its covered uses hit at each level as often as they do in the private hierarchy.
pub record CountsAgree (script : PairScriptValue) (j : LevelJournalsValue) (domain from to : ℕ) (group : Gid) (mask : ℕ) (masks : ℕ → ℕ) : Type 0 where
  pub l2 :
      count_uses script domain group.0 from to (λ i cpu line. has_at (slice_in j.l2 (domain_on script First cpu)) i is_hit)
      ≡ count_uses script domain group.0 from to (λ i cpu line. l2_hits script group.0 mask masks from (domain_on script First cpu) i line)
  pub l3_asked :
      count_uses script domain group.0 from to (λ i cpu line. has_at (slice_in j.l2 (domain_on script First cpu)) i is_miss)
      ≡ count_uses script domain group.0 from to (λ i cpu line. not (l2_hits script group.0 mask masks from (domain_on script First cpu) i line))
  pub l3 :
      count_uses script domain group.0 from to (λ i cpu line. has_at (slice_in j.l2 (domain_on script First cpu)) i is_miss && has_at (slice_in j.l3 domain) i is_hit)
      ≡ count_uses script domain group.0 from to (λ i cpu line. not (l2_hits script group.0 mask masks from (domain_on script First cpu) i line) && l3_hits script group.0 mask masks from domain i line)

abbrev pub JointCountsAgree : Type 0
JointCountsAgree =
    (script : PairScriptValue) (j : LevelJournalsValue) (l2 : Parameters) (domain from to : ℕ) (group : Gid) (mask : ℕ) (masks : ℕ → ℕ) (last : ℕ)
    → IsLawful script → script.machines.l2 ≡ Some l2 → IsLevelRun script j → IsJointWindow script domain from to group mask masks last
    → CountsAgree script j domain from to group mask masks

-- ---- one op more

-- the replies to the commands among the first ops
abbrev pub RepliesGrow : Type 0
RepliesGrow =
    (m : Machines) (s : PairState) (ops : List PairOp) (op : PairOp)
    → replies_to m s (ops ++ op ∷ []) ≡ replies_to m s ops ++ (next m (state_after m s ops) op).reply ∷ []

-- the state after a command of the script is the next one
abbrev pub StatesFollow : Type 0
StatesFollow =
    (script : PairScriptValue) (i : ℕ) (op : PairOp) → op_at script i ≡ Some op → is_command op ≡ true
    → state_at script (epoch_at script (i + 1)) ≡ (next script.machines (state_at script (epoch_at script i)) op).state

-- an op's entry is found in the entries so far as in all
abbrev pub EntriesStay : Type 0
EntriesStay = (es more : List SliceEntry) (i : ℕ) (p : What → Bool) → All (λ (e : SliceEntry). e.op ≢ i) more → has_at (es ++ more) i p ≡ has_at es i p
