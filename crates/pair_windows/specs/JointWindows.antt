-- The windows of a run with two levels in which a group uses lines, each with its counts.
use Rattle.std.specs.Prelude.{ℕ, ◌+◌, ◌-◌, Bool, true, false, not, ◌==◌, ◌&&◌, ◌||◌, nat_lt, count_by, List, [], filter, length, map, Option, Some}
use Rattle.std.specs.List.{flat_map, list_all, position_or_len, range_with_len}
use Rattle.std.specs.Option.{option_map_or}
use Rattle.group_tree.specs.Records.{is_mode}
use Rattle.pair_law.specs.Epochs.{state_at}
use Rattle.pair_law.specs.State.{PairState, group_of, mask_in}
use Rattle.pair_text.specs.Values.{Machines, PairScriptValue, commands_of, epoch_at, op_at, side_machine}
use Rattle.pair_text.specs.declared.group.PairGroup.{PairGroup}
use Rattle.pair_text.specs.declared.op.PairOp.{PairOp}
use Rattle.pair_text.specs.declared.op.PairOp.TheVariants as ops
use Rattle.pair_text.specs.declared.side.Side.TheVariants.{First, Second}
use Rattle.pair_law.specs.Entries.{slice_in}
use Rattle.pair_law.specs.JointWindows.{domain_above, is_flush}
use Rattle.pair_law.specs.LevelRuns.{LevelJournalsValue, domain_on, has_at, is_hit, is_miss, user_at}
use Rattle.pair_law.specs.PrivateLevels.{l2_hits, l3_hits}
use Rattle.pair_law.specs.WindowLaws.{count_uses}
use Rattle.pair_windows.specs.declared.joint_window.JointWindow.{JointWindow}
use Rattle.rc_base.specs.declared.names.Mode.TheVariants.{Exclusive}
use Rattle.private_lru.specs.Spans.{last_within}

-- ---- how long a group keeps its masks

-- whether an exclusive group has the same masks as another record of it: in an L3 domain, and in the L2 domains that lie in it
abbrev pub has_masks_of : Machines → ℕ → PairGroup → PairGroup → Bool
has_masks_of m domain g later =
    is_mode Exclusive later.mode && (mask_in Second domain later == mask_in Second domain g)
    && list_all (λ x. not (domain_above m x == domain) || (mask_in First x later == mask_in First x g)) (range_with_len 0 (side_machine m First).domains)

-- whether a group is there in a state, with the same masks
abbrev pub keeps_masks : Machines → ℕ → PairGroup → PairState → Bool
keeps_masks m domain g s = option_map_or (has_masks_of m domain g) (group_of s g.gid) false

module _ (script : PairScriptValue) (domain : ℕ) where
  -- the same of the state of an epoch
  abbrev pub keeps_at : PairGroup → ℕ → Bool
  keeps_at g epoch = keeps_masks script.machines domain g (state_at script epoch)

  -- the last epoch up to which a group of this epoch is exclusive with the same masks
  abbrev pub last_epoch : ℕ → PairGroup → ℕ
  last_epoch epoch g = last_within (keeps_at g) epoch (length (commands_of script) - epoch)

  -- whether an op ends a window that lasts up to this epoch
  abbrev pub ends_window : ℕ → ℕ → Bool
  ends_window last i = is_flush (op_at script i) || nat_lt last (epoch_at script i)

  -- where a window ends that begins at the flush at `from` in the script and lasts up to this epoch
  abbrev pub window_end : ℕ → ℕ → ℕ
  window_end from last = from + 1 + position_or_len (ends_window last) (range_with_len (from + 1) (length script.ops - (from + 1)))

  -- ---- counts

  -- a use by the group on a CPU of the domain
  abbrev pub is_use_of : ℕ → ℕ → Option PairOp → Bool
  is_use_of group i (Some (ops.Use task cpu line code)) = (domain_on script Second cpu == domain) && ((user_at script i task).0 == group)
  is_use_of group i op = false

  -- how many uses of the group the window has
  abbrev pub uses_of : ℕ → ℕ → ℕ → ℕ
  uses_of group from to = count_by (λ i. is_use_of group i (op_at script i)) (range_with_len (from + 1) (to - (from + 1)))

  module _ (j : LevelJournalsValue) where
    -- the L2 entry of a use is a hit
    abbrev pub hits_l2 : ℕ → ℕ → ℕ → Bool
    hits_l2 i cpu line = has_at (slice_in j.l2 (domain_on script First cpu)) i is_hit

    -- the L2 entry is a miss, and so the use is asked of the L3
    abbrev pub reaches_l3 : ℕ → ℕ → ℕ → Bool
    reaches_l3 i cpu line = has_at (slice_in j.l2 (domain_on script First cpu)) i is_miss

    -- the L3 entry is a hit
    abbrev pub hits_l3 : ℕ → ℕ → ℕ → Bool
    hits_l3 i cpu line = reaches_l3 i cpu line && has_at (slice_in j.l3 domain) i is_hit

    -- The window of a group that begins at the flush at `from` in the script, up to the op at `to`: its uses, and of the covered ones
    -- how many there are, how many hit the L2 and would hit a private one, how many are asked of the L3, and how many hit there and
    -- would hit in a private hierarchy.
    abbrev pub window_of : ℕ → ℕ → PairGroup → JointWindow
    window_of from to g = record {
      domain = domain;
      gid = g.gid;
      from = epoch_at script from;
      uses = uses_of g.gid.0 from to;
      covered = count_uses script domain g.gid.0 from to (λ i cpu line. true);
      l2_hits = count_uses script domain g.gid.0 from to hits_l2;
      l2_private = count_uses script domain g.gid.0 from to (λ i cpu line. l2_hits script g.gid.0 (mask_in Second domain g) (λ x. mask_in First x g) from (domain_on script First cpu) i line);
      l3_accesses = count_uses script domain g.gid.0 from to reaches_l3;
      l3_hits = count_uses script domain g.gid.0 from to hits_l3;
      l3_private = count_uses script domain g.gid.0 from to
          (λ i cpu line. not (l2_hits script g.gid.0 (mask_in Second domain g) (λ x. mask_in First x g) from (domain_on script First cpu) i line)
          && l3_hits script g.gid.0 (mask_in Second domain g) (λ x. mask_in First x g) from domain i line);
    }

    -- ---- all windows of the domain

    -- the window of a group of the epoch after the flush
    abbrev pub window_from : ℕ → PairGroup → JointWindow
    window_from from g = window_of from (window_end from (last_epoch (epoch_at script from + 1) g)) g

    -- the groups that are exclusive after the flush, in order of creation, and so of their serial numbers
    abbrev pub exclusive_after : ℕ → List PairGroup
    exclusive_after from = filter (λ (g : PairGroup). is_mode Exclusive g.mode) (state_at script (epoch_at script from + 1)).groups

    -- their windows, where they use lines
    abbrev pub windows_from : ℕ → List JointWindow
    windows_from from = filter (λ (w : JointWindow). nat_lt 0 w.uses) (map (window_from from) (exclusive_after from))

    -- a flush begins windows, and nothing else does
    abbrev pub windows_at : ℕ → Option PairOp → List JointWindow
    windows_at from (Some ops.Flush) = windows_from from
    windows_at from op = []

    -- the windows of the domain: by flush, then by group
    abbrev pub windows_in : List JointWindow
    windows_in = flat_map (λ from. windows_at from (op_at script from)) (range_with_len 0 (length script.ops))

-- the windows of a run, by domain
abbrev pub joint_windows : PairScriptValue → LevelJournalsValue → List JointWindow
joint_windows script j = flat_map (λ domain. windows_in script domain j) (range_with_len 0 script.machines.machine.domains)
