-- The texts of the files of the machine, and of the counts of lines.
-- (Kernel documentation, "Info directory" and "Resource alloc and monitor groups".)
use Rattle.std.specs.Prelude.{ℕ, ◌*◌, ◌-◌, ◌^◌, Bool, if◌then◌else◌, List, map, codes, decimal, None}
use Rattle.std.specs.List.{range_with_len, sum}
use Rattle.bit_usage.specs.Usage.{usage_text}
use Rattle.file_view.specs.Lines.{on_line}
use Rattle.machine.specs.declared.parameters.Parameters.{Parameters}
use Rattle.num_text.specs.Printed.{hexadecimal}
use Rattle.rc_base.specs.Reasons.{reason_text}
use Rattle.rc_base.specs.declared.replies.Reply.{Reply}
use Rattle.rc_base.specs.declared.replies.Reply.TheVariants.{Ok, Refused}
use Rattle.tree_law.specs.Space.{used_in}
use Rattle.tree_law.specs.State.{State}

-- a number in decimal, on its line
abbrev pub number_line : ℕ → List ℕ
number_line n = on_line (decimal n)

-- a mask in hexadecimal without leading zeros, on its line
abbrev pub mask_line : ℕ → List ℕ
mask_line mask = on_line (hexadecimal 0 mask)

-- `1` or `0`, on its line
abbrev pub flag_line : Bool → List ℕ
flag_line flag = on_line (if flag then codes "1" else codes "0")

-- the text of `llc_occupancy`: the bytes of the lines that were counted under these RMIDs, 64 for each
abbrev pub occupancy_text : List ℕ → List ℕ
occupancy_text looks = number_line (64 * sum looks)

-- `ok` or the text of the reason
abbrev pub status_of : Reply → List ℕ
status_of Ok = codes "ok"
status_of (Refused errno why arg) = reason_text why arg

-- the text of `last_cmd_status`: how the last mkdir or write was answered
abbrev pub status_text : State → List ℕ
status_text s = on_line (status_of s.status)

-- the text of `cbm_mask`: the mask of every way
abbrev pub cbm_mask_text : Parameters → List ℕ
cbm_mask_text m = mask_line (2 ^ m.ways - 1)

-- the text of `bit_usage`: who uses each way of each cache, by the groups and the regions
abbrev pub bit_usage_text : Parameters → State → List ℕ
bit_usage_text m s = on_line (usage_text m.ways (map (used_in m s None) (range_with_len 0 m.domains)))

-- the text of `mon_features`: the only kind of event that is monitored
abbrev pub mon_features_text : List ℕ
mon_features_text = on_line (codes "llc_occupancy")
