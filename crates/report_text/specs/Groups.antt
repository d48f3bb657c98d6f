-- The line of a control group in a report.
-- (For functions and proofs: no promise of the program stands on it.)
use Rattle.std.specs.Prelude.{ℕ, List, ◌++◌, codes, decimal}
use Rattle.run_counts.specs.declared.counts.Counts.{Counts}
use Rattle.report_text.specs.Counts.{counts_told}

-- `group G PATH: accesses A hits H misses M`, by its gid, its path and its counts
abbrev pub group_told : ℕ → List ℕ → Counts → List ℕ
group_told gid path counts = codes "group " ++ decimal gid ++ codes " " ++ path ++ codes ": " ++ counts_told counts ++ codes "\n"
