-- What a command makes in the slices, entry by entry, in the order of its steps.
use Rattle.std.specs.List.{flat_map, range_with_len}
use Rattle.std.specs.Prelude.{List, [], if◌then◌else◌, map, take, ℕ, ◌++◌, ◌+◌, ◌==◌, ◌∷◌}
use Rattle.cache_core.specs.declared.entry.What.TheVariants as whats
use Rattle.machine.specs.Slices.{slice_number, slice_of_line}
use Rattle.machine.specs.declared.parameters.Parameters.{Parameters}
use Rattle.run_law.specs.Owed.{Owed, what_of}
use Rattle.run_law.specs.TreeHistory.{TreeEntryValue, tree_after}
use Rattle.script_ops.specs.Values.{ScriptValue}
use Rattle.script_ops.specs.declared.op.Op.{Op}
use Rattle.tree_law.specs.Steps.{Target, EachSlice, SliceOf, after, goes_to, needs}
use Rattle.tree_law.specs.declared.follow.Follow.{Follow}

-- one entry that a command owes, and the slice that it owes it to
pub record Job : Type 0 where
  pub slice : ℕ
  pub owed : Owed

-- this entry in each slice of a domain, rising
abbrev pub in_domain : Parameters → ℕ → Owed → List Job
in_domain m domain owed = map (λ x. record { slice = slice_number m domain x; owed = owed }) (range_with_len 0 m.slices)

-- the looks for one (domain, RMID)
abbrev pub look_jobs : Parameters → ℕ → ℕ × ℕ → List Job
look_jobs m epoch need = in_domain m need.0 (record { epoch = epoch; what = whats.Look need.1 0 })

-- this entry in each slice that a target has
abbrev pub at_target : Parameters → Target → Owed → List Job
at_target m (EachSlice domain) owed = in_domain m domain owed
at_target m (SliceOf domain line) owed = record { slice = slice_of_line m domain line; owed = owed } ∷ []

-- what one follow-up makes
abbrev pub follow_jobs : Parameters → ℕ → Follow → List Job
follow_jobs m epoch f = at_target m (goes_to f) (record { epoch = epoch; what = what_of f })

-- the looks before a command that is decided at position k of the tree's history
unfoldable pub looks_of : ScriptValue → List TreeEntryValue → ℕ → Op → List Job
looks_of script tree k op = flat_map (look_jobs script.machine k) (needs script.machine (tree_after script (take k tree)) op)

-- the follow-ups of that command
unfoldable pub follows_of : ScriptValue → List TreeEntryValue → ℕ → Op → List Job
follows_of script tree k op = flat_map (follow_jobs script.machine (k + 1)) (after script.machine (tree_after script (take k tree)) k op)

-- all that the command makes
abbrev pub jobs_of : ScriptValue → List TreeEntryValue → ℕ → Op → List Job
jobs_of script tree k op = looks_of script tree k op ++ follows_of script tree k op

-- (For proofs.) of these jobs, what is owed to slice i
abbrev pub in_slice : ℕ → List Job → List Owed
in_slice i [] = []
in_slice i (job ∷ jobs) = if job.slice == i then job.owed ∷ in_slice i jobs else in_slice i jobs
