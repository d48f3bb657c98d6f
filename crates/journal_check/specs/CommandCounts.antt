-- How often ops stand in a history of the tree that comes entry by entry, where two and more are not told apart.
-- (For functions and proofs: no promise of the program stands on it.)
use Rattle.std.specs.Prelude.{◌≡◌, ℕ, ◌<◌, ◌⊎◌, List, Some, filter, length, take}
use Rattle.journal_check.specs.ExpectedCommands.{IsExpected}
use Rattle.journal_check.specs.Tables.{IsTableOf, number_at}
use Rattle.run_law.specs.Journals.{At}
use Rattle.run_law.specs.Truth.{is_taken_from}
use Rattle.run_law.specs.TreeHistory.{TreeEntryValue}
use Rattle.script_ops.specs.Values.{ScriptValue}

-- a number is this count, or both are greater than 1
abbrev pub IsCountToTwo : ℕ → ℕ → Type 0
IsCountToTwo n count = (n ≡ count) ⊎ ((1 < n) × (1 < count))

-- there is a number for each op of the script, which says so how often it stands among these entries
pub record AreCountsToTwo (script : ScriptValue) (table : List (List ℕ)) (tree : List TreeEntryValue) : Type 0 where
  pub is_table : IsTableOf script table
  pub counts : (thread op n : ℕ) → number_at table thread op ≡ Some n → IsCountToTwo n (length (filter (is_taken_from thread op) tree))

-- an entry is of a command that is not expected after those before it
pub record HasUnexpected (script : ScriptValue) (tree : List TreeEntryValue) : Type 0 where
  pub position : ℕ
  pub entry : TreeEntryValue
  pub there : At tree position entry
  pub unexpected : IsExpected script (take position tree) entry → ⊥
