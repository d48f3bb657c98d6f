-- Where the tree took each command: tables whose numbers are one more than the positions in the tree's history.
-- (For functions and proofs: no promise of the program stands on it.)
use Rattle.std.specs.Prelude.{◌≡◌, ℕ, ◌+◌, ◌<◌, ◌≤◌, IsSome, IsTrue, List, Some}
use Rattle.journal_check.specs.Tables.{number_at}
use Rattle.run_law.specs.Journals.{At}
use Rattle.run_law.specs.Truth.{is_taken_from}
use Rattle.run_law.specs.TreeHistory.{TreeEntryValue}
use Rattle.script_ops.specs.Values.{ScriptValue, op_at}

-- The number of each op is one more than the position at which the tree took it, and 0 where it did not.
pub record ArePlaces (script : ScriptValue) (table : List (List ℕ)) (tree : List TreeEntryValue) : Type 0 where
  pub of_ops : (k : ℕ) (h : TreeEntryValue) → At tree k h → IsSome (op_at script h.thread h.op)
  pub taken : (thread op k n : ℕ) (h : TreeEntryValue) → At tree k h → IsTrue (is_taken_from thread op h) → number_at table thread op ≡ Some n → n ≡ k + 1
  pub place : (thread op k : ℕ) → number_at table thread op ≡ Some (k + 1) → (h : TreeEntryValue) × At tree k h × IsTrue (is_taken_from thread op h)

-- The same of the first n entries of the tree.
pub record ArePlacesUpTo (table : List (List ℕ)) (tree : List TreeEntryValue) (n : ℕ) : Type 0 where
  pub taken : (thread op k m : ℕ) (h : TreeEntryValue) → k < n → At tree k h → IsTrue (is_taken_from thread op h) → number_at table thread op ≡ Some m → m ≡ k + 1
  pub place : (thread op k : ℕ) → number_at table thread op ≡ Some (k + 1) → (h : TreeEntryValue) × (k < n) × At tree k h × IsTrue (is_taken_from thread op h)

-- no two ops have the same place, and places are few
pub record AreOwnPlaces (places : List (List ℕ)) : Type 0 where
  pub differ : (t o u p n : ℕ) → number_at places t o ≡ Some n → number_at places u p ≡ Some n → 0 < n → (t ≡ u) × (o ≡ p)
  pub few : (t o n : ℕ) → number_at places t o ≡ Some n → n ≤ 4000000
