-- Slices that are judged part by part, and what is kept of those that were judged and let go of.
-- (For functions and proofs: no promise of the program stands on it.)
use Rattle.std.specs.Prelude.{◌≡◌, ℕ, ◌<◌, ◌≤◌, ◌⊎◌, IsSome, List, [], length, map, take, nat_lt, if◌then◌else◌, Option, Some, None, slice_index_or}
use Rattle.cache_core.specs.declared.entry.SliceEntry.{SliceEntry}
use Rattle.check_parts.specs.declared.judged_slices.JudgedSlices.{JudgedSlices}
use Rattle.journal_check.specs.Verdicts.{HoldBefore, IsFirstFalse, rank}
use Rattle.journal_check.specs.declared.verdict.Clause.{Clause}
use Rattle.journal_check.specs.declared.verdict.Clause.TheVariants.{LooksAreMatched}
use Rattle.journal_check.specs.declared.verdict.Verdict.{Verdict}
use Rattle.journal_check.specs.declared.verdict.Verdict.TheVariants.{Yes, No}
use Rattle.run_law.specs.Entries.{entries_of}
use Rattle.run_law.specs.Journals.{JournalsValue}
use Rattle.run_law.specs.Looks.{first_look}
use Rattle.run_law.specs.TreeHistory.{TreeEntryValue}
use Rattle.script_ops.specs.Values.{ScriptValue, op_at}

-- journals with these commands and these slices
abbrev pub journals_of : List TreeEntryValue → List (List SliceEntry) → JournalsValue
journals_of tree slices = record { tree = tree; slices = slices }

-- the entries of a slice in a list of slices
abbrev pub entries_at : List (List SliceEntry) → ℕ → List SliceEntry
entries_at slices i = slice_index_or slices i []

-- at each place some slices have what one of two others have, and the other nothing
abbrev pub AreParts : List (List SliceEntry) → List (List SliceEntry) → List (List SliceEntry) → Type 0
AreParts all one two =
    (i : ℕ)
    → ((entries_at one i ≡ entries_at all i) × (entries_at two i ≡ []))
    ⊎ ((entries_at one i ≡ []) × (entries_at two i ≡ entries_at all i))

-- ---- the clauses before that of the looks: they hold of slices exactly where they hold of each part

-- this one of them is the first that is false; all of them hold where there is none
abbrev pub IsFound : ScriptValue → JournalsValue → Option Clause → Type 0
IsFound script j None = HoldBefore script j LooksAreMatched
IsFound script j (Some clause) = (rank clause < rank LooksAreMatched) × IsFirstFalse script j clause

-- the clause of a verdict, where it is one of them
abbrev pub found_in : Verdict → Option Clause
found_in Yes = None
found_in (No clause) = if nat_lt (rank clause) (rank LooksAreMatched) then Some clause else None

-- the earlier of two clauses, where there are any
abbrev pub earlier_of : Option Clause → Option Clause → Option Clause
earlier_of None other = other
earlier_of (Some clause) None = Some clause
earlier_of (Some clause) (Some other) = if nat_lt (rank clause) (rank other) then Some clause else Some other

-- ---- first looks

-- of each op of the script and each RMID the first look is that of these entries
abbrev pub HaveLooks : ScriptValue → List SliceEntry → List SliceEntry → Type 0
HaveLooks script entries looks = (thread op rmid : ℕ) → IsSome (op_at script thread op) → first_look thread op rmid looks ≡ first_look thread op rmid entries

-- these are looks of the slices before a place
pub record AreLooks (script : ScriptValue) (all : List (List SliceEntry)) (n : ℕ) (looks : List (List SliceEntry)) : Type 0 where
  pub count : length looks ≡ n
  pub have : (i : ℕ) → i < n → HaveLooks script (entries_at all i) (entries_at looks i)

-- ---- what is kept of slices that were judged

-- the first looks of the slices that were judged
abbrev pub looks_in : JudgedSlices → List (List SliceEntry)
looks_in judged = map entries_of judged.looks.items

-- all these slices were judged
pub record AreJudged (script : ScriptValue) (judged : JudgedSlices) (tree : List TreeEntryValue) (all : List (List SliceEntry)) : Type 0 where
  pub found : IsFound script (journals_of tree all) judged.found
  pub looks : judged.found ≡ None → AreLooks script all (length all) (looks_in judged)

-- The slices before a place were judged, and of these nothing is left.
pub record IsJudged (script : ScriptValue) (judged : JudgedSlices) (tree : List TreeEntryValue) (all left : List (List SliceEntry)) : Type 0 where
  pub place : ℕ
  pub few : place ≤ length all
  pub gone : (i : ℕ) → i < place → entries_at left i ≡ []
  pub rest : (i : ℕ) → place ≤ i → entries_at left i ≡ entries_at all i
  pub found : IsFound script (journals_of tree (take place all)) judged.found
  pub looks : judged.found ≡ None → AreLooks script all place (looks_in judged)

-- the same; and all are left where none was judged
abbrev pub IsSoFar : ScriptValue → Option JudgedSlices → List TreeEntryValue → List (List SliceEntry) → List (List SliceEntry) → Type 0
IsSoFar script None tree all left = (i : ℕ) → entries_at left i ≡ entries_at all i
IsSoFar script (Some judged) tree all left = IsJudged script judged tree all left

-- the clause that was found so far, and the looks that are kept; none where no slice was judged
abbrev pub found_so_far : Option JudgedSlices → Option Clause
found_so_far None = None
found_so_far (Some judged) = judged.found

abbrev pub looks_so_far : Option JudgedSlices → List (List SliceEntry)
looks_so_far None = []
looks_so_far (Some judged) = looks_in judged
