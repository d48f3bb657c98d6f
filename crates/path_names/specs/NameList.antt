-- Lists of names.
-- (For functions and proofs: no promise of the program stands on it.)
use Rattle.std.specs.Prelude.{ℕ, ◌+◌, ◌≤◌, List, length}
use Rattle.std.specs.Vec.{vec_len, vec_capacity}
use Rattle.path_names.specs.declared.name_list.NameList.{NameList}
use Rattle.path_names.specs.declared.name_list.TheConstants.{MOST_LIST_BYTES}
use Rattle.path_names.specs.NameTexts.{names_from}

-- the names, in the order in which they came
abbrev pub names_of : NameList → List (List ℕ)
names_of l = names_from 0 l.bytes.items l.ends.items

-- This name can be added without taking memory.
pub record HasRoom (l : NameList) (name : List ℕ) : Type 0 where
  pub bytes : vec_len l.bytes + length name ≤ vec_capacity l.bytes
  pub ends : vec_len l.ends + 1 ≤ vec_capacity l.ends
  pub few : vec_len l.bytes + length name ≤ MOST_LIST_BYTES
