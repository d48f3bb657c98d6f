-- The numbers of names.
-- (For functions and proofs: no promise of the program stands on it.)
use Rattle.std.specs.Prelude.{◌≡◌, ℕ, List, Option, IfSome, if◌then◌else◌}
use Rattle.std.specs.BTreeMap.{get_by}
use Rattle.std.specs.Cmp.Lexicographic.{slice_cmp}
use Rattle.std.specs.List.{IsDistinct, position}
use Rattle.std.specs.Ordering.{nat_cmp}
use Rattle.std.specs.Str.{bytes_eq}
use Rattle.path_names.specs.NameKeys.{has_key, key_of}
use Rattle.path_names.specs.declared.name_index.NameIndex.{NameIndex}

-- the number of a name, where it has one: looked up by its key, or by its bytes where it has no key
abbrev pub number_at : NameIndex → List ℕ → Option ℕ
number_at index name = if has_key name then get_by (nat_cmp (key_of name)) index.short else get_by (λ key. slice_cmp nat_cmp name key.items) index.long

-- Each name is kept once, and its number is its place.
pub record AreNumbered (names : List (List ℕ)) (number : List ℕ → Option ℕ) : Type 0 where
  pub apart : IsDistinct bytes_eq names
  pub places : (name : List ℕ) → number name ≡ position (bytes_eq name) names

-- Each name is kept once, and an index, where there is one, has the places of all.
pub record IsIndexed (names : List (List ℕ)) (index : Option NameIndex) : Type 0 where
  pub apart : IsDistinct bytes_eq names
  pub numbered : IfSome index (λ index. AreNumbered names (number_at index))
