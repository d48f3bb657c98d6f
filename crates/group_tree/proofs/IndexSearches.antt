-- What a search of an index finds.
use Rattle.std.proofs.Common.{◌≡◌, ◌≢◌, ℕ, ◌-◌, ◌<◌, ◌≤◌, true, false, List, length, get_or, All, sym, ap, ◌∙◌, subst, arith, inl, inr}
use Rattle.std.specs.List.{AllWithin, position_or_len}
use Rattle.std.proofs.lemmas.Bool.{cases_lt, false_from_ne_true}
use Rattle.std.proofs.lemmas.List.{get_or_default}
use Rattle.std.proofs.lemmas.List.Sums.{position_or_len_is}
use Rattle.group_tree.specs.Indices.{IsIndex}
use Rattle.group_tree.specs.Keys.{is_below, is_key}
use Rattle.group_tree.specs.Records.{blank}
use Rattle.group_tree.specs.declared.group.Group.{Group}
use Rattle.group_tree.specs.declared.index.Entry.{Entry}
use Rattle.group_tree.specs.declared.key.Key.{Key}
use Rattle.group_tree.proofs.Orders.{in_order-le, is_below-other, is_key-after, is_key-sym, place-le}
use Rattle.group_tree.proofs.IndexEntries.{count_by-none}

module _ (key_of : Group → Key) (groups : List Group) (entries : List Entry) (index : IsIndex key_of groups entries) where
  -- each group has an entry
  has_entry : (place : ℕ) → place < length groups → All (λ e. e.place ≢ place) entries → ⊥
  has_entry place within none = omega (arith, count_by-none place entries none, index.once place within)

  -- the entry of a group has its key
  is_key-entry : (key : Key) (place k : ℕ) (d : Entry) (g : Group) → k < length entries → (get_or entries k d).place ≡ place → is_key key (key_of (get_or groups place g)) ≡ true → is_key key (get_or entries k d).key ≡ true
  is_key-entry key place k d g within same is =
      let entry = index.right k d within in
      subst (λ (x : Key). is_key key x ≡ true) (entry.key g) (subst (λ (n : ℕ). is_key key (key_of (get_or groups n g)) ≡ true) (sym same) is)

  module _ (key : Key) (from : ℕ) (bound : from ≤ length entries) (below : AllWithin (λ e. is_below e.key key ≡ true) entries 0 from) (rest : AllWithin (λ e. is_below e.key key ≡ false) entries from (length entries)) where
    -- where the first entry that is not below has another key, no group has the key
    pub position_or_len-absent : ((d : Entry) → from < length entries → is_key (get_or entries from d).key key ≡ false) → length entries ≡ position_or_len (λ g. is_key key (key_of g)) groups
    position_or_len-absent other = sym (position_or_len_is (λ g. is_key key (key_of g)) groups (length entries) blank (omega (arith, index.size)) none (λ within. absurd (omega (arith, index.size))))
      where
        none : (place : ℕ) → place < length entries → is_key key (key_of (get_or groups place blank)) ≡ false
        none place within = false_from_ne_true _ (λ is. has_entry place (omega (arith, index.size)) (λ k d h same.
            let has = is_key-entry key place k d blank h same is in
            elim (cases_lt k from) [
              | inl lower ↦ is_below-other (get_or entries k d).key key (below k d (omega arith) lower) has
              | inr past ↦ is_key-after (get_or entries from d) (get_or entries k d) key (in_order-le entries index.rising from k d past h) (rest from d (omega arith) (omega arith)) (other d (omega arith)) has
            ]))

    -- where it has the key, its group is the first that has
    pub position_or_len-present : (d : Entry) → from < length entries → is_key (get_or entries from d).key key ≡ true → (get_or entries from d).place ≡ position_or_len (λ g. is_key key (key_of g)) groups
    position_or_len-present d inside is_first =
        let entry = index.right from d inside in
        sym (position_or_len_is (λ g. is_key key (key_of g)) groups (get_or entries from d).place blank (omega (arith, entry.within)) none
        (λ within. subst (λ (x : Key). is_key key x ≡ true) (sym (entry.key blank)) (is_key-sym (get_or entries from d).key key is_first)))
      where
        none : (place : ℕ) → place < (get_or entries from d).place → is_key key (key_of (get_or groups place blank)) ≡ false
        none place lower_place = let entry = index.right from d inside in
            false_from_ne_true _ (λ is. has_entry place (omega (arith, entry.within)) (λ k e h same.
            let same_here : (get_or entries k d).place ≡ place = ap (λ (x : Entry). x.place) (get_or_default entries k d e h) ∙ same in
            let has = is_key-entry key place k d blank h same_here is in
            elim (cases_lt k from) [
              | inl lower ↦ is_below-other (get_or entries k d).key key (below k d (omega arith) lower) has
              | inr past ↦ (let le = place-le (get_or entries from d) (get_or entries k d) key (in_order-le entries index.rising from k d past h) is_first has in absurd (omega (arith, le, same_here, lower_place)))
            ]))
