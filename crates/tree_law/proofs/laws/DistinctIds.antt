-- Ids of groups that differ from group to group.
use Rattle.std.proofs.Common.{◌≢◌, ℕ, zero, suc, ◌<◌, ◌≤◌, List, [], ◌∷◌, length, get_or, Option, None, Some, IfSome, arith}
use Rattle.std.specs.List.{All, AllPairs, flat_map}
use Rattle.std.specs.Option.{option_to_list}
use Rattle.group_tree.specs.declared.group.Group.{Group}
use Rattle.lists.proofs.Pairs.{All-flat_map, AllAcross, AllPairs-flat_map, AllPairs-one, length-distinct}
use Rattle.tree_law.specs.Sound.{Differ}

-- the ids of these groups
abbrev pub ids_of : (Group → Option ℕ) → List Group → List ℕ
ids_of of groups = flat_map (λ (g : Group). option_to_list (of g)) groups

-- each two of them differ
pub AllPairs-ids_of : (of : Group → Option ℕ) (groups : List Group) → AllPairs (λ (a b : Group). Differ (of a) (of b)) groups → AllPairs (λ (a b : ℕ). a ≢ b) (ids_of of groups)
AllPairs-ids_of of groups pairs = AllPairs-flat_map (λ (a b : ℕ). a ≢ b) (λ (g : Group). option_to_list (of g)) groups (λ k d within. one (of (get_or groups k d)))
    (λ i j d before within. two (of (get_or groups i d)) (of (get_or groups j d)) (pairs i j d before within))
  where
    one : (o : Option ℕ) → AllPairs (λ (a b : ℕ). a ≢ b) (option_to_list o)
    one None = λ i j d before within. absurd (omega arith)
    one (Some id) = AllPairs-one (λ (a b : ℕ). a ≢ b) id

    two : (a b : Option ℕ) → Differ a b → AllAcross (λ (x y : ℕ). x ≢ y) (option_to_list a) (option_to_list b)
    two None b differ = λ i j d less within. absurd (omega arith)
    two (Some a) None differ = λ i j d less within. absurd (omega arith)
    two (Some a) (Some b) differ = at
      where
        at : (i j d : ℕ) → i < 1 → j < 1 → get_or (a ∷ []) i d ≢ get_or (b ∷ []) j d
        at zero zero d less within = differ
        at zero (suc j) d less within = absurd (omega arith)
        at (suc i) j d less within = absurd (omega arith)

-- where they are below one number, they are no more than that
pub length-ids_of : (of : Group → Option ℕ) (n : ℕ) (groups : List Group) → AllPairs (λ (a b : Group). Differ (of a) (of b)) groups → All (λ (g : Group). IfSome (of g) (λ id. id < n)) groups → length (ids_of of groups) ≤ n
length-ids_of of n groups pairs below = length-distinct n (ids_of of groups) (AllPairs-ids_of of groups pairs)
    (All-flat_map (λ id. id < n) (λ (g : Group). option_to_list (of g)) groups (λ k d within. small (of (get_or groups k d)) (below k d within)))
  where
    small : (o : Option ℕ) → IfSome o (λ id. id < n) → All (λ id. id < n) (option_to_list o)
    small None is = λ k d within. absurd (omega arith)
    small (Some id) is = at
      where
        at : (k d : ℕ) → k < 1 → get_or (id ∷ []) k d < n
        at zero d within = is
        at (suc k) d within = absurd (omega arith)
