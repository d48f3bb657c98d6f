-- The RMIDs of groups differ, and so do their counts.
use Rattle.std.proofs.Common.{◌≡◌, ◌≢◌, ℕ, ◌<◌, List, [], map, get_or, Option, None, Some, refl, sym, ap, ◌∙◌, arith}
use Rattle.std.specs.List.{All, AllPairs, flat_map, range_with_len}
use Rattle.std.specs.Option.{option_to_list}
use Rattle.std.proofs.lemmas.List.Elements.{All-map}
use Rattle.std.proofs.lemmas.List.FromFn.{get_or-range_with_len, length-range_with_len}
use Rattle.group_tree.specs.declared.group.Group.{Group}
use Rattle.lists.proofs.Pairs.{AllAcross, AllPairs-flat_map, AllPairs-map, AllPairs-one}
use Rattle.machine.specs.declared.parameters.Parameters.{Parameters}
use Rattle.tree_law.specs.Freeing.{counts_of, rmids_of}
use Rattle.tree_law.specs.Sound.{IdsDiffer}
use Rattle.tree_law.proofs.laws.DistinctIds.{AllPairs-ids_of}

-- each two of these RMIDs differ
abbrev pub AreDistinct : List ℕ → Type 0
AreDistinct ns = AllPairs (λ (a b : ℕ). a ≢ b) ns

-- two counts that differ
abbrev pub Apart : ℕ × ℕ → ℕ × ℕ → Type 0
Apart a b = a ≢ b

-- nothing has no pairs
pub AllPairs-nil : {X : Type 0} (R : X → X → Type 0) → AllPairs R []
AllPairs-nil R = λ i j d below within. absurd (omega arith)

-- ---- counts of distinct RMIDs

-- the counts of distinct RMIDs differ
pub counts_of-distinct : (m : Parameters) (rmids : List ℕ) → AreDistinct rmids → AllPairs Apart (counts_of m rmids)
counts_of-distinct m rmids distinct = AllPairs-flat_map Apart each_domain rmids (λ k d within. of_one (get_or rmids k d)) (λ i j c below within. of_two (get_or rmids i c) (get_or rmids j c) (distinct i j c below within))
  where
    each_domain : ℕ → List (ℕ × ℕ)
    each_domain rmid = map (λ domain. (domain, rmid)) (range_with_len 0 m.domains)

    of_one : (rmid : ℕ) → AllPairs Apart (map (λ domain. (domain, rmid)) (range_with_len 0 m.domains))
    of_one rmid = AllPairs-map Apart (λ (domain : ℕ). (domain, rmid)) (range_with_len 0 m.domains) (λ i j d below within e.
        let lt : j < m.domains = omega (arith, within, length-range_with_len 0 m.domains) in
        let one = get_or-range_with_len 0 m.domains i d (omega arith) in
        let two = get_or-range_with_len 0 m.domains j d lt in
        let same = ap (λ (p : ℕ × ℕ). p.0) e in omega (arith, one, two, same))

    of_two : (r q : ℕ) → r ≢ q → AllAcross Apart (map (λ domain. (domain, r)) (range_with_len 0 m.domains)) (map (λ domain. (domain, q)) (range_with_len 0 m.domains))
    of_two r q differ = λ i j d less within e. differ (sym (rmid_of r i d less) ∙ ap (λ (p : ℕ × ℕ). p.1) e ∙ rmid_of q j d within)
      where
        rmid_of : (r : ℕ) → All (λ (p : ℕ × ℕ). p.1 ≡ r) (map (λ domain. (domain, r)) (range_with_len 0 m.domains))
        rmid_of r = All-map (λ (p : ℕ × ℕ). p.1 ≡ r) (λ (domain : ℕ). (domain, r)) (range_with_len 0 m.domains) (λ k d within. refl)

-- ---- the RMIDs of records

-- of records whose ids differ
pub flat_map-distinct : (groups : List Group) → AllPairs IdsDiffer groups → AreDistinct (flat_map rmids_of groups)
flat_map-distinct groups pairs = AllPairs-ids_of (λ (g : Group). g.rmid) groups (λ i j d below within. (pairs i j d below within).1)

-- one record has no RMID twice
pub rmids_of-distinct : (g : Group) → AreDistinct (rmids_of g)
rmids_of-distinct g = at g.rmid
  where
    at : (o : Option ℕ) → AreDistinct (option_to_list o)
    at None = AllPairs-nil (λ (a b : ℕ). a ≢ b)
    at (Some id) = AllPairs-one (λ (a b : ℕ). a ≢ b) id
