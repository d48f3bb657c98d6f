-- How many looks a command makes.
use Rattle.std.proofs.Common.{◌≡◌, ◌≢◌, ℕ, ◌+◌, ◌<◌, ◌≤◌, Bool, true, List, [], ◌∷◌, ◌++◌, length, map, filter, get_or, sym, ap, ◌∙◌, arith}
use Rattle.std.specs.Prelude.{◌==◌}
use Rattle.std.specs.List.{All, AllPairs, flat_map, range_with_len}
use Rattle.std.proofs.lemmas.Bool.{eqb-true}
use Rattle.std.proofs.lemmas.Grind.{flat_map-append}
use Rattle.std.proofs.lemmas.List.{length-append, length-map}
use Rattle.std.proofs.lemmas.List.Elements.{All-filter, All-map}
use Rattle.std.proofs.lemmas.List.Kept.{AllPairs-filter}
use Rattle.cache_core.specs.declared.entry.What.TheVariants as whats
use Rattle.lists.proofs.Pairs.{AllPairs-map, length-distinct}
use Rattle.machine.specs.Slices.{domain_in}
use Rattle.machine.specs.declared.parameters.Parameters.{Parameters}
use Rattle.run_law.specs.Owed.{look_in}
use Rattle.tree_law.specs.Freeing.{counts_of}
use Rattle.tree_law.specs.LawsCounts.{CanLook}
use Rattle.tree_law.specs.Steps.{needs}
use Rattle.run_law.proofs.laws.ListCounts.{same_length, All-filtered, length-flat_map_if, length-flat_map_map, range-once_of_all}
use Rattle.run_law.proofs.laws.Pairs.{pair-same}

-- the counts of distinct RMIDs need as many looks in a slice as there are RMIDs at most
pub looks-few : (m : Parameters) (i k : ℕ) (needs : List (ℕ × ℕ)) → All (CanLook m) needs → AllPairs (λ (a b : ℕ × ℕ). a ≢ b) needs → length (flat_map (look_in m i k) needs) ≤ m.rmids
looks-few m i k needs exist distinct =
    let here : ℕ × ℕ → Bool = λ need. need.0 == domain_in m i in
    let kept : List (ℕ × ℕ) = filter here needs in
    let count : length (flat_map (look_in m i k) needs) ≡ length kept = length-flat_map_if here (λ need. record { epoch = k; what = whats.Look need.1 0 }) needs in
    let passes : All (λ need. here need ≡ true) kept = All-filtered here needs in
    let inside : All (CanLook m) kept = All-filter here (CanLook m) needs exist in
    let apart : AllPairs (λ (a b : ℕ × ℕ). a ≢ b) kept = AllPairs-filter (λ (a b : ℕ × ℕ). a ≢ b) here needs distinct in
    let rmids : AllPairs (λ (a b : ℕ). a ≢ b) (map (λ (need : ℕ × ℕ). need.1) kept) = AllPairs-map (λ (a b : ℕ). a ≢ b) (λ (need : ℕ × ℕ). need.1) kept
    (λ p q d less within same. apart p q d less within
    (pair-same (get_or kept p d) (get_or kept q d) (eqb-true (get_or kept p d).0 (domain_in m i) (passes p d (omega (arith, less, within))) ∙ sym (eqb-true (get_or kept q d).0 (domain_in m i) (passes q d within))) same)) in
    let below : All (λ id. id < m.rmids) (map (λ (need : ℕ × ℕ). need.1) kept) = All-map (λ id. id < m.rmids) (λ (need : ℕ × ℕ). need.1) kept (λ p d within. (inside p d within).1) in
    let few : length (map (λ (need : ℕ × ℕ). need.1) kept) ≤ m.rmids = length-distinct m.rmids (map (λ (need : ℕ × ℕ). need.1) kept) rmids below in
    omega (arith, count, few, length-map kept (λ (need : ℕ × ℕ). need.1))

-- those of each RMID in each domain need one for each RMID at most
pub looks-counts_of : (m : Parameters) (i k : ℕ) (rmids : List ℕ) → length (flat_map (look_in m i k) (counts_of m rmids)) ≤ length rmids
looks-counts_of m i k [] = omega arith
looks-counts_of m i k (r ∷ rs) =
    let domains : List (ℕ × ℕ) = map (λ domain. (domain, r)) (range_with_len 0 m.domains) in
    let first : length (flat_map (look_in m i k) domains) ≤ 1 = omega (
      arith,
      range-once_of_all (domain_in m i) 0 m.domains,
      length-flat_map_map (λ d. d == domain_in m i) (λ (domain : ℕ). (domain, r)) (look_in m i k) (λ d. same_length (d == domain_in m i) (record { epoch = k; what = whats.Look r 0 }) d) (range_with_len 0 m.domains),
    ) in
    let rest = looks-counts_of m i k rs in
    let all : flat_map (look_in m i k) (domains ++ counts_of m rs) ≡ flat_map (look_in m i k) domains ++ flat_map (look_in m i k) (counts_of m rs) = flat_map-append (look_in m i k) domains (counts_of m rs) in
    let count : length (flat_map (look_in m i k) (domains ++ counts_of m rs)) ≡ length (flat_map (look_in m i k) domains) + length (flat_map (look_in m i k) (counts_of m rs)) = ap length all ∙ length-append (flat_map (look_in m i k) domains) (flat_map (look_in m i k) (counts_of m rs)) in
    omega (arith, count, first, rest)
