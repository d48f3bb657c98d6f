-- The entries of a window, and what was counted of them.
use Rattle.std.proofs.Common.{◌≡◌, ℕ, suc, ◌+◌, Bool, true, false, List, [], ◌∷◌, length, take, inl, inr, refl, sym, subst, ap, ◌∙◌, arith}
use Rattle.std.specs.Prelude.{nat_lt}
use Rattle.std.specs.List.{All, position_or_len}
use Rattle.std.proofs.lemmas.Bool.{cases_Bool}
use Rattle.std.proofs.lemmas.List.Elements.{All-head, All-tail}
use Rattle.cache_core.specs.Filled.{empties}
use Rattle.cache_core.specs.declared.entry.SliceEntry.{SliceEntry}
use Rattle.cache_core.specs.declared.entry.What.TheVariants.{Flush}
use Rattle.cbm.specs.Masks.{ways_of}
use Rattle.pair_windows.specs.CdpWindows.{ends_window, owner_of_partition, window_front, window_of}
use Rattle.pair_windows.specs.Counted.{counted_window}
use Rattle.pair_windows.specs.Fronts.{front_of}
use Rattle.pair_windows.specs.PartitionSpans.{stay_of}
use Rattle.pair_windows.specs.declared.partition.Partition.{Partition}
use Rattle.private_lru.specs.declared.span.Span.{Span}
use Rattle.private_lru.specs.Covered.{covered}
use Rattle.private_lru.specs.GroupCounts.{accesses_of, covered_private_hits, hits_of_group}
use Rattle.private_lru.specs.declared.counts.WindowCounts.{WindowCounts}
use Rattle.private_lru.specs.Ends.{held_len}
use Rattle.private_lru.specs.Tallies.{IsCounted}

-- ---- the elements before the first that passes a test

module _ {X : Type 0} (q : X → Bool) where
  abbrev pub firsts : List X → List X
  firsts xs = take (position_or_len q xs) xs

  pub firsts-stop : (x : X) (xs : List X) → q x ≡ true → firsts (x ∷ xs) ≡ []
  firsts-stop x xs is = rw is refl

  pub firsts-more : (x : X) (xs : List X) → q x ≡ false → firsts (x ∷ xs) ≡ x ∷ firsts xs
  firsts-more x xs is = let one : 1 + position_or_len q xs ≡ suc (position_or_len q xs) = omega arith in rw (is, one) refl

-- ---- the entries of a window

-- an entry of a later epoch than this one
abbrev pub is_past : ℕ → SliceEntry → Bool
is_past last e = nat_lt last e.epoch

abbrev is_empty : SliceEntry → Bool
is_empty e = empties e.what

-- a window is sought among the entries up to the next flush, with any last epoch that parts them in the same way
pub window_front-front : (last other : ℕ) (rest : List SliceEntry) → All (λ (e : SliceEntry). is_past other e ≡ is_past last e) (front_of rest)
    → window_front last rest ≡ take (held_len other (front_of rest)) (front_of rest)
window_front-front last other [] same = refl
window_front-front last other (e ∷ rest) same = elim (cases_Bool (empties e.what)) [
  | inl empty ↦
      let ended : ends_window last e ≡ true = rw empty refl in
      let none : front_of (e ∷ rest) ≡ [] = firsts-stop is_empty e rest empty in
      firsts-stop (ends_window last) e rest ended ∙ ap (λ (l : List SliceEntry). take (held_len other l) l) (sym none)
  | inr full ↦
      let more : front_of (e ∷ rest) ≡ e ∷ front_of rest = firsts-more is_empty e rest full in
      let all : All (λ (x : SliceEntry). is_past other x ≡ is_past last x) (e ∷ front_of rest) = subst (All (λ (x : SliceEntry). is_past other x ≡ is_past last x)) more same in
      let here : is_past other e ≡ is_past last e = All-head (λ (x : SliceEntry). is_past other x ≡ is_past last x) e (front_of rest) all in
      let after = All-tail (λ (x : SliceEntry). is_past other x ≡ is_past last x) e (front_of rest) all in
      (elim (cases_Bool (is_past last e)) [
        | inl late ↦
            let ended : ends_window last e ≡ true = rw (full, late) refl in
            firsts-stop (ends_window last) e rest ended ∙ sym (firsts-stop (is_past other) e (front_of rest) (here ∙ late))
        | inr early ↦
            let goes : ends_window last e ≡ false = rw (full, early) refl in
            firsts-more (ends_window last) e rest goes ∙ (ap (λ (l : List SliceEntry). e ∷ l) (window_front-front last other rest after) ∙ sym (firsts-more (is_past other) e (front_of rest) (here ∙ early)))
      ]) ∙ ap (λ (l : List SliceEntry). take (held_len other l) l) (sym more)
]

-- ---- counts

module _ (sets domain from : ℕ) (k : Span Partition) (window : List SliceEntry) (front : List SliceEntry) (c : WindowCounts) where
  -- the window of a partition, by the counts of its entries
  pub window_of-counted : window ≡ take (held_len k.last front) front → IsCounted sets Flush front (stay_of k) c
      → hits_of_group (owner_of_partition k.held) (covered sets (owner_of_partition k.held) Flush window)
      ≡ covered_private_hits sets (owner_of_partition k.held) (length (ways_of k.held.mask)) Flush window
      → window_of sets domain from k.held window ≡ counted_window domain from k.held c
  window_of-counted is counted private =
      let owner : ℕ = owner_of_partition k.held in
      let accesses : accesses_of owner window ≡ c.accesses = ap (accesses_of owner) is ∙ sym counted.accesses in
      let hits : hits_of_group owner window ≡ c.hits = ap (hits_of_group owner) is ∙ sym counted.hits in
      let covers : length (covered sets owner Flush window) ≡ c.covered = ap (λ (l : List SliceEntry). length (covered sets owner Flush l)) is ∙ sym counted.covers in
      let covers_hits : hits_of_group owner (covered sets owner Flush window) ≡ c.covered_hits = ap (λ (l : List SliceEntry). hits_of_group owner (covered sets owner Flush l)) is ∙ sym counted.covers_hits in
      let privates : covered_private_hits sets owner (length (ways_of k.held.mask)) Flush window ≡ c.covered_hits = sym private ∙ covers_hits in
      rw (accesses, hits, covers, covers_hits, privates) refl
