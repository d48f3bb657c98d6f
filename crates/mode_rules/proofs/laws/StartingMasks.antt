-- The mask that a new group starts with is valid, and has only ways that it may start with.
use Rattle.std.proofs.Common.{◌≡◌, ℕ, ◌+◌, ◌^◌, ◌<◌, ◌≤◌, Bool, true, false, not, ◌&&◌, ◌||◌, eqb, leb, cond, List, [], ◌∷◌, length, Ok, inl, inr, refl, sym, ap, ◌∙◌, arith}
use Rattle.std.specs.Int.{bit_at}
use Rattle.std.specs.List.{list_any}
use Rattle.std.proofs.lemmas.Nat.Bits.{bit_at_above}
use Rattle.std.proofs.lemmas.Bool.{cases_lt, eqb-true, le-ltb, lt-leb, ne_eqb, true≢false}
use Rattle.std.proofs.Math.Bool.{and-false}
use Rattle.cbm.specs.declared.geometry.Geometry.{Geometry}
use Rattle.cbm.specs.Masks.{has_way, lowest_run, ways_of}
use Rattle.cbm.specs.Validity.{checked, checked_ways, has_gaps}
use Rattle.lists.proofs.Filters.{list_any-filter_none, list_any-filter_true}
use Rattle.cbm.proofs.laws.Ways.{list_any-ways_of}
use Rattle.mode_rules.specs.declared.domain_use.DomainUse.{DomainUse}
use Rattle.mode_rules.specs.StartingWays.{may_start_with, starting_ways}

-- ---- validity

-- what no way passes, none of the lowest run does
list_any-lowest_run : (p : ℕ → Bool) (ways : List ℕ) → list_any p ways ≡ false → list_any p (lowest_run ways) ≡ false
list_any-lowest_run p [] h = refl
list_any-lowest_run p (w ∷ []) h = h
list_any-lowest_run p (v ∷ w ∷ ways) h = at (eqb w (v + 1)) (p v) h (list_any-lowest_run p (w ∷ ways))
  where
    at : (b first : Bool) → (first || list_any p (w ∷ ways)) ≡ false → (list_any p (w ∷ ways) ≡ false → list_any p (lowest_run (w ∷ ways)) ≡ false) → (first || list_any p (cond b (lowest_run (w ∷ ways)) [])) ≡ false
    at true true e more = absurd cc
    at true false e more = more e
    at false true e more = absurd cc
    at false false e more = refl

-- a lowest run begins with the first way
lowest_run-cons : (w : ℕ) (ways : List ℕ) → (rest : List ℕ) × (lowest_run (w ∷ ways) ≡ w ∷ rest)
lowest_run-cons w [] = ([], refl)
lowest_run-cons v (w ∷ ways) = (cond (eqb w (v + 1)) (lowest_run (w ∷ ways)) [], refl)

-- the lowest run is its own lowest run
lowest_run-lowest_run : (ways : List ℕ) → lowest_run (lowest_run ways) ≡ lowest_run ways
lowest_run-lowest_run [] = refl
lowest_run-lowest_run (w ∷ []) = refl
lowest_run-lowest_run (v ∷ w ∷ ways) = at (eqb w (v + 1)) refl (lowest_run-lowest_run (w ∷ ways))
  where
    at : (b : Bool) → b ≡ eqb w (v + 1) → lowest_run (lowest_run (w ∷ ways)) ≡ lowest_run (w ∷ ways) → lowest_run (v ∷ cond b (lowest_run (w ∷ ways)) []) ≡ v ∷ cond b (lowest_run (w ∷ ways)) []
    at true e more = (let b = lowest_run-cons w ways in
        let one : lowest_run (v ∷ lowest_run (w ∷ ways)) ≡ lowest_run (v ∷ w ∷ b.0) = ap (λ (xs : List ℕ). lowest_run (v ∷ xs)) b.1 in
        let two : lowest_run (v ∷ w ∷ b.0) ≡ v ∷ lowest_run (w ∷ b.0) = ap (λ (c : Bool). v ∷ cond c (lowest_run (w ∷ b.0)) []) (sym e) in
        one ∙ two ∙ ap (λ (xs : List ℕ). v ∷ xs) (ap lowest_run (sym b.1) ∙ more))
    at false e more = refl

-- those ways exist
list_any-starting_ways : (others : DomainUse) (len : ℕ) → list_any (leb len) (starting_ways len others) ≡ false
unfolding starting_ways
list_any-starting_ways others len = list_any-filter_none (may_start_with others) (leb len) 0 len (λ k low high yes_k. lt-leb len k (omega arith))

-- ways that pass each test
checked_ways-valid : (g : Geometry) (mask : ℕ) (ways : List ℕ) → 0 < length ways → list_any (leb g.len) ways ≡ false → (not g.sparse && has_gaps ways) ≡ false → g.min ≤ length (lowest_run ways) → checked_ways g mask ways ≡ Ok mask
checked_ways-valid g mask ways some within whole enough = rw (ne_eqb (length ways) 0 (omega arith), within, whole, le-ltb (length (lowest_run ways)) g.min enough) refl

-- all of them, on a sparse machine
pub checked-all_ways : (g : Geometry) (others : DomainUse) (mask : ℕ) → g.sparse ≡ true → ways_of mask ≡ starting_ways g.len others → 0 < length (ways_of mask) → g.min ≤ length (lowest_run (ways_of mask)) → checked g mask ≡ Ok mask
unfolding checked
checked-all_ways g others mask sparse ways some enough =
    checked_ways-valid g mask (ways_of mask) some (ap (list_any (leb g.len)) ways ∙ list_any-starting_ways others g.len) (ap (λ (b : Bool). not b && has_gaps (ways_of mask)) sparse) enough

-- their lowest run
pub checked-run : (g : Geometry) (others : DomainUse) (mask run : ℕ) → ways_of mask ≡ starting_ways g.len others → ways_of run ≡ lowest_run (ways_of mask) → 0 < length (ways_of run) → g.min ≤ length (ways_of run) → checked g run ≡ Ok run
unfolding checked
checked-run g others mask run ways run_is some enough =
    let within : list_any (leb g.len) (ways_of run) ≡ false = ap (list_any (leb g.len)) run_is ∙ list_any-lowest_run (leb g.len) (ways_of mask) (ap (list_any (leb g.len)) ways ∙ list_any-starting_ways others g.len) in
    let same : lowest_run (ways_of run) ≡ ways_of run = ap lowest_run run_is ∙ lowest_run-lowest_run (ways_of mask) ∙ sym run_is in
    let whole : has_gaps (ways_of run) ≡ false = le-ltb (length (lowest_run (ways_of run))) (length (ways_of run)) (omega (arith, ap length same)) in
    checked_ways-valid g run (ways_of run) some within (ap (λ (b : Bool). not g.sparse && b) whole ∙ and-false (not g.sparse)) (omega (arith, ap length same))

-- ---- whose ways they are

-- a way of the lowest run is a way of the whole
list_any-lowest_run_true : (p : ℕ → Bool) (ways : List ℕ) → list_any p (lowest_run ways) ≡ true → list_any p ways ≡ true
list_any-lowest_run_true p ways h = tell (list_any p ways) refl
  where
    tell : (b : Bool) → b ≡ list_any p ways → b ≡ true
    tell true e = refl
    tell false e = absurd (true≢false (sym h ∙ list_any-lowest_run p ways (sym e)))

-- a way of those that a new group may start with is such a way
may_start_with-starting_ways : (others : DomainUse) (len way : ℕ) → list_any (eqb way) (starting_ways len others) ≡ true → may_start_with others way ≡ true
unfolding starting_ways
may_start_with-starting_ways others len way h =
    let s = list_any-filter_true (may_start_with others) (eqb way) 0 len h in
    let same : way ≡ s.0 = eqb-true way s.0 s.3 in
    ap (may_start_with others) same ∙ s.2

-- a way of a mask is among its ways
list_any-has_way : (mask way : ℕ) → mask < 2 ^ 32 → has_way mask way ≡ true → list_any (eqb way) (ways_of mask) ≡ true
list_any-has_way mask way small h = elim (cases_lt way 64) [
  | inl lt ↦ list_any-ways_of mask way lt ∙ h
  | inr le ↦ (let none : bit_at mask way ≡ 0 = bit_at_above mask 64 way (omega arith) le in absurd (omega (arith, eqb-true (bit_at mask way) 1 h, none)))
]

-- each of all of them
pub may_start_with-all_ways : (others : DomainUse) (len mask way : ℕ) → mask < 2 ^ 32 → ways_of mask ≡ starting_ways len others → has_way mask way ≡ true → may_start_with others way ≡ true
may_start_with-all_ways others len mask way small ways h =
    may_start_with-starting_ways others len way (ap (list_any (eqb way)) (sym ways) ∙ list_any-has_way mask way small h)

-- each way of their lowest run
pub may_start_with-run : (others : DomainUse) (len mask run way : ℕ) → run < 2 ^ 32 → ways_of mask ≡ starting_ways len others → ways_of run ≡ lowest_run (ways_of mask) → has_way run way ≡ true → may_start_with others way ≡ true
may_start_with-run others len mask run way small ways run_is h =
    may_start_with-starting_ways others len way (ap (list_any (eqb way)) (sym ways) ∙ list_any-lowest_run_true (eqb way) (ways_of mask) (ap (list_any (eqb way)) (sym run_is) ∙ list_any-has_way run way small h))
