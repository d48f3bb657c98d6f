-- Which classes are free, by the table of those taken.
use Rattle.std.proofs.Common.{◌≡◌, ℕ, ◌<◌, ◌≤◌, Bool, true, false, not, List, length, take, get_or, position, Some, None, refl, sym, ◌∙◌, arith}
use Rattle.std.proofs.lemmas.Grind.{common_steps}
use Rattle.std.proofs.lemmas.List.Quantifiers.{position-Some}
use Rattle.std.proofs.lemmas.Bool.{not-true}
use Rattle.hw_ids.specs.Ids.{places}
use Rattle.hw_ids.specs.Classes.{Classes, IsFree, NoneFree, IsLowestFree}
use Rattle.hw_ids.proofs.Places.{contains-places, position-none}

abbrev pub seen : ℕ → List Bool → Classes
seen n taken = record { count = n; taken = places (λ t. t) 0 (take n taken) }

-- what does not hold
not-false : (b : Bool) → b ≡ false → not b ≡ true
not-false b h = rw h refl

-- an id stands in the front of the table
lt-length_take : (n : ℕ) (taken : List Bool) (id : ℕ) → n ≤ length taken → id < n → id < length (take n taken)
lt-length_take n taken id fits h = grind (arith, common_steps)

-- an id whose place is not taken is free
IsFree-at : (n : ℕ) (taken : List Bool) (id : ℕ) → n ≤ length taken → id < n → not (get_or (take n taken) id true) ≡ true → IsFree (seen n taken) id
IsFree-at n taken id fits h free = record {
  exists = h;
  not_taken = contains-places (λ t. t) (take n taken) id true (lt-length_take n taken id fits h) ∙ not-true (get_or (take n taken) id true) free;
}

-- the place of a free id is not taken
not-taken_at : (n : ℕ) (taken : List Bool) (id : ℕ) → n ≤ length taken → IsFree (seen n taken) id → not (get_or (take n taken) id true) ≡ true
not-taken_at n taken id fits free =
    not-false (get_or (take n taken) id true) (sym (contains-places (λ t. t) (take n taken) id true (lt-length_take n taken id fits free.exists)) ∙ free.not_taken)

-- the first place that is not taken is the lowest free id
pub IsLowestFree-found : (n : ℕ) (taken : List Bool) (id : ℕ) → n ≤ length taken → position not (take n taken) ≡ Some id → IsLowestFree (seen n taken) id
IsLowestFree-found n taken id fits found =
    let first = position-Some not (take n taken) id true found in
    let within : id < n = grind (arith, common_steps, first.0) in
    record {
      free = IsFree-at n taken id fits within first.1;
      lowest = λ lower below free. let e = first.2 lower below in let f = not-taken_at n taken lower fits free in cc;
    }

-- where each place is taken, no id is free
pub NoneFree-none : (n : ℕ) (taken : List Bool) → n ≤ length taken → position not (take n taken) ≡ None → NoneFree (seen n taken)
NoneFree-none n taken fits gone id free =
    let e = position-none not (take n taken) gone id true (lt-length_take n taken id fits free.exists) in
    let f = not-taken_at n taken id fits free in cc

-- the first place that is not taken stands in the table
pub position-free : (n : ℕ) (taken : List Bool) (id : ℕ) → n ≤ length taken → position not (take n taken) ≡ Some id → (id < n) × (id < length taken) × (get_or taken id true ≡ false)
position-free n taken id fits found =
    let first = position-Some not (take n taken) id true found in
    let within : id < n = grind (arith, common_steps, first.0) in
    let same : get_or (take n taken) id true ≡ get_or taken id true = grind (arith, common_steps) in
    (within, grind (arith, common_steps, first.0), sym same ∙ not-true (get_or (take n taken) id true) first.1)
