-- Which RMIDs are free, by the table of their uses.
use Rattle.std.proofs.Common.{◌≡◌, ℕ, ◌<◌, ◌≤◌, true, false, List, length, take, set, cond, ltb, get_or, position, Some, None, refl, sym, ◌∙◌, arith}
use Rattle.std.proofs.lemmas.Grind.{common_steps}
use Rattle.std.proofs.lemmas.List.Quantifiers.{position-Some}
use Rattle.hw_ids.specs.declared.uses.Use.{Use}
use Rattle.hw_ids.specs.declared.uses.Use.TheVariants.{Free, Taken, Limbo}
use Rattle.hw_ids.specs.Uses as uses
use Rattle.hw_ids.specs.Ids.{contains, places, with_id, without}
use Rattle.hw_ids.specs.MonitoringIds.{ArePart, MonitoringIds, IsFree, NoneFree, IsLowestFree, after_free}
use Rattle.hw_ids.proofs.Places.{contains-places, contains-within, places-set_no, places-set_same, places-set_yes, position-none}

abbrev pub seen : ℕ → List Use → ℕ → MonitoringIds
seen n table threshold = record { count = n; taken = places uses.is_taken 0 (take n table); limbo = places uses.is_limbo 0 (take n table); threshold = threshold }

-- what is free is not taken
is_taken-free : (u : Use) → uses.is_free u ≡ true → uses.is_taken u ≡ false
is_taken-free Free h = refl
is_taken-free Taken h = sym h
is_taken-free Limbo h = refl

-- and not in limbo
is_limbo-free : (u : Use) → uses.is_free u ≡ true → uses.is_limbo u ≡ false
is_limbo-free Free h = refl
is_limbo-free Taken h = refl
is_limbo-free Limbo h = sym h

-- what is neither is free
is_free-else : (u : Use) → uses.is_taken u ≡ false → uses.is_limbo u ≡ false → uses.is_free u ≡ true
is_free-else Free h i = refl
is_free-else Taken h i = sym h
is_free-else Limbo h i = sym i

-- an RMID stands in the front of the table
lt-length_take : (n : ℕ) (table : List Use) (id : ℕ) → n ≤ length table → id < n → id < length (take n table)
lt-length_take n table id fits h = grind (arith, common_steps)

-- an RMID whose place is free is free
IsFree-at : (n : ℕ) (table : List Use) (threshold id : ℕ) → n ≤ length table → id < n → uses.is_free (get_or (take n table) id Taken) ≡ true → IsFree (seen n table threshold) id
IsFree-at n table threshold id fits h free = record {
  exists = h;
  not_taken = contains-places uses.is_taken (take n table) id Taken (lt-length_take n table id fits h) ∙ is_taken-free (get_or (take n table) id Taken) free;
  not_in_limbo = contains-places uses.is_limbo (take n table) id Taken (lt-length_take n table id fits h) ∙ is_limbo-free (get_or (take n table) id Taken) free;
}

-- the place of a free RMID is free
is_free-at : (n : ℕ) (table : List Use) (threshold id : ℕ) → n ≤ length table → IsFree (seen n table threshold) id → uses.is_free (get_or (take n table) id Taken) ≡ true
is_free-at n table threshold id fits free =
    let within = lt-length_take n table id fits free.exists in
    is_free-else (get_or (take n table) id Taken)
    (sym (contains-places uses.is_taken (take n table) id Taken within) ∙ free.not_taken)
    (sym (contains-places uses.is_limbo (take n table) id Taken within) ∙ free.not_in_limbo)

-- the first free place is the lowest free RMID
pub IsLowestFree-found : (n : ℕ) (table : List Use) (threshold id : ℕ) → n ≤ length table → position uses.is_free (take n table) ≡ Some id → IsLowestFree (seen n table threshold) id
IsLowestFree-found n table threshold id fits found =
    let first = position-Some uses.is_free (take n table) id Taken found in
    let within : id < n = grind (arith, common_steps, first.0) in
    record {
      free = IsFree-at n table threshold id fits within first.1;
      lowest = λ lower below free. let e = first.2 lower below in let f = is_free-at n table threshold lower fits free in cc;
    }

-- where no place is free, no RMID is
pub NoneFree-none : (n : ℕ) (table : List Use) (threshold : ℕ) → n ≤ length table → position uses.is_free (take n table) ≡ None → NoneFree (seen n table threshold)
NoneFree-none n table threshold fits gone id free =
    let e = position-none uses.is_free (take n table) gone id Taken (lt-length_take n table id fits free.exists) in
    let f = is_free-at n table threshold id fits free in cc

-- what is taken is not in limbo
is_limbo-taken : (u : Use) → uses.is_taken u ≡ true → uses.is_limbo u ≡ false
is_limbo-taken Free h = refl
is_limbo-taken Taken h = refl
is_limbo-taken Limbo h = sym h

-- an RMID of this use in the table
get_or-take_table : (n : ℕ) (table : List Use) (id : ℕ) (d : Use) → id < length table → id < n → get_or (take n table) id Taken ≡ get_or table id d
get_or-take_table n table id d within h = grind (arith, common_steps)

-- the table after an RMID was given up
pub seen-freed : (n : ℕ) (table : List Use) (threshold id bytes : ℕ) → contains id (places uses.is_taken 0 (take n table)) ≡ true
    → seen n (set table id (uses.use_after threshold bytes)) threshold ≡ after_free (seen n table threshold) id bytes
seen-freed n table threshold id bytes taken =
    let within : id < length (take n table) = contains-within uses.is_taken (take n table) id taken in
    let below : id < n = grind (arith, common_steps) in
    let inside : id < length table = grind (arith, common_steps) in
    let is : (d : Use) → uses.is_taken (get_or table id d) ≡ true
    = λ d. rw (← get_or-take_table n table id d inside below) (sym (contains-places uses.is_taken (take n table) id Taken within) ∙ taken) in
    elim (ltb threshold bytes) as (λ b. seen n (set table id (cond b Limbo Free)) threshold ≡ record {
      count = n;
      taken = without id (places uses.is_taken 0 (take n table));
      limbo = cond b (with_id id (places uses.is_limbo 0 (take n table))) (places uses.is_limbo 0 (take n table));
      threshold = threshold;
    }) [
      | true ↦ rw (places-set_no uses.is_taken table n id Limbo below refl, places-set_yes uses.is_limbo table n id Limbo below inside (is_limbo-taken (get_or table id Limbo) (is Limbo)) refl) refl
      | false ↦ rw (places-set_no uses.is_taken table n id Free below refl, places-set_same uses.is_limbo table n id Free below (is_limbo-taken (get_or table id Free) (is Free))) refl
    ]

-- the table after a free RMID was taken
pub seen-taken : (n : ℕ) (table : List Use) (threshold id : ℕ) → n ≤ length table → position uses.is_free (take n table) ≡ Some id
    → seen n (set table id Taken) threshold ≡ (record (seen n table threshold) { taken = with_id id (places uses.is_taken 0 (take n table)) })
seen-taken n table threshold id fits found =
    let first = position-Some uses.is_free (take n table) id Taken found in
    let below : id < n = grind (arith, common_steps, first.0) in
    let inside : id < length table = grind (arith, common_steps, first.0) in
    let free : uses.is_free (get_or table id Taken) ≡ true = rw (← get_or-take_table n table id Taken inside below) first.1 in
    rw (places-set_yes uses.is_taken table n id Taken below inside (is_taken-free (get_or table id Taken) free) refl, places-set_same uses.is_limbo table n id Taken below (is_limbo-free (get_or table id Taken) free)) refl

-- taken, free and limbo part the RMIDs
pub ArePart-seen : (n : ℕ) (table : List Use) (threshold : ℕ) → ArePart (seen n table threshold)
ArePart-seen n table threshold = record {
  apart = λ id taken. let within = contains-within uses.is_taken (take n table) id taken in
      contains-places uses.is_limbo (take n table) id Taken within ∙ is_limbo-taken (get_or (take n table) id Taken) (sym (contains-places uses.is_taken (take n table) id Taken within) ∙ taken);
  taken_exist = λ id taken. let within = contains-within uses.is_taken (take n table) id taken in grind (arith, common_steps);
  limbo_exist = λ id limbo. let within = contains-within uses.is_limbo (take n table) id limbo in grind (arith, common_steps);
}
