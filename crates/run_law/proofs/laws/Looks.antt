-- The counts that commands are given are few.
use Rattle.std.proofs.Common.{◌≡◌, ℕ, zero, suc, ◌+◌, ◌*◌, ◌^◌, ◌≤◌, ◌==◌, Bool, true, false, cond, List, [], ◌∷◌, ◌++◌, length, map, get_or, take, drop, Option, None, Some, IfSome, refl, sym, subst, ap, inl, inr, arith}
use Rattle.std.specs.List.{All, range_with_len}
use Rattle.std.specs.Option.{option_and_then, option_map}
use Rattle.std.proofs.lemmas.Bool.{cases_lt}
use Rattle.std.proofs.lemmas.List.Elements.{All-cons}
use Rattle.std.proofs.lemmas.Nat.{mul-le}
use Rattle.cache_core.specs.History.{EntryMayFollow, MayHappen}
use Rattle.cache_core.specs.declared.entry.SliceEntry.{SliceEntry}
use Rattle.cache_core.specs.declared.entry.What.{What}
use Rattle.cache_core.specs.declared.entry.What.TheVariants as whats
use Rattle.machine.specs.Ranges.{InRange}
use Rattle.machine.specs.Slices.{slice_count, slice_number}
use Rattle.machine.specs.declared.parameters.Parameters.{Parameters}
use Rattle.rc_base.specs.Follows.{GoesOn}
use Rattle.run_law.proofs.laws.Lines.{lines_of-few}
use Rattle.run_law.specs.Journals.{At, JournalsValue, slice_at}
use Rattle.run_law.specs.Looks.{first_look, first_of, lines_looked, look_number, needs_of, sum_of_all}
use Rattle.run_law.specs.Runs.{IsRun}
use Rattle.run_law.specs.Slices.{shape_in}
use Rattle.run_law.specs.TreeHistory.{TreeEntryValue, tree_after}
use Rattle.run_law.specs.Truth.{is_made_by}
use Rattle.script_ops.specs.Values.{ScriptValue, op_at}

-- a number of lines of one slice
abbrev IsFew : ℕ → Type 0
IsFew n = n ≤ 2097152

module _ (m : Parameters) (range : InRange m) (i thread op rmid : ℕ) where
  -- the number of one look
  look_number-few : (before : List SliceEntry) (epoch : ℕ) (made : Bool) (what : What) (rest : Option ℕ) → MayHappen (shape_in m i) before epoch what → IfSome rest IsFew → IfSome (first_of (cond made (look_number rmid what) None) rest) IsFew
  look_number-few before epoch false what rest may few = few
  look_number-few before epoch true (whats.Access hit way owner r mask line) rest may few = few
  look_number-few before epoch true whats.Raise rest may few = few
  look_number-few before epoch true whats.Flush rest may few = few
  look_number-few before epoch true (whats.Lock mask first_line) rest may few = few
  look_number-few before epoch true (whats.Drop line at) rest may few = few
  look_number-few before epoch true (whats.Look r lines) rest may few = at (r == rmid)
    where
      at : (same : Bool) → IfSome (first_of (cond same (Some lines) None) rest) (λ n. n ≤ 2097152)
      at true = rw may (lines_of-few m i before r range)
      at false = few

  -- the first look of a command in a legal history
  first_look-few : (before es : List SliceEntry) → GoesOn (EntryMayFollow (shape_in m i)) before es → IfSome (first_look thread op rmid es) IsFew
  first_look-few before [] goes = tt
  first_look-few before (e ∷ es) goes = look_number-few before e.epoch (is_made_by thread op e) e.what (first_look thread op rmid es) goes.0 (first_look-few (before ++ e ∷ []) es goes.1)

-- the sum of the numbers of some slices
sum_of_all-few : (f : ℕ → Option ℕ) (a n : ℕ) → ((x : ℕ) → IfSome (f x) IsFew) → IfSome (sum_of_all (map f (range_with_len a n))) (λ sum. sum ≤ 2097152 * n)
sum_of_all-few f a zero few = omega arith
sum_of_all-few f a (suc n) few = at (f a) (sum_of_all (map f (range_with_len (a + 1) n))) (few a) (sum_of_all-few f (a + 1) n few)
  where
    at : (first rest : Option ℕ) → IfSome first (λ k. k ≤ 2097152) → IfSome rest (λ sum. sum ≤ 2097152 * n) → IfSome (option_and_then (λ (k : ℕ). option_map (λ (sum : ℕ). k + sum) rest) first) (λ sum. sum ≤ 2097152 * suc n)
    at None rest one others = tt
    at (Some k) None one others = tt
    at (Some k) (Some sum) one others = omega (arith, one, others)

-- numbers that are those of other things are few where these are
All-from_map : {X : Type 0} (P : ℕ → Type 0) (f : X → Option ℕ) (ns : List ℕ) (xs : List X) → ((x : X) → IfSome (f x) P) → map (λ (n : ℕ). Some n) ns ≡ map f xs → All P ns
All-from_map P f [] xs few same = λ k d within. absurd (omega arith)
All-from_map P f (n ∷ ns) [] few same = absurd cc
All-from_map P f (n ∷ ns) (x ∷ xs) few same =
    let head : Some n ≡ f x = ap (λ (os : List (Option ℕ)). get_or os 0 None) same in
    let tail : map (λ (k : ℕ). Some k) ns ≡ map f xs = ap (λ (os : List (Option ℕ)). drop 1 os) same in
    All-cons P n ns (subst (λ (o : Option ℕ). IfSome o P) (sym head) (few x)) (All-from_map P f ns xs few tail)

-- what the looks of a command counted in a domain
lines_looked-few : (script : ScriptValue) (j : JournalsValue) → InRange script.machine → IsRun script j → (h : TreeEntryValue) (need : ℕ × ℕ) → IfSome (lines_looked script j h need) (λ n. n ≤ 2 ^ 32)
lines_looked-few script j range run h need =
    weaker (lines_looked script j h need) (sum_of_all-few (λ (x : ℕ). first_look h.thread h.op need.1 (slice_at j (slice_number script.machine need.0 x))) 0 script.machine.slices (λ x. each (slice_number script.machine need.0 x)))
  where
    -- a slice that is not there has no looks
    empty : (slices : List (List SliceEntry)) (i : ℕ) → length slices ≤ i → get_or slices i [] ≡ []
    empty [] i past = refl
    empty (s ∷ slices) zero past = absurd (omega arith)
    empty (s ∷ slices) (suc i) past = empty slices i (omega (arith, past))

    each : (i : ℕ) → IfSome (first_look h.thread h.op need.1 (slice_at j i)) (λ n. n ≤ 2097152)
    each i = elim (cases_lt i (slice_count script.machine)) [
      | inl below ↦ first_look-few script.machine range i h.thread h.op need.1 [] (slice_at j i) (run.slices_legal i below)
      | inr past ↦ (let none : slice_at j i ≡ [] = empty j.slices i (omega (arith, past, run.all_slices)) in rw none tt)
    ]

    weaker : (o : Option ℕ) → IfSome o (λ n. n ≤ 2097152 * script.machine.slices) → IfSome o (λ n. n ≤ 2 ^ 32)
    weaker None few = tt
    weaker (Some n) few = omega (arith, few, mul-le 2097152 script.machine.slices 2097152 16 (omega arith) range.slice_limit)

-- so are those of a run
pub looks-few : (script : ScriptValue) (j : JournalsValue) → InRange script.machine → IsRun script j → (k : ℕ) (h : TreeEntryValue) → At j.tree k h → All (λ n. n ≤ 2 ^ 32) h.looks
looks-few script j range run k h there =
    All-from_map (λ n. n ≤ 2 ^ 32) (lines_looked script j h) h.looks (needs_of script.machine (tree_after script (take k j.tree)) (op_at script h.thread h.op)) (lines_looked-few script j range run h) (run.looks_matched k h there)
