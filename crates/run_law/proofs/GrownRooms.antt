-- Rooms that have grown.
use Rattle.std.proofs.Common.{◌≡◌, ◌≢◌, ℕ, ◌+◌, ◌<◌, ◌≤◌, inl, inr, List, length, set, take, get_or, slice_index, replicate, sym, ap, ◌∙◌, arith}
use Rattle.std.specs.Prelude.{sum_by}
use Rattle.std.proofs.Math.Seq.{take-length}
use Rattle.std.proofs.lemmas.Bool.{cases_eq}
use Rattle.std.proofs.lemmas.Grind.{get_or_default_zero}
use Rattle.std.proofs.lemmas.List.{get_or-replicate, get_or-set_other, get_or-set_same, length-replicate, length-set}
use Rattle.std.proofs.lemmas.List.Sums.{sum_by_more}
use Rattle.machine.specs.Slices.{slice_count}
use Rattle.run_law.specs.Quotas.{AreRooms, HaveGrown, quotas_of, room_of}
use Rattle.script_ops.specs.Values.{ScriptValue, threads_of}

-- ---- one growth

-- one room alone has grown
pub HaveGrown-set : (more : ℕ → ℕ) (most k y : ℕ) (rooms : List ℕ) → k < length rooms → y ≡ slice_index rooms k + more k → more k ≤ most → ((i : ℕ) → i < length rooms → i ≢ k → more i ≡ 0)
    → HaveGrown more most rooms (set rooms k y)
HaveGrown-set more most k y rooms there is few none = record {
  count = length-set rooms k y;
  each = λ i within. elim (cases_eq i k) [
    | inl same ↦ ap (λ j. get_or (set rooms k y) j 0) same ∙ get_or-set_same rooms k y 0 there ∙ is ∙ ap (λ j. get_or rooms j 0 + more j) (sym same)
    | inr other ↦ get_or-set_other rooms k i y 0 other ∙ omega (arith, none i within other)
  ];
  few = λ i within. elim (cases_eq i k) [ inl same ↦ rw same few | inr other ↦ omega (arith, none i within other) ];
}

-- ---- the sums so far

-- of a list's elements one more is added
pub HaveGrown-next : {X : Type 0} (f : ℕ → X → ℕ) (xs : List X) (k each most new : ℕ) (d x : X) (before between after : List ℕ) → k < length xs → x ≡ get_or xs k d → most + each ≤ new
    → HaveGrown (λ i. sum_by (f i) (take k xs)) most before between → HaveGrown (λ i. f i x) each between after → HaveGrown (λ i. sum_by (f i) (take (k + 1) xs)) new before after
HaveGrown-next f xs k each most new d x before between after below is enough first then = record {
  count = then.count ∙ first.count;
  each = λ i within. omega (arith, first.each i within, then.each i (there i within), next i);
  few = λ i within. omega (arith, first.few i within, then.few i (there i within), next i, enough);
}
  where
    there : (i : ℕ) → i < length before → i < length between
    there i within = omega (arith, within, first.count)

    next : (i : ℕ) → sum_by (f i) (take (k + 1) xs) ≡ sum_by (f i) (take k xs) + f i x
    next i = sum_by_more (f i) xs k d below ∙ ap (λ y. sum_by (f i) (take k xs) + f i y) (sym is)

-- all are added
pub HaveGrown-all : {X : Type 0} (f : ℕ → X → ℕ) (xs : List X) (k most few : ℕ) (before after : List ℕ) → k ≡ length xs → most ≤ few → HaveGrown (λ i. sum_by (f i) (take k xs)) most before after
    → HaveGrown (λ i. sum_by (f i) xs) few before after
HaveGrown-all f xs k most few before after end enough grown = record {
  count = grown.count;
  each = λ i within. omega (arith, grown.each i within, all i);
  few = λ i within. omega (arith, grown.few i within, all i, enough);
}
  where
    all : (i : ℕ) → sum_by (f i) (take k xs) ≡ sum_by (f i) xs
    all i = ap (sum_by (f i)) (ap (λ n. take n xs) end ∙ take-length xs)

-- ---- all slices

-- rooms that began with nothing are the rooms of all slices
pub AreRooms-grown : (script : ScriptValue) (most : ℕ) (rooms : List ℕ) → HaveGrown (λ i. sum_by (quotas_of script.machine i) (threads_of script)) most (replicate (slice_count script.machine) 0) rooms → AreRooms script rooms
unfolding room_of
AreRooms-grown script most rooms grown = record {
  count = count;
  each = λ i d within.
      let there : i < length (replicate {A = ℕ} (slice_count script.machine) 0) = omega (arith, within, length-replicate {A = ℕ} (slice_count script.machine) 0) in
      get_or_default_zero rooms i d (omega (arith, count, within)) ∙ omega (arith, grown.each i there, get_or-replicate {A = ℕ} (slice_count script.machine) i 0 0 within);
}
  where
    count : length rooms ≡ slice_count script.machine
    count = grown.count ∙ length-replicate {A = ℕ} (slice_count script.machine) 0
