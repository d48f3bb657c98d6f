-- The rooms of threads, and the journals of slices, one after the other.
use Rattle.std.proofs.Common.{◌≡◌, ℕ, ◌+◌, ◌^◌, ◌<◌, ◌≤◌, inl, inr, List, [], ◌∷◌, ◌++◌, length, replicate, get_or, Vec, sym, ap, ◌∙◌, subst, arith}
use Rattle.std.specs.Prelude.{slice_index, slice_index_or}
use Rattle.std.specs.declared.alloc.Global.{Global}
use Rattle.std.proofs.lemmas.Bool.{cases_lt}
use Rattle.std.proofs.lemmas.List.{get_or_append_left, get_or_default, get_or_push, get_or-replicate, length_push, length-replicate}
use Rattle.live_run.specs.Logs.{AreThreadRooms}
use Rattle.machine.specs.Slices.{slice_count}
use Rattle.run_law.specs.Quotas.{HaveGrown, quotas_of}
use Rattle.script_ops.specs.Values.{ScriptValue, ops_of}

-- what holds of each element, and of one more
pub each-push : {X : Type 0} (P : ℕ → X → Type 0) (n : ℕ) (xs : List X) (x d : X) → length xs ≡ n → ((i : ℕ) → i < n → P i (get_or xs i d)) → P n x → (i : ℕ) → i < n + 1 → P i (get_or (xs ++ x ∷ []) i d)
each-push P n xs x d count each one i within = elim (cases_lt i n) [
  | inl before ↦ subst (P i) (sym (get_or_append_left xs (x ∷ []) d i (omega (arith, before, count)))) (each i before)
  | inr after ↦
      let last : i ≡ n = omega (arith, within, after) in
      subst (P i) (sym (get_or_push xs x d i (count ∙ sym last))) (subst (λ k. P k x) (sym last) one)
]

-- ---- rooms of threads

-- what a thread's ops can make, over rooms that were none
grown_each : (more : ℕ → ℕ) (most n : ℕ) (before after : List ℕ) → before ≡ replicate n 0 → HaveGrown more most before after → (i d : ℕ) → i < n → slice_index_or after i d ≡ more i
grown_each more most n before after none grown i d within =
    let there : i < length before = omega (arith, within, ap length none, length-replicate {A = ℕ} n 0) in
    let zero_is : slice_index before i ≡ 0 = ap (λ xs. slice_index xs i) none ∙ get_or-replicate n i 0 0 within in
    let is : slice_index after i ≡ more i = omega (arith, grown.each i there, zero_is) in
    get_or_default after i d 0 (omega (arith, there, grown.count)) ∙ is

pub rooms-push : (script : ScriptValue) (n : ℕ) (rooms : List (Vec ℕ Global)) (own : Vec ℕ Global) (before : List ℕ) → before ≡ replicate (slice_count script.machine) 0
    → HaveGrown (λ i. quotas_of script.machine i (ops_of script n)) (2 ^ 30) before own.items → AreThreadRooms script n rooms → AreThreadRooms script (n + 1) (rooms ++ own ∷ [])
rooms-push script n rooms own before none grown all = record {
  count = omega (arith, length_push rooms own, all.count);
  counts = λ t d within.
      let m = script.machine in
      let own_count : length own.items ≡ slice_count m = grown.count ∙ (ap length none ∙ length-replicate {A = ℕ} (slice_count m) 0) in
      each-push (λ t (v : Vec ℕ Global). length v.items ≡ slice_count m) n rooms own d all.count (λ t. all.counts t d) own_count t within;
  each = λ t i d v within there.
      let m = script.machine in
      let more : ℕ → ℕ = λ i. quotas_of m i (ops_of script n) in
      let last : slice_index_or own.items i d ≡ more i = grown_each more (2 ^ 30) (slice_count m) before own.items none grown i d there in
      each-push (λ t (w : Vec ℕ Global). slice_index_or w.items i d ≡ quotas_of m i (ops_of script t)) n rooms own v all.count (λ t within. all.each t i d v within there) last t within;
  few = λ t i within there. elim (cases_lt t n) [
    | inl earlier ↦ all.few t i earlier there
    | inr after ↦
        let last : t ≡ n = omega (arith, within, after) in
        subst (λ t. quotas_of script.machine i (ops_of script t) ≤ 2 ^ 30) (sym last) (grown.few i (omega (arith, there, ap length none, length-replicate {A = ℕ} (slice_count script.machine) 0)))
  ];
}
