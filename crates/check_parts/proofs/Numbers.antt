-- The numbers of threads and ops, and how long the lists of a run are.
use Rattle.std.proofs.Common.{◌≡◌, ℕ, zero, suc, ◌*◌, ◌^◌, ◌<◌, ◌≤◌, Bool, true, false, cond, inl, inr, List, [], ◌∷◌, length, map, filter, Option, Some, None, refl, sym, ap, subst, arith}
use Rattle.std.specs.Prelude.{◌==◌, IsSome, IsTrue, sum_by}
use Rattle.std.specs.List.{All}
use Rattle.std.proofs.lemmas.Bool.{cases_Bool, eqb-false, eqb-true, true≢false}
use Rattle.std.proofs.lemmas.List.{length-append, length-map}
use Rattle.std.proofs.lemmas.List.Elements.{All-head, All-tail}
use Rattle.std.proofs.lemmas.List.Sums.{get_or-le-sum_by}
use Rattle.std.proofs.lemmas.Option.{get_or_from_slice_get, slice_get_within}
use Rattle.cache_core.specs.declared.entry.SliceEntry.{SliceEntry}
use Rattle.lists.specs.Sums.{sum_below}
use Rattle.machine.specs.Slices.{slice_count}
use Rattle.run_law.proofs.laws.CountedOps.{length-quotas, thread_within}
use Rattle.run_law.proofs.laws.LightCounts.{all_counts-light}
use Rattle.run_law.proofs.laws.LightRooms.{all_rooms-light}
use Rattle.run_law.proofs.laws.OpQuotas.{owed_by_command-few}
use Rattle.run_law.proofs.laws.SoundHistories.{Fits-op_at, IsSound-take}
use Rattle.run_law.specs.Journals.{At, JournalsValue, slice_at}
use Rattle.run_law.specs.Ops.{is_command}
use Rattle.run_law.specs.Order.{Makes}
use Rattle.run_law.specs.Owed.{owed_by_command, paid_by}
use Rattle.run_law.specs.Quotas.{most_counts, quota, room_of}
use Rattle.run_law.specs.Runs.{IsRun}
use Rattle.run_law.specs.TreeHistory.{TreeEntryValue}
use Rattle.run_law.specs.Truth.{is_made_by, is_taken_from}
use Rattle.script_ops.proofs.laws.Weights.{length-get_or}
use Rattle.script_ops.specs.Values.{IsLawful, PhaseValue, ScriptValue, op_at, ops_of, threads_in, threads_of, total_weight}
use Rattle.script_ops.specs.declared.op.Op.{Op}
use Rattle.script_ops.specs.declared.op.Op.TheVariants as ops
use Rattle.tree_law.proofs.laws.Counts.{NamesDomain-fits}

-- ---- threads and ops

-- no phase has more than so many threads
length-threads_in : (most : ℕ) (phases : List PhaseValue) → All (λ (p : PhaseValue). length p.threads ≤ most) phases → length (threads_in phases) ≤ length phases * most
length-threads_in most [] few = omega arith
length-threads_in most (p ∷ ps) few =
    let first = All-head (λ (q : PhaseValue). length q.threads ≤ most) p ps few in
    let rest = length-threads_in most ps (All-tail (λ (q : PhaseValue). length q.threads ≤ most) p ps few) in
    omega (arith, first, rest, length-append p.threads (threads_in ps))

module _ (script : ScriptValue) (lawful : IsLawful script) where
  -- a script has few threads
  length-threads_of : length (threads_of script) ≤ 1024
  length-threads_of = let each = length-threads_in 16 script.phases lawful.few.few_threads in omega (arith, each, lawful.few.few_phases)

  -- an op of the script has numbers of 32 bits
  pub numbers-op_at : (t o : ℕ) → IsSome (op_at script t o) → (t < 2 ^ 32) × (o < 2 ^ 32)
  numbers-op_at t o there = at (op_at script t o) refl there
    where
      thread : t < length (threads_of script)
      thread = thread_within (threads_of script) t o there

      at : (c : Option Op) → op_at script t o ≡ c → IsSome c → (t < 2 ^ 32) × (o < 2 ^ 32)
      at None is some = absurd (true≢false (sym some))
      at (Some c) is some =
          let op = slice_get_within (ops_of script t) o c is in
          let light = length-get_or script.machine 4000000 (threads_of script) t lawful.light in
          (omega (arith, thread, length-threads_of), omega (arith, op, light))

  -- one op can need no more counts than all ops
  pub most_counts-light : (t o : ℕ) (c : Op) → op_at script t o ≡ Some c → most_counts script.machine c ≤ total_weight script
  most_counts-light t o c is =
      let m = script.machine in
      let within = slice_get_within (ops_of script t) o c is in
      let thread = thread_within (threads_of script) t o (subst IsSome (sym is) refl) in
      let own : most_counts m c ≤ sum_by (most_counts m) (ops_of script t) = subst (λ (x : Op). most_counts m x ≤ sum_by (most_counts m) (ops_of script t)) (get_or_from_slice_get (ops_of script t) o c c is) (get_or-le-sum_by (most_counts m) (ops_of script t) o c within) in
      let all = get_or-le-sum_by (λ (os : List Op). sum_by (most_counts m) os) (threads_of script) t [] thread in
      omega (arith, own, all, all_counts-light script lawful)

-- ---- the lists of slices

-- one of the numbers of a sum
sum_below-one : (n k : ℕ) (f : ℕ → ℕ) → k < n → f k ≤ sum_below n f
sum_below-one zero k f below = absurd (omega (arith, below))
sum_below-one (suc n) k f below = elim (cases_Bool (k == n)) [
  | inl last ↦ (let same : f k ≡ f n = ap f (eqb-true k n last) in omega (arith, same))
  | inr before ↦ (let rest = sum_below-one n k f (omega (arith, below, eqb-false k n before)) in omega (arith, rest))
]

-- a filter that keeps one has one to keep
filter-one : {E : Type 0} (p : E → Bool) (xs : List E) → length (filter p xs) ≡ 1 → (k : ℕ) × (x : E) × At xs k x × (p x ≡ true)
filter-one p [] one = absurd (omega (arith, one))
filter-one p (x ∷ xs) one = at (p x) refl one (λ e. filter-one p xs e)
  where
    at : (b : Bool) → p x ≡ b → length (cond b (x ∷ filter p xs) (filter p xs)) ≡ 1 → (length (filter p xs) ≡ 1 → (k : ℕ) × (y : _) × At xs k y × (p y ≡ true)) → (k : ℕ) × (y : _) × At (x ∷ xs) k y × (p y ≡ true)
    at true is e rest = (0, x, refl, is)
    at false is e rest = let r = rest e in (suc r.0, r.1, r.2, r.3)

module _ (script : ScriptValue) (j : JournalsValue) (lawful : IsLawful script) (run : IsRun script j) (i : ℕ) (exists : i < slice_count script.machine) where
  -- an op makes no more entries in a slice than its quota
  made-few : (t o : ℕ) (c : Op) → op_at script t o ≡ Some c → length (filter (is_made_by t o) (slice_at j i)) ≤ quota script.machine i c
  made-few t o c is = by_kind c is (run.in_order.entries_once i t o c exists is)
    where
      made : List SliceEntry
      made = filter (is_made_by t o) (slice_at j i)

      owed : (c : Op) → op_at script t o ≡ Some c → (k : ℕ) (h : TreeEntryValue) → At j.tree k h → length (owed_by_command script j.tree i k c) ≤ quota script.machine i c
      owed c is k h there =
          let within = slice_get_within j.tree k h there in
          owed_by_command-few script j.tree i k c lawful.in_range (IsSound-take script j.tree lawful run.tree_legal k (omega (arith, within)))
          (NamesDomain-fits script.machine script.tasks c (Fits-op_at script t o c lawful is))

      paid : (c : Op) → op_at script t o ≡ Some c → is_command c ≡ true → ((k : ℕ) (h : TreeEntryValue) → At j.tree k h → IsTrue (is_taken_from t o h) → map paid_by made ≡ owed_by_command script j.tree i k c) → length made ≤ quota script.machine i c
      paid c is command pays =
          let once = filter-one (is_taken_from t o) j.tree (run.in_order.commands_once t o c is command) in
          let few = owed c is once.0 once.1 once.2 in
          let same = ap length (pays once.0 once.1 once.2 once.3) in
          omega (arith, few, same, length-map made paid_by)

      by_kind : (c : Op) → op_at script t o ≡ Some c → Makes script j i t o c made → length made ≤ quota script.machine i c
      by_kind (ops.Access task cpu addr) is makes = omega (arith, makes)
      by_kind op is makes = paid op is refl makes

  -- so its list is no longer than its room, and than all ops weigh
  pub length-slice_at : length (slice_at j i) ≤ total_weight script
  unfolding room_of
  length-slice_at =
      let short : length (slice_at j i) ≤ room_of script i = length-quotas (λ (e : SliceEntry). e.thread) (λ (e : SliceEntry). e.op) script (quota script.machine i) (slice_at j i) (λ k e at. run.in_order.no_others i k e at) made-few in
      let one = sum_below-one (slice_count script.machine) i (room_of script) exists in
      omega (arith, short, one, all_rooms-light script)
