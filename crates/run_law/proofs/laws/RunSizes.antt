-- The lists of a run are short.
use Rattle.std.proofs.Common.{◌≡◌, ℕ, suc, ◌+◌, ◌^◌, ◌<◌, ◌≤◌, Bool, true, false, cond, eqb, List, [], ◌∷◌, length, map, filter, take, Option, Some, inl, inr, refl, sym, subst, ap, ◌∙◌, arith}
use Rattle.std.specs.Prelude.{IsSome, IsTrue}
use Rattle.std.specs.List.{flat_map}
use Rattle.std.proofs.lemmas.Bool.{cases_Bool}
use Rattle.std.proofs.lemmas.List.{length-append, length-map}
use Rattle.std.proofs.lemmas.Option.{same_Some, slice_get_within}
use Rattle.cache_core.specs.declared.entry.SliceEntry.{SliceEntry}
use Rattle.machine.specs.Maps.{domain_of, line_of}
use Rattle.machine.specs.Slices.{domain_in, slice_count, slice_of_line}
use Rattle.machine.specs.declared.parameters.Parameters.{Parameters}
use Rattle.run_law.proofs.laws.Pairs.{both_eqb-same, both_eqb-true}
use Rattle.run_law.proofs.laws.Positions.{filter-none_at}
use Rattle.run_law.specs.Journals.{At, JournalsValue, slice_at}
use Rattle.run_law.specs.Ops.{is_command}
use Rattle.run_law.specs.Order.{Makes}
use Rattle.run_law.specs.Owed.{follow_in, look_in, owed_by_command, paid_by}
use Rattle.run_law.specs.Runs.{IsRun}
use Rattle.run_law.specs.TreeHistory.{TreeEntryValue, tree_after}
use Rattle.run_law.specs.Truth.{is_made_by, is_taken_from}
use Rattle.run_law.proofs.laws.RunLengths.{length-le}
use Rattle.script_ops.specs.Values.{IsLawful, ScriptValue, op_at}
use Rattle.script_ops.specs.declared.op.Op.{Op}
use Rattle.script_ops.specs.declared.op.Op.TheVariants as ops
use Rattle.tree_law.proofs.laws.Counts.{needs-exist, NamesDomain-fits}
use Rattle.tree_law.proofs.laws.DistinctCounts.{needs-distinct}
use Rattle.tree_law.specs.State.{State, tasks_of}
use Rattle.tree_law.specs.Steps.{after, needs}
use Rattle.run_law.proofs.laws.OwedEntries.{after-few, length-follows, length-looks, length-needs}
use Rattle.run_law.proofs.laws.SoundHistories.{IsTaken-at, IsSound-take, Fits-tree_after}

-- a filter that keeps one has one to keep
filter-one : {E : Type 0} (p : E → Bool) (xs : List E) → length (filter p xs) ≡ 1 → (k : ℕ) × (x : E) × At xs k x × (p x ≡ true)
filter-one p [] one = absurd (omega (arith, one))
filter-one p (x ∷ xs) one = at (p x) refl one (λ e. filter-one p xs e)
  where
    at : (b : Bool) → p x ≡ b → length (cond b (x ∷ filter p xs) (filter p xs)) ≡ 1 → (length (filter p xs) ≡ 1 → (k : ℕ) × (y : _) × At xs k y × (p y ≡ true)) → (k : ℕ) × (y : _) × At (x ∷ xs) k y × (p y ≡ true)
    at true is e rest = (0, x, refl, is)
    at false is e rest = let r = rest e in (suc r.0, r.1, r.2, r.3)

-- ---- the tree's history

-- an entry is of its own op
is_taken_from-own : (h : TreeEntryValue) → is_taken_from h.thread h.op h ≡ true
is_taken_from-own h = both_eqb-same h.thread h.thread h.op h.op refl refl

-- each op stands there at most once
length-filter_once : (script : ScriptValue) (j : JournalsValue) → IsRun script j → (t o : ℕ) (c : Op) → op_at script t o ≡ Some c → length (filter (is_taken_from t o) j.tree) ≤ 1
length-filter_once script j run t o c is = elim (cases_Bool (is_command c)) [
  | inl command ↦ let once = run.in_order.commands_once t o c is command in omega (arith, once)
  | inr other ↦ let none = ap length (filter-none_at (is_taken_from t o) j.tree (λ k h at. never other k h at)) in omega (arith, none)
]
  where
    never : is_command c ≡ false → (k : ℕ) (h : TreeEntryValue) → At j.tree k h → is_taken_from t o h ≡ false
    never other k h at = elim (cases_Bool (is_taken_from t o h)) [
      | inl mine_it ↦
          let mine = both_eqb-true h.thread t h.op o mine_it in
          let it = IsTaken-at script j.tree k h run.tree_legal at in
          let same : op_at script t o ≡ Some it.op = subst (λ n. op_at script t n ≡ Some it.op) mine.1 (subst (λ n. op_at script n h.op ≡ Some it.op) mine.0 it.is) in
          absurd (let one : c ≡ it.op = same_Some c it.op (sym is ∙ same) in let wrong : true ≡ false = sym it.command ∙ (sym (ap is_command one) ∙ other) in cc)
      | inr not_it ↦ not_it
    ]

-- a run has at most 4,000,000 commands
pub length-commands : (script : ScriptValue) (j : JournalsValue) → IsLawful script → IsRun script j → length j.tree ≤ 4000000
length-commands script j lawful run =
    let few = length-le (λ (h : TreeEntryValue). h.thread) (λ (h : TreeEntryValue). h.op) is_taken_from is_taken_from-own script 1 j.tree (λ k h at. subst (λ (o : Option Op). IsSome o) (sym (IsTaken-at script j.tree k h run.tree_legal at).is) refl) (length-filter_once script j run) in
    omega (arith, few, lawful.light)

-- ---- the list of a slice

module _ (script : ScriptValue) (j : JournalsValue) (lawful : IsLawful script) (run : IsRun script j) (i : ℕ) (exists : i < slice_count script.machine) where
  owed-few : (k : ℕ) (h : TreeEntryValue) (op : Op) → At j.tree k h → op_at script h.thread h.op ≡ Some op → length (owed_by_command script j.tree i k op) ≤ 264
  unfolding owed_by_command
  owed-few k h op there is =
      let m : Parameters = script.machine in
      let s : State = tree_after script (take k j.tree) in
      let within = slice_get_within j.tree k h there in
      let sound = IsSound-take script j.tree lawful run.tree_legal k (omega (arith, within)) in
      let fits = Fits-tree_after script (take k j.tree) h.thread h.op op lawful is in
      let looks = length-looks m i k (needs m s op) in
      let few = length-needs m (domain_in m i) (needs m s op) (needs-exist m s op sound (NamesDomain-fits m (tasks_of s) op fits)) (needs-distinct m s op sound) in
      let entered = length-follows m i (k + 1) (after m s k op) in
      let follow = after-few m s lawful.in_range.domain_limit k op in
      let both = length-append (flat_map (look_in m i k) (needs m s op)) (flat_map (follow_in m i (k + 1)) (after m s k op)) in
      let rmids = lawful.in_range.rmid_limit in
      omega (arith, looks, few, entered, follow, both, rmids)

  -- an op makes few entries in it
  made-few : (t o : ℕ) (c : Op) → op_at script t o ≡ Some c → length (filter (is_made_by t o) (slice_at j i)) ≤ 264
  made-few t o c is = elim (cases_Bool (is_command c)) [
    | inl command ↦ of_command c is command (run.in_order.entries_once i t o c exists is)
    | inr other ↦ of_access c other (run.in_order.entries_once i t o c exists is)
  ]
    where
      made : List SliceEntry
      made = filter (is_made_by t o) (slice_at j i)

      of_access : (c : Op) → is_command c ≡ false → Makes script j i t o c made → length made ≤ 264
      of_access (ops.Access task cpu addr) other makes = cond-few (eqb i (slice_of_line script.machine (domain_of script.machine cpu) (line_of addr))) makes
        where
          cond-few : (b : Bool) → length made ≡ cond b 1 0 → length made ≤ 264
          cond-few true e = omega (arith, e)
          cond-few false e = omega (arith, e)
      of_access op other makes = absurd (let f : true ≡ false = other in cc)

      paid : (c : Op) → op_at script t o ≡ Some c → is_command c ≡ true → ((k : ℕ) (h : TreeEntryValue) → At j.tree k h → IsTrue (is_taken_from t o h) → map paid_by made ≡ owed_by_command script j.tree i k c) → length made ≤ 264
      paid c is command pays =
          let once = filter-one (is_taken_from t o) j.tree (run.in_order.commands_once t o c is command) in
          let h : TreeEntryValue = once.1 in
          let own = both_eqb-true h.thread t h.op o once.3 in
          let its : op_at script h.thread h.op ≡ Some c = subst (λ n. op_at script n h.op ≡ Some c) (sym own.0) (subst (λ n. op_at script t n ≡ Some c) (sym own.1) is) in
          let few = owed-few once.0 h c once.2 its in
          let same = ap length (pays once.0 h once.2 once.3) in
          let len = length-map made paid_by in
          omega (arith, few, same, len)

      of_command : (c : Op) → op_at script t o ≡ Some c → is_command c ≡ true → Makes script j i t o c made → length made ≤ 264
      of_command (ops.Access task cpu addr) is command makes = absurd (let f : false ≡ true = command in cc)
      of_command op is command makes = paid op is command makes

  -- so it is short
  pub length-slice : length (slice_at j i) < 2 ^ 32
  length-slice =
      let few = length-le (λ (e : SliceEntry). e.thread) (λ (e : SliceEntry). e.op) is_made_by (λ e. both_eqb-same e.thread e.thread e.op e.op refl refl) script 264 (slice_at j i) (λ k e at. run.in_order.no_others i k e at) made-few in
      omega (arith, few, lawful.light)
