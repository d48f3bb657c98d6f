-- The states of a run: how many groups were made, and how many regions were locked.
use Rattle.std.proofs.Common.{◌≡◌, ℕ, zero, suc, ◌+◌, ◌*◌, ◌<◌, ◌≤◌, Bool, true, false, cond, List, [], ◌∷◌, ◌++◌, length, filter, take, drop, get_or, Option, Some, None, inl, inr, refl, sym, ap, ◌∙◌, subst, arith}
use Rattle.std.specs.Prelude.{IsSome, sum_by}
use Rattle.std.specs.Option.{option_map_or}
use Rattle.std.proofs.lemmas.Bool.{cases_Bool, true≢false}
use Rattle.std.proofs.lemmas.List.{length-append, length-take-le, take-append-drop, take_more}
use Rattle.std.proofs.lemmas.List.Elements.{filter-append}
use Rattle.std.proofs.lemmas.List.Sums.{sum_by-cons}
use Rattle.std.proofs.lemmas.Nat.{mul-le}
use Rattle.lists.specs.Sums.{one_if}
use Rattle.machine.specs.Ranges.{InRange}
use Rattle.machine.specs.Slices.{slice_count}
use Rattle.machine.specs.declared.parameters.Parameters.{Parameters}
use Rattle.path_names.specs.declared.files.FileKind.TheVariants as kinds
use Rattle.path_names.specs.declared.path_ref.PathRef.TheVariants.{File}
use Rattle.rc_base.specs.declared.replies.Reply.TheVariants as replies
use Rattle.rc_base.proofs.laws.Histories.{EachFollows-at}
use Rattle.run_law.proofs.laws.CountedOps.{length-quotas}
use Rattle.run_law.proofs.laws.ListCounts.{All-filtered}
use Rattle.run_law.proofs.laws.Pairs.{both_eqb-true}
use Rattle.run_law.proofs.laws.Positions.{filter-none_at}
use Rattle.run_law.proofs.laws.SoundHistories.{All-at, IsSound-take, IsTaken-follows}
use Rattle.run_law.proofs.laws.TreeHistory.{tree_after-push}
use Rattle.run_law.specs.Journals.{At, JournalsValue}
use Rattle.run_law.specs.Runs.{IsRun}
use Rattle.run_law.specs.TreeHistory.{CommandMayFollow, IsLegalTree, TreeEntryValue, tree_after}
use Rattle.run_law.specs.Truth.{is_taken_from}
use Rattle.script_ops.specs.Values.{IsLawful, ScriptValue, op_at, threads_of, total_weight}
use Rattle.script_ops.specs.Weights.{weight_of, weights_of}
use Rattle.script_ops.specs.declared.op.Op.{Op}
use Rattle.script_ops.specs.declared.op.Op.TheVariants as ops
use Rattle.tree_law.specs.State.{State}
use Rattle.check_parts.proofs.Growth.{Grows-next, prepares}
use Rattle.check_parts.proofs.Tags.{IsShort}
use Rattle.check_parts.proofs.Waiting.{waiting}

-- ---- the states of a history

-- whether an entry is of a command that writes a `schemata` or a `mode` file
abbrev is_preparing : ScriptValue → TreeEntryValue → Bool
is_preparing script h = option_map_or prepares (op_at script h.thread h.op) false

-- a state after these entries: no more groups were made than there are entries, and a lock took two of them that prepare it
record IsReachedBy (script : ScriptValue) (before : List TreeEntryValue) (s : State) : Type 0 where
  pub serial : s.next_gid ≤ length before + 1
  pub locks : 2 * s.locks + waiting s.groups ≤ length (filter (is_preparing script) before)

-- one entry more
length-preparing : (script : ScriptValue) (before : List TreeEntryValue) (h : TreeEntryValue) (op : Op) → op_at script h.thread h.op ≡ Some op
    → length (filter (is_preparing script) (before ++ h ∷ [])) ≡ length (filter (is_preparing script) before) + one_if (prepares op)
length-preparing script before h op is =
    ap length (filter-append (is_preparing script) before (h ∷ [])) ∙ length-append (filter (is_preparing script) before) (filter (is_preparing script) (h ∷ [])) ∙ ap (λ n. length (filter (is_preparing script) before) + n) (ap (λ (b : Bool). length (cond b (h ∷ []) [])) same ∙ one (prepares op))
  where
    same : is_preparing script h ≡ prepares op
    same = ap (λ (o : Option Op). option_map_or prepares o false) is

    one : (b : Bool) → length (cond b (h ∷ []) []) ≡ one_if b
    one true = refl
    one false = refl

-- each state of a legal history is one of these
IsReachedBy-take : (script : ScriptValue) (tree : List TreeEntryValue) → IsLawful script → IsLegalTree script tree → (k : ℕ) → k ≤ length tree → IsReachedBy script (take k tree) (tree_after script (take k tree))
unfolding tree_after
IsReachedBy-take script tree lawful legal zero known = record { serial = omega arith; locks = omega arith }
IsReachedBy-take script tree lawful legal (suc k) known =
    let h : TreeEntryValue = get_or tree k blank in
    let may : CommandMayFollow script (take k tree) h = EachFollows-at (CommandMayFollow script) tree k blank legal (omega (arith, known)) in
    let its = IsTaken-follows script (take k tree) h may in
    let s : State = tree_after script (take k tree) in
    let before : IsReachedBy script (take k tree) s = IsReachedBy-take script tree lawful legal k (omega (arith, known)) in
    let sound = IsSound-take script tree lawful legal k (omega (arith, known)) in
    let grows = Grows-next script.machine s its.op h.looks sound.named.gids in
    let one : suc k ≡ k + 1 = omega arith in
    let first : take (suc k) tree ≡ take k tree ++ h ∷ [] = ap (λ n. take n tree) one ∙ take_more tree k blank (omega (arith, known)) in
    let state = sym (ap (tree_after script) first ∙ tree_after-push script (take k tree) h its.op its.is) in
    let longer : length (take (suc k) tree) ≡ length (take k tree) + 1 = ap length first ∙ length-append (take k tree) (h ∷ []) in
    let more : length (filter (is_preparing script) (take (suc k) tree)) ≡ length (filter (is_preparing script) (take k tree)) + one_if (prepares its.op) = ap (λ es. length (filter (is_preparing script) es)) first ∙ length-preparing script (take k tree) h its.op its.is in
    subst (IsReachedBy script (take (suc k) tree)) state (record { serial = omega (arith, grows.serial, before.serial, longer); locks = omega (arith, grows.locks, before.locks, more) })
  where
    blank : TreeEntryValue
    blank = record { thread = 0; op = 0; reply = replies.Ok; looks = [] }

-- ---- how many commands prepare a lock

-- a test passes no more of those that pass another
length-filter_filter : {A : Type 0} (p q : A → Bool) (xs : List A) → length (filter p (filter q xs)) ≤ length (filter p xs)
length-filter_filter p q [] = omega arith
length-filter_filter p q (x ∷ xs) = at (q x) (p x) refl (length-filter_filter p q xs)
  where
    at : (b c : Bool) → p x ≡ c → length (filter p (filter q xs)) ≤ length (filter p xs) → length (filter p (cond b (x ∷ filter q xs) (filter q xs))) ≤ length (cond c (x ∷ filter p xs) (filter p xs))
    at true true is rest = rw is (omega (arith, rest))
    at true false is rest = rw is (omega (arith, rest))
    at false true is rest = omega (arith, rest)
    at false false is rest = omega (arith, rest)

-- the front of a list has no more that pass
length-filter_take : {A : Type 0} (p : A → Bool) (xs : List A) (k : ℕ) → length (filter p (take k xs)) ≤ length (filter p xs)
length-filter_take p xs k =
    let whole = ap (λ ys. length (filter p ys)) (sym (take-append-drop k xs)) ∙ ap length (filter-append p (take k xs) (drop k xs)) ∙ length-append (filter p (take k xs)) (filter p (drop k xs)) in
    omega (arith, whole)

-- each weighs two
prepares-weight : (m : Parameters) (op : Op) → 0 < slice_count m → 2 * one_if (prepares op) ≤ weight_of m op
prepares-weight m (ops.Write (File dir kinds.Schemata) text) some = omega (arith, some)
prepares-weight m (ops.Write (File dir kinds.Mode) text) some = omega (arith, some)
prepares-weight m (ops.Write path text) some = omega arith
prepares-weight m op some = omega arith

-- a sum of numbers of which each is twice in another
sum_by-twice : {X : Type 0} (f g : X → ℕ) → ((x : X) → 2 * f x ≤ g x) → (xs : List X) → 2 * sum_by f xs ≤ sum_by g xs
sum_by-twice f g each [] = omega arith
sum_by-twice f g each (x ∷ xs) = omega (arith, each x, sum_by-twice f g each xs, sum_by-cons f x xs, sum_by-cons g x xs)

-- a machine has a slice
slice_count-some : (m : Parameters) → InRange m → 0 < slice_count m
slice_count-some m range = let most = mul-le 1 1 m.domains m.slices range.some_domain range.some_slice in omega (arith, most)

module _ (script : ScriptValue) (j : JournalsValue) (lawful : IsLawful script) (run : IsRun script j) where
  -- the entries that prepare a lock
  abbrev preparing : List TreeEntryValue
  preparing = filter (is_preparing script) j.tree

  -- each is of an op of the script
  preparing-at : (k : ℕ) (h : TreeEntryValue) → At preparing k h → IsSome (op_at script h.thread h.op)
  preparing-at k h there = at (op_at script h.thread h.op) (All-at (λ (x : TreeEntryValue). is_preparing script x ≡ true) preparing k h (All-filtered (is_preparing script) j.tree) there)
    where
      at : (o : Option Op) → option_map_or prepares o false ≡ true → IsSome o
      at None passes = absurd (true≢false (sym passes))
      at (Some op) passes = refl

  -- an op has one of them, where it is such a command, and else none
  preparing-few : (t o : ℕ) (c : Op) → op_at script t o ≡ Some c → length (filter (is_taken_from t o) preparing) ≤ one_if (prepares c)
  preparing-few t o c is = at c (prepares c) is refl
    where
      other : (c : Op) → op_at script t o ≡ Some c → prepares c ≡ false → (k : ℕ) (h : TreeEntryValue) → At preparing k h → is_taken_from t o h ≡ false
      other c is isnt k h there = elim (cases_Bool (is_taken_from t o h)) [
        | inl mine_it ↦
            let mine = both_eqb-true h.thread t h.op o mine_it in
            let its : op_at script h.thread h.op ≡ Some c = subst (λ n. op_at script n h.op ≡ Some c) (sym mine.0) (subst (λ n. op_at script t n ≡ Some c) (sym mine.1) is) in
            let passes = All-at (λ (x : TreeEntryValue). is_preparing script x ≡ true) preparing k h (All-filtered (is_preparing script) j.tree) there in
            absurd (true≢false (sym passes ∙ ap (λ (q : Option Op). option_map_or prepares q false) its ∙ isnt))
        | inr not_it ↦ not_it
      ]

      once : (c : Op) → op_at script t o ≡ Some c → prepares c ≡ true → length (filter (is_taken_from t o) j.tree) ≡ 1
      once (ops.Write path text) is does = run.in_order.commands_once t o (ops.Write path text) is refl
      once op is does = absurd (true≢false (sym does))

      at : (c : Op) (b : Bool) → op_at script t o ≡ Some c → prepares c ≡ b → length (filter (is_taken_from t o) preparing) ≤ one_if b
      at c true is does = omega (arith, length-filter_filter (is_taken_from t o) (is_preparing script) j.tree, once c is does)
      at c false is isnt = let none = ap length (filter-none_at (is_taken_from t o) preparing (other c is isnt)) in omega (arith, none)

  -- so they are half of what the script weighs
  length-preparing_all : 2 * length preparing ≤ total_weight script
  length-preparing_all =
      let counted = length-quotas (λ (h : TreeEntryValue). h.thread) (λ (h : TreeEntryValue). h.op) script (λ c. one_if (prepares c)) preparing preparing-at preparing-few in
      let weighed = sum_by-twice (λ (os : List Op). sum_by (λ c. one_if (prepares c)) os) (weights_of script.machine)
      (sum_by-twice (λ c. one_if (prepares c)) (weight_of script.machine) (λ c. prepares-weight script.machine c (slice_count-some script.machine lawful.in_range))) (threads_of script) in
      omega (arith, counted, weighed)

  -- each state of a run is one of which entries can be written
  pub IsShort-take : (most : length j.tree ≤ 4000000) (k : ℕ) → k ≤ length j.tree → IsShort script.machine (tree_after script (take k j.tree))
  IsShort-take most k known =
      let reached = IsReachedBy-take script j.tree lawful run.tree_legal k known in
      let front = length-filter_take (is_preparing script) j.tree k in
      record {
        sound = IsSound-take script j.tree lawful run.tree_legal k known;
        serial = omega (arith, reached.serial, length-take-le k j.tree known, most);
        locks = omega (arith, reached.locks, front, length-preparing_all, lawful.light);
      }
