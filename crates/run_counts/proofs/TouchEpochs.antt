-- The epochs of the accesses that a command of a run makes.
use Rattle.std.proofs.Common.{◌≡◌, ℕ, ◌+◌, ◌*◌, ◌<◌, Bool, true, false, cond, List, [], ◌∷◌, length, map, filter, get_or, take, Option, None, Some, refl, sym, ◌∙◌, subst, arith}
use Rattle.std.specs.Prelude.{IsTrue}
use Rattle.std.specs.List.{AllByRecursion, flat_map}
use Rattle.std.proofs.lemmas.List.Elements.{recursion_from_All}
use Rattle.std.proofs.lemmas.List.{get_or_default}
use Rattle.std.proofs.lemmas.Option.{get_or_from_slice_get, slice_get_within}
use Rattle.cache_core.specs.declared.entry.SliceEntry.{SliceEntry}
use Rattle.cache_core.specs.declared.entry.What.{What}
use Rattle.cache_core.specs.declared.entry.What.TheVariants as whats
use Rattle.machine.specs.declared.parameters.Parameters.{Parameters}
use Rattle.rc_base.proofs.laws.Histories.{EachFollows-at}
use Rattle.cache_core.specs.Whats.{is_access}
use Rattle.run_law.specs.Journals.{At, JournalsValue, slice_at}
use Rattle.run_law.specs.Ops.{ByKind, is_command}
use Rattle.run_law.specs.Order.{Makes}
use Rattle.run_law.specs.Owed.{Owed, follow_in, is_entered_in, look_in, owed_by_command, paid_by, undecided, what_of}
use Rattle.run_law.specs.Runs.{IsRun}
use Rattle.run_law.specs.TreeHistory.{CommandMayFollow, IsCommandThat, TreeEntryValue, tree_after}
use Rattle.run_law.specs.Truth.{is_made_by}
use Rattle.run_law.proofs.laws.Pairs.{both_eqb-same}
use Rattle.script_ops.specs.Values.{ScriptValue, op_at}
use Rattle.script_ops.specs.declared.op.Op.{Op}
use Rattle.script_ops.specs.declared.op.Op.TheVariants as ops
use Rattle.tree_law.specs.Steps.{after, needs, next}
use Rattle.lists.proofs.Recursions.{AllByRecursion-append}

-- and of those of many
pub AllByRecursion-flat_map : {X Y : Type 0} (P : Y → Type 0) (f : X → List Y) → ((x : X) → AllByRecursion P (f x)) → (xs : List X) → AllByRecursion P (flat_map f xs)
AllByRecursion-flat_map P f each [] = tt
AllByRecursion-flat_map P f each (x ∷ xs) = AllByRecursion-append P (f x) (flat_map f xs) (each x) (AllByRecursion-flat_map P f each xs)

-- what holds of what is mapped
AllByRecursion-from_map : {X Y : Type 0} (P : Y → Type 0) (f : X → Y) (xs : List X) → AllByRecursion P (map f xs) → AllByRecursion (λ x. P (f x)) xs
AllByRecursion-from_map P f [] all = tt
AllByRecursion-from_map P f (x ∷ xs) all = (all.0, AllByRecursion-from_map P f xs all.1)

-- what holds of those that a filter keeps
AllByRecursion-from_filter : {X : Type 0} (P : X → Type 0) (q : X → Bool) (xs : List X) → AllByRecursion P (filter q xs) → AllByRecursion (λ x. q x ≡ true → P x) xs
AllByRecursion-from_filter P q [] all = tt
AllByRecursion-from_filter P q (x ∷ xs) all = at (q x) refl (λ rest. AllByRecursion-from_filter P q xs rest) all
  where
    at : (b : Bool) → q x ≡ b → (AllByRecursion P (filter q xs) → AllByRecursion (λ y. q y ≡ true → P y) xs) → AllByRecursion P (cond b (x ∷ filter q xs) (filter q xs)) → (q x ≡ true → P x) × AllByRecursion (λ y. q y ≡ true → P y) xs
    at true is later both = ((λ _. both.0), later both.1)
    at false is later rest = ((λ has. absurd (let e : true ≡ false = sym has ∙ is in cc)), later rest)

-- ---- the epochs of what a command owes

-- an access has this epoch
abbrev pub IsAccessAt : ℕ → Owed → Type 0
IsAccessAt epoch o = is_access o.what ≡ true → o.epoch ≡ epoch

-- one thing or none
pub AllByRecursion-cond : {X : Type 0} (P : X → Type 0) (b : Bool) (x : X) → P x → AllByRecursion P (cond b (x ∷ []) [])
AllByRecursion-cond P true x holds = (holds, tt)
AllByRecursion-cond P false x holds = tt

-- the looks of a command are no accesses, and what follows it has the epoch after it
AllByRecursion-owed : (script : ScriptValue) (tree : List TreeEntryValue) (i k : ℕ) (op : Op) → AllByRecursion (IsAccessAt (k + 1)) (owed_by_command script tree i k op)
unfolding owed_by_command
AllByRecursion-owed script tree i k op =
    let m : Parameters = script.machine in
    let s = tree_after script (take k tree) in
    AllByRecursion-append (IsAccessAt (k + 1)) (flat_map (look_in m i k) (needs m s op)) (flat_map (follow_in m i (k + 1)) (after m s k op))
    (AllByRecursion-flat_map (IsAccessAt (k + 1)) (look_in m i k) (λ need. AllByRecursion-cond (IsAccessAt (k + 1)) _ (record { epoch = k; what = whats.Look need.1 0 }) (λ access. absurd (let e : false ≡ true = access in cc))) (needs m s op))
    (AllByRecursion-flat_map (IsAccessAt (k + 1)) (follow_in m i (k + 1)) (λ f. AllByRecursion-cond (IsAccessAt (k + 1)) (is_entered_in m i f) (record { epoch = k + 1; what = what_of f }) (λ access. refl)) (after m s k op))

-- ---- the entries of a command

-- what is said of a command
ByKind-of_command : (A : ℕ → ℕ → ℕ → Type 0) (C : Type 0) (op : Op) → IsTrue (is_command op) → ByKind A C op → C
ByKind-of_command A C (ops.Access task cpu addr) is h = absurd (let e : false ≡ true = is in cc)
ByKind-of_command A C (ops.Mkdir path) is h = h
ByKind-of_command A C (ops.Rmdir path) is h = h
ByKind-of_command A C (ops.Write path text) is h = h
ByKind-of_command A C (ops.Read path) is h = h
ByKind-of_command A C (ops.List path) is h = h
ByKind-of_command A C (ops.Touch cpu path task offset) is h = h
ByKind-of_command A C (ops.DropLine addr) is h = h
ByKind-of_command A C (ops.DropRegion path offset) is h = h
ByKind-of_command A C (ops.Flush domain) is h = h
ByKind-of_command A C ops.Tick is h = h

-- what a slice decides leaves an access one
pub is_access-undecided : (what : What) → is_access (undecided what) ≡ is_access what
is_access-undecided (whats.Access hit way owner rmid mask line) = refl
is_access-undecided whats.Raise = refl
is_access-undecided whats.Flush = refl
is_access-undecided (whats.Lock mask first_line) = refl
is_access-undecided (whats.Look rmid lines) = refl
is_access-undecided (whats.Drop line at) = refl

-- what each entry of a command among these pays
abbrev pub ArePaid : (Owed → Type 0) → TreeEntryValue → List SliceEntry → Type 0
ArePaid P h es = AllByRecursion (λ (e : SliceEntry). is_made_by h.thread h.op e ≡ true → P (paid_by e)) es

-- each access of a command among these entries has the epoch after it
abbrev pub AreTouchesOf : ℕ → TreeEntryValue → List SliceEntry → Type 0
AreTouchesOf k h es = ArePaid (IsAccessAt (k + 1)) h es

-- those of a slice of a run pay what the command owes
ArePaid-slice : (P : Owed → Type 0) (script : ScriptValue) (j : JournalsValue) (k i : ℕ) (h : TreeEntryValue) (op : Op) → At j.tree k h → IsTrue (is_command op) → AllByRecursion P (owed_by_command script j.tree i k op)
    → Makes script j i h.thread h.op op (filter (is_made_by h.thread h.op) (slice_at j i)) → ArePaid P h (slice_at j i)
ArePaid-slice P script j k i h op there is owed makes =
    let paid = ByKind-of_command _ _ op is makes k h there (both_eqb-same h.thread h.thread h.op h.op refl refl) in
    AllByRecursion-from_filter (λ (e : SliceEntry). P (paid_by e)) (is_made_by h.thread h.op) (slice_at j i)
    (AllByRecursion-from_map P paid_by (filter (is_made_by h.thread h.op) (slice_at j i)) (subst (AllByRecursion P) (sym paid) owed))

-- those of all slices
pub ArePaid-run : (P : Owed → Type 0) (script : ScriptValue) (j : JournalsValue) (k : ℕ) (h : TreeEntryValue) (op : Op) → IsRun script j → At j.tree k h → op_at script h.thread h.op ≡ Some op → IsTrue (is_command op)
    → ((i : ℕ) → AllByRecursion P (owed_by_command script j.tree i k op)) → AllByRecursion (ArePaid P h) j.slices
ArePaid-run P script j k h op run there here is owed =
    recursion_from_All (ArePaid P h) j.slices
    (λ i d l.
    let all : length j.slices ≡ script.machine.domains * script.machine.slices = run.all_slices in
    subst (ArePaid P h) (get_or_default j.slices i [] d l) (ArePaid-slice P script j k i h op there is (owed i) (run.in_order.entries_once i h.thread h.op op (omega (arith, l, all)) here)))

-- the op of an entry of a legal history is a command, and the entry has the reply that the state gives
pub command_at : (script : ScriptValue) (j : JournalsValue) (k : ℕ) (h : TreeEntryValue) → IsRun script j → At j.tree k h
    → (op : Op) × (op_at script h.thread h.op ≡ Some op) × IsTrue (is_command op) × (h.reply ≡ (next script.machine (tree_after script (take k j.tree)) op h.looks).reply)
command_at script j k h run there =
    let within : k < length j.tree = slice_get_within j.tree k h there in
    let here : CommandMayFollow script (take k j.tree) (get_or j.tree k h) = EachFollows-at (CommandMayFollow script) j.tree k h run.tree_legal within in
    of_op (op_at script h.thread h.op) refl (subst (CommandMayFollow script (take k j.tree)) (get_or_from_slice_get j.tree k h h there) here)
  where
    of_op : (o : Option Op) → op_at script h.thread h.op ≡ o
        → IsCommandThat (λ (op : Op). (length h.looks ≡ length (needs script.machine (tree_after script (take k j.tree)) op)) × (h.reply ≡ (next script.machine (tree_after script (take k j.tree)) op h.looks).reply)) o
        → (op : Op) × (op_at script h.thread h.op ≡ Some op) × IsTrue (is_command op) × (h.reply ≡ (next script.machine (tree_after script (take k j.tree)) op h.looks).reply)
    of_op None is may = absurd may
    of_op (Some op) is may = (op, is, may.0, may.1.1)

-- the accesses of a command in a run have the epoch after it
pub AreTouchesOf-run : (script : ScriptValue) (j : JournalsValue) (k : ℕ) (h : TreeEntryValue) → IsRun script j → At j.tree k h → AllByRecursion (AreTouchesOf k h) j.slices
AreTouchesOf-run script j k h run there =
    let op = command_at script j k h run there in
    ArePaid-run (IsAccessAt (k + 1)) script j k h op.0 run there op.1 op.2 (λ i. AllByRecursion-owed script j.tree i k op.0)
