-- What an answer says of a fact, and entries by their position.
use Rattle.std.proofs.Common.{◌≡◌, ◌↔◌, ℕ, zero, suc, ◌<◌, ◌≤◌, true, false, List, [], ◌∷◌, length, map, Option, Some, None, refl, ap, subst, arith}
use Rattle.std.specs.Prelude.{IsSome, IsTrue, slice_get, slice_index_or}
use Rattle.std.proofs.lemmas.Option.{slice_get_within}
use Rattle.cache_core.specs.declared.entry.SliceEntry.{SliceEntry}
use Rattle.cache_core.specs.declared.entry.What.TheVariants.{Access}
use Rattle.journal_check.specs.Tables.{IsTableOf, number_at, row_of}
use Rattle.run_law.proofs.laws.Positions.{slice_get-within}
use Rattle.run_law.specs.Journals.{At, JournalsValue, slice_at}
use Rattle.script_ops.specs.Values.{ScriptValue, op_at, ops_of}
use Rattle.script_ops.specs.declared.op.Op.{Op}

-- no
pub is_false : (P : Type 0) → (P → ⊥) → IsTrue false ↔ P
is_false P never = ((λ wrong. absurd (let w : false ≡ true = wrong in cc)), (λ p. absurd (never p)))

-- yes
pub is_true : (P : Type 0) → P → IsTrue true ↔ P
is_true P p = ((λ yes. p), (λ q. refl))

-- an entry of no list
abbrev pub no_entry : SliceEntry
no_entry = record { thread = 0; op = 0; epoch = 0; what = Access false 0 (record { 0 = 0 }) 0 0 0 }

-- something that is there is
pub IsSome-some : {A : Type 0} (o : Option A) (x : A) → o ≡ Some x → IsSome o
IsSome-some None x is = absurd cc
IsSome-some (Some y) x is = refl

-- and is what it is
pub some-IsSome : {A : Type 0} (o : Option A) → IsSome o → (x : A) × (o ≡ Some x)
some-IsSome None is = absurd cc
some-IsSome (Some x) is = (x, refl)

-- nothing is not there
pub none-IsSome : {A : Type 0} (o : Option A) → o ≡ None → IsSome o → ⊥
none-IsSome None is some = cc
none-IsSome (Some x) is some = cc

-- an op with a number is one of the script
pub op_at-number : (script : ScriptValue) (table : List (List ℕ)) (t o n : ℕ) → IsTableOf script table → number_at table t o ≡ Some n → IsSome (op_at script t o)
op_at-number script table t o n is there =
    let within : o < length (ops_of script t) = omega (arith, slice_get_within (row_of table t) o n there, is t) in
    slice_get-within (ops_of script t) o within

-- and an op of the script has one
pub number_at-op : (script : ScriptValue) (table : List (List ℕ)) (t o : ℕ) → IsTableOf script table → IsSome (op_at script t o) → (n : ℕ) × (number_at table t o ≡ Some n)
number_at-op script table t o is some =
    let it = some-IsSome (op_at script t o) some in
    let within : o < length (row_of table t) = omega (arith, slice_get_within (ops_of script t) o it.0 it.1, is t) in
    some-IsSome (number_at table t o) (slice_get-within (row_of table t) o within)

-- a thread with an op is there
pub thread-op : (all : List (List Op)) (t o : ℕ) → IsSome (slice_get (slice_index_or all t []) o) → t < length all
thread-op [] t o some = absurd (none-IsSome (slice_get {X = Op} [] o) refl some)
thread-op (ops ∷ rest) zero o some = omega arith
thread-op (ops ∷ rest) (suc t) o some = omega (arith, thread-op rest t o some)

-- nothing stands past the end
past_end : (all : List (List SliceEntry)) (i : ℕ) → length all ≤ i → slice_index_or all i [] ≡ []
past_end [] i past = refl
past_end (x ∷ xs) zero past = absurd (omega arith)
past_end (x ∷ xs) (suc i) past = past_end xs i (omega arith)

-- a slice past the last has no entries
pub slice_at-past : (j : JournalsValue) (i p : ℕ) (e : SliceEntry) → length j.slices ≤ i → At (slice_at j i) p e → ⊥
slice_at-past j i p e past at =
    let none : slice_at j i ≡ [] = past_end j.slices i past in
    let wrong : slice_get {X = SliceEntry} [] p ≡ Some e = subst (λ es. slice_get es p ≡ Some e) none at in
    cc

-- what is mapped stands where it stood
pub At-map : {A B : Type 0} (f : A → B) (xs : List A) (k : ℕ) (x : A) → At xs k x → At (map f xs) k (f x)
At-map f [] k x at = absurd cc
At-map f (y ∷ xs) zero x at = (let same : y ≡ x = cc in ap (λ z. Some (f z)) same)
At-map f (y ∷ xs) (suc k) x at = At-map f xs k x at

-- a slice past the last is empty
pub slice_at-nil : (j : JournalsValue) (i : ℕ) → length j.slices ≤ i → slice_at j i ≡ []
slice_at-nil j i past = past_end j.slices i past
