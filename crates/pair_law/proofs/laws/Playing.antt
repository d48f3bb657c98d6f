-- One op more: what a player of a script keeps.
use Rattle.std.proofs.Common.{◌≡◌, ◌≢◌, ℕ, zero, suc, ◌+◌, Bool, true, false, ◌&&◌, ◌||◌, cond, eqb, List, [], ◌∷◌, ◌++◌, length, filter, take, get_or, Some, refl, sym, ap, ◌∙◌, arith}
use Rattle.std.specs.List.{All, flat_map, range_with_len}
use Rattle.std.proofs.lemmas.Bool.{ne_eqb}
use Rattle.std.proofs.lemmas.Grind.{flat_map-append}
use Rattle.std.proofs.lemmas.List.{append-nil, length-append, take_more}
use Rattle.std.proofs.lemmas.List.Elements.{filter-append}
use Rattle.std.proofs.lemmas.List.Folds.{list_any-append, list_any_none}
use Rattle.std.proofs.lemmas.Option.{get_or_from_slice_get}
use Rattle.cache_core.specs.declared.entry.SliceEntry.{SliceEntry}
use Rattle.cache_core.specs.declared.entry.What.{What}
use Rattle.pair_law.specs.Epochs.{replies_to, state_after, state_at}
use Rattle.pair_law.specs.State.{PairState, opening}
use Rattle.pair_law.specs.Steps.{next}
use Rattle.pair_text.specs.Values.{Machines, PairScriptValue, epoch_at, is_command, op_at}
use Rattle.pair_text.specs.declared.op.PairOp.{PairOp}
use Rattle.pair_law.proofs.laws.Cuts.{range_with_len-append}
use Rattle.std.proofs.lemmas.Option.{slice_get_within}
use Rattle.pair_law.specs.LevelRuns.{has_at}
use Rattle.rc_base.specs.declared.replies.Reply.{Reply}

-- ---- commands

-- the state after one command more
pub state_after-push : (m : Machines) (s : PairState) (ops : List PairOp) (op : PairOp) → state_after m s (ops ++ op ∷ []) ≡ (next m (state_after m s ops) op).state
state_after-push m s [] op = refl
state_after-push m s (x ∷ ops) op = state_after-push m (next m s x).state ops op

-- the replies to one command more
pub replies_to-push : (m : Machines) (s : PairState) (ops : List PairOp) (op : PairOp) → replies_to m s (ops ++ op ∷ []) ≡ replies_to m s ops ++ (next m (state_after m s ops) op).reply ∷ []
replies_to-push m s [] op = refl
replies_to-push m s (x ∷ ops) op = ap (λ (l : List Reply). (next m s x).reply ∷ l) (replies_to-push m (next m s x).state ops op)

-- the commands among the first ops are the first commands
take-commands : {X : Type 0} (p : X → Bool) (xs : List X) (i : ℕ) → take (length (filter p (take i xs))) (filter p xs) ≡ filter p (take i xs)
take-commands p xs zero = refl
take-commands p [] (suc i) = refl
take-commands {X = X} p (x ∷ xs) (suc i) = at (p x) (take-commands p xs i)
  where
    at : (b : Bool) → take (length (filter p (take i xs))) (filter p xs) ≡ filter p (take i xs) → take (length (cond b (x ∷ filter p (take i xs)) (filter p (take i xs)))) (cond b (x ∷ filter p xs) (filter p xs)) ≡ cond b (x ∷ filter p (take i xs)) (filter p (take i xs))
    at true rest = ap (λ (l : List X). x ∷ l) rest
    at false rest = rest

-- the state at an op is that after the commands before it
pub state_at-epoch : (script : PairScriptValue) (i : ℕ) → state_at script (epoch_at script i) ≡ state_after script.machines (opening script.machines script.tasks) (filter is_command (take i script.ops))
state_at-epoch script i = ap (state_after script.machines (opening script.machines script.tasks)) (take-commands is_command script.ops i)

-- the ops up to and with one
take-op : (script : PairScriptValue) (i : ℕ) (op : PairOp) → op_at script i ≡ Some op → take (i + 1) script.ops ≡ take i script.ops ++ op ∷ []
take-op script i op is = take_more script.ops i op (slice_get_within script.ops i op is) ∙ ap (λ (x : PairOp). take i script.ops ++ x ∷ []) (get_or_from_slice_get script.ops i op op is)

-- a command is one command more
pub filter-take_command : (script : PairScriptValue) (i : ℕ) (op : PairOp) → op_at script i ≡ Some op → is_command op ≡ true → filter is_command (take (i + 1) script.ops) ≡ filter is_command (take i script.ops) ++ op ∷ []
filter-take_command script i op is command = ap (filter is_command) (take-op script i op is) ∙ (filter-append is_command (take i script.ops) (op ∷ []) ∙ ap (λ (b : Bool). filter is_command (take i script.ops) ++ cond b (op ∷ []) []) command)

-- a use is none
pub filter-take_use : (script : PairScriptValue) (i : ℕ) (op : PairOp) → op_at script i ≡ Some op → is_command op ≡ false → filter is_command (take (i + 1) script.ops) ≡ filter is_command (take i script.ops)
filter-take_use script i op is use_of = ap (filter is_command) (take-op script i op is) ∙ (filter-append is_command (take i script.ops) (op ∷ []) ∙ (ap (λ (b : Bool). filter is_command (take i script.ops) ++ cond b (op ∷ []) []) use_of ∙ append-nil (filter is_command (take i script.ops))))

-- after a command the epoch is one more, and the state the next one
pub epoch_at-command : (script : PairScriptValue) (i : ℕ) (op : PairOp) → op_at script i ≡ Some op → is_command op ≡ true → epoch_at script (i + 1) ≡ epoch_at script i + 1
epoch_at-command script i op is command = ap length (filter-take_command script i op is command) ∙ length-append (filter is_command (take i script.ops)) (op ∷ [])

pub state_at-command : (script : PairScriptValue) (i : ℕ) (op : PairOp) → op_at script i ≡ Some op → is_command op ≡ true → state_at script (epoch_at script (i + 1)) ≡ (next script.machines (state_at script (epoch_at script i)) op).state
state_at-command script i op is command =
    state_at-epoch script (i + 1)
    ∙ (ap (state_after script.machines (opening script.machines script.tasks)) (filter-take_command script i op is command)
    ∙ (state_after-push script.machines (opening script.machines script.tasks) (filter is_command (take i script.ops)) op
    ∙ ap (λ (s : PairState). (next script.machines s op).state) (sym (state_at-epoch script i))))

-- after a use both are as they were
pub epoch_at-use : (script : PairScriptValue) (i : ℕ) (op : PairOp) → op_at script i ≡ Some op → is_command op ≡ false → epoch_at script (i + 1) ≡ epoch_at script i
epoch_at-use script i op is use_of = ap length (filter-take_use script i op is use_of)

-- ---- entries

-- what is asked by one op more
pub asked-more : (f : ℕ → List SliceEntry) (i : ℕ) → flat_map f (range_with_len 0 (i + 1)) ≡ flat_map f (range_with_len 0 i) ++ f i
asked-more f i =
    ap (flat_map f) (range_with_len-append 0 i 1 (i + 1) i refl (omega arith))
    ∙ (flat_map-append f (range_with_len 0 i) (range_with_len i 1)
    ∙ ap (λ (l : List SliceEntry). flat_map f (range_with_len 0 i) ++ l) (append-nil (f i)))

-- an op's entry is found in the entries so far as in all, where those that follow are of other ops: so that a use reaches the L3 by the
-- entries so far
pub has_at-more : (es more : List SliceEntry) (i : ℕ) (p : What → Bool) → All (λ (e : SliceEntry). e.op ≢ i) more → has_at (es ++ more) i p ≡ has_at es i p
has_at-more es more i p others =
    list_any-append (λ (e : SliceEntry). eqb e.op i && p e.what) es more
    ∙ (ap (λ (b : Bool). has_at es i p || b) (list_any_none (λ (e : SliceEntry). eqb e.op i && p e.what) more (λ k d within. none (get_or more k d) (others k d within)))
    ∙ or-false (has_at es i p))
  where
    none : (x : SliceEntry) → x.op ≢ i → (eqb x.op i && p x.what) ≡ false
    none x ne = rw (ne_eqb x.op i ne) refl

    or-false : (b : Bool) → (b || false) ≡ b
    or-false true = refl
    or-false false = refl
