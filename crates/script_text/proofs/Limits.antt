-- What the lines so far keep to, while names, ops, threads and phases are added.
use Rattle.std.proofs.Common.{◌≡◌, ℕ, zero, suc, ◌+◌, ◌≤◌, ◌++◌, List, [], ◌∷◌, length, map, All, sym, ap, subst, ◌∙◌, arith}
use Rattle.std.specs.List.{range_with_len}
use Rattle.std.proofs.lemmas.Grind.{flat_map-append}
use Rattle.std.proofs.lemmas.List.{append-nil}
use Rattle.std.proofs.lemmas.List.Elements.{All-append, All-push}
use Rattle.script_ops.specs.declared.op.Op.{Op}
use Rattle.path_names.specs.NamesIn.{AreKnown}
use Rattle.script_ops.specs.Canonical.{IsNamed, AreNamed, op_ids}
use Rattle.script_ops.specs.Values.{PhaseValue, threads_in}
use Rattle.script_text.specs.Meaning.{with_names, access_at, sweep_ops}
use Rattle.script_lines.specs.declared.arguments.Sweep.{Sweep}
use Rattle.script_text.specs.States.{ReaderState, InLimits, IsSound}
use Rattle.path_names.specs.declared.paths.TheConstants.{MOST_PATH_NAMES}

-- what is known stays known
pub AreNamed-more : (n m : ℕ) (ops : List Op) → n ≤ m → AreNamed n ops → AreNamed m ops
AreNamed-more n m ops le all = λ k d h i e l. omega (arith, le, all k d h i e l)

-- the same of threads
pub All-AreNamed_more : (n m : ℕ) (threads : List (List Op)) → n ≤ m → All (AreNamed n) threads → All (AreNamed m) threads
All-AreNamed_more n m threads le all = λ j t g k d h i e l. omega (arith, le, all j t g k d h i e l)

-- more names
pub InLimits-with_names : (s : ReaderState) (names : List (List ℕ)) → length s.names ≤ length names → length names ≤ length s.names + MOST_PATH_NAMES → IsSound s → InLimits 1 1 MOST_PATH_NAMES (with_names s names)
InLimits-with_names s names AreNamed-cons few sound = record {
  names = omega (arith, sound.names, few);
  weight = sound.weight;
  tasks = sound.tasks;
  phases = sound.phases;
  threads = sound.threads;
  each = sound.each;
  ops_named = AreNamed-more (length s.names) (length names) s.ops AreNamed-cons sound.ops_named;
  threads_named = All-AreNamed_more (length s.names) (length names) s.threads AreNamed-cons sound.threads_named;
  phases_named = All-AreNamed_more (length s.names) (length names) (threads_in s.phases) AreNamed-cons sound.phases_named;
}

-- no extra names
pub InLimits-extra_names : (s : ReaderState) → IsSound s → InLimits 1 1 MOST_PATH_NAMES s
InLimits-extra_names s sound = record {
  names = omega (arith, sound.names);
  weight = sound.weight;
  tasks = sound.tasks;
  phases = sound.phases;
  threads = sound.threads;
  each = sound.each;
  ops_named = sound.ops_named;
  threads_named = sound.threads_named;
  phases_named = sound.phases_named;
}

-- no names are all known
pub AreKnown-nil : (n : ℕ) → AreKnown n []
AreKnown-nil n = λ k d h. absurd (omega arith)

-- one op more
pub AreNamed-push : (n : ℕ) (ops : List Op) (op : Op) → AreNamed n ops → AreKnown n (op_ids op) → AreNamed n (ops ++ op ∷ [])
AreNamed-push n ops op all known = All-push (IsNamed n) ops op all known

-- one named op in front
AreNamed-cons : (n : ℕ) (op : Op) (ops : List Op) → IsNamed n op → AreNamed n ops → AreNamed n (op ∷ ops)
AreNamed-cons n op ops first all zero d h = first
AreNamed-cons n op ops first all (suc k) d h = all k d (omega arith)

-- accesses name nothing
AreNamed-map_access_at : (n task : ℕ) (w : Sweep) (is : List ℕ) → AreNamed n (map (access_at task w) is)
AreNamed-map_access_at n task w [] = λ k d h. absurd (omega arith)
AreNamed-map_access_at n task w (i ∷ is) = AreNamed-cons n (access_at task w i) (map (access_at task w) is) (AreKnown-nil n) (AreNamed-map_access_at n task w is)

-- the accesses of a sweep more
pub AreNamed-sweep_ops : (n : ℕ) (ops : List Op) (task : ℕ) (w : Sweep) → AreNamed n ops → AreNamed n (ops ++ sweep_ops task w)
AreNamed-sweep_ops n ops task w all = All-append (IsNamed n) ops (sweep_ops task w) all (AreNamed-map_access_at n task w (range_with_len 0 w.count))

-- one thread more
pub All-AreNamed_push : (n : ℕ) (threads : List (List Op)) (ops : List Op) → All (AreNamed n) threads → AreNamed n ops → All (AreNamed n) (threads ++ ops ∷ [])
All-AreNamed_push n threads ops all named = All-push (AreNamed n) threads ops all named

-- one phase more
pub AreNamed-threads_in_push : (n : ℕ) (phases : List PhaseValue) (p : PhaseValue) → All (AreNamed n) (threads_in phases) → All (AreNamed n) p.threads → All (AreNamed n) (threads_in (phases ++ p ∷ []))
AreNamed-threads_in_push n phases p all named =
    let e : threads_in (phases ++ p ∷ []) ≡ threads_in phases ++ p.threads =
    flat_map-append (λ (q : PhaseValue). q.threads) phases (p ∷ []) ∙ ap (λ (ts : List (List Op)). threads_in phases ++ ts) (append-nil p.threads) in
    subst (λ (ts : List (List Op)). All (AreNamed n) ts) (sym e) (All-append (AreNamed n) (threads_in phases) p.threads all named)

-- one thread more may be closed
pub InLimits-fewer_threads : (s : ReaderState) → IsSound s → InLimits 1 0 0 s
InLimits-fewer_threads s sound = record {
  names = sound.names;
  weight = sound.weight;
  tasks = sound.tasks;
  phases = sound.phases;
  threads = omega (arith, sound.threads);
  each = sound.each;
  ops_named = sound.ops_named;
  threads_named = sound.threads_named;
  phases_named = sound.phases_named;
}

pub ruleset keeping = (InLimits-with_names, InLimits-extra_names, InLimits-fewer_threads, AreKnown-nil, AreNamed-push, AreNamed-sweep_ops, All-AreNamed_push, AreNamed-threads_in_push)
