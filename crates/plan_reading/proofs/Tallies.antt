-- What holds of the state of a reader: the groups that commands make have names, and the weight is that of the ops.
use Rattle.std.proofs.Common.{◌≡◌, ℕ, ◌+◌, Bool, true, false, cond, List, [], ◌∷◌, ◌++◌, get_or, All, refl, sym, ap, subst, ◌∙◌, arith}
use Rattle.std.specs.Prelude.{sum_by}
use Rattle.std.proofs.lemmas.Grind.{flat_map-append}
use Rattle.std.proofs.lemmas.List.{append-nil}
use Rattle.std.proofs.lemmas.List.Elements.{All-nil, All-append, All-push}
use Rattle.std.proofs.lemmas.List.Sums.{sum_by-append, sum_by_push}
use Rattle.path_names.specs.Interned.{Keeps}
use Rattle.path_names.specs.declared.dirs.DirRef.TheVariants.{Ctrl}
use Rattle.path_names.specs.declared.path_ref.PathRef.{PathRef}
use Rattle.path_names.specs.declared.path_ref.PathRef.TheVariants.{Dir}
use Rattle.script_ops.specs.Values.{PhaseValue, threads_in}
use Rattle.script_ops.specs.Weights.{weights_of}
use Rattle.script_ops.specs.declared.op.Op.{Op}
use Rattle.script_ops.specs.declared.op.Op.TheVariants as ops
use Rattle.plan_reading.proofs.Places.{is_early-head}
use Rattle.script_text.specs.Reading.{nothing_read}
use Rattle.script_text.specs.States.{ReaderState, close_phase, close_thread, is_early, is_head, is_thread}
use Rattle.script_text.specs.declared.kind.LinePosition.{LinePosition}
use Rattle.script_text.specs.declared.kind.LinePosition.TheVariants as places
use Rattle.plan_reading.proofs.laws.GroupNames.{IsNamedPath}
use Rattle.plan_reading.proofs.laws.InternedNames.{IsGroupName-kept}

-- the group that a command makes, if it makes a control group, has a name
abbrev pub MakesNamed : List (List ℕ) → Op → Type 0
MakesNamed names (ops.Mkdir path) = IsNamedPath names path
MakesNamed names op = Unit {0}

-- the same of several commands, and of those of threads
abbrev pub MakeNamed : List (List ℕ) → List Op → Type 0
MakeNamed names all = All (MakesNamed names) all

abbrev pub AllMakeNamed : List (List ℕ) → List (List Op) → Type 0
AllMakeNamed names threads = All (MakeNamed names) threads

-- so it stays while names come
IsNamedPath-kept : (old new : List (List ℕ)) (path : PathRef) → Keeps old new → IsNamedPath old path → IsNamedPath new path
IsNamedPath-kept old new (Dir (Ctrl id)) kept is = IsGroupName-kept old new id kept is
IsNamedPath-kept old new path kept is = tt

MakesNamed-kept : (old new : List (List ℕ)) (op : Op) → Keeps old new → MakesNamed old op → MakesNamed new op
MakesNamed-kept old new (ops.Mkdir path) kept is = IsNamedPath-kept old new path kept is
MakesNamed-kept old new op kept is = tt

pub MakeNamed-kept : (old new : List (List ℕ)) (all : List Op) → Keeps old new → MakeNamed old all → MakeNamed new all
MakeNamed-kept old new all kept is = λ k d h. MakesNamed-kept old new (get_or all k d) kept (is k d h)

pub AllMakeNamed-kept : (old new : List (List ℕ)) (threads : List (List Op)) → Keeps old new → AllMakeNamed old threads → AllMakeNamed new threads
AllMakeNamed-kept old new threads kept is = λ k d h. MakeNamed-kept old new (get_or threads k d) kept (is k d h)

-- ---- what holds after lines

-- What holds of a state.
pub record IsTold (s : ReaderState) : Type 0 where
  pub ops : MakeNamed s.names s.ops
  pub threads : AllMakeNamed s.names s.threads
  pub phases : AllMakeNamed s.names (threads_in s.phases)
  pub weight : sum_by (weights_of s.machine) (threads_in s.phases) + sum_by (weights_of s.machine) s.threads + weights_of s.machine s.ops ≡ s.weight
  pub early : is_early s.place ≡ true → (s.ops ≡ []) × (s.threads ≡ []) × (s.phases ≡ []) × (s.order ≡ [])
  pub closed : is_thread s.place ≡ false → s.ops ≡ []

-- the same but for where the next line stands
pub record IsTallied (s : ReaderState) : Type 0 where
  pub ops : MakeNamed s.names s.ops
  pub threads : AllMakeNamed s.names s.threads
  pub phases : AllMakeNamed s.names (threads_in s.phases)
  pub weight : sum_by (weights_of s.machine) (threads_in s.phases) + sum_by (weights_of s.machine) s.threads + weights_of s.machine s.ops ≡ s.weight

pub tallied : (s : ReaderState) → IsTold s → IsTallied s
tallied s told = record { ops = told.ops; threads = told.threads; phases = told.phases; weight = told.weight }

-- before the first line
pub IsTold-nothing_read : IsTold nothing_read
IsTold-nothing_read = record { ops = All-nil _; threads = All-nil _; phases = All-nil _; weight = refl; early = λ h. (refl, refl, refl, refl); closed = λ h. refl }

-- with another machine or other tasks, before the first phase
pub IsTold-no_ops : (s t : ReaderState) → (s.ops ≡ []) × (s.threads ≡ []) × (s.phases ≡ []) × (s.order ≡ []) → IsTold s → t.ops ≡ s.ops → t.threads ≡ s.threads → t.phases ≡ s.phases → t.order ≡ s.order → t.weight ≡ s.weight → IsTold t
IsTold-no_ops s t none told a b c d w =
    let no_ops : t.ops ≡ [] = a ∙ none.0 in
    let no_threads : t.threads ≡ [] = b ∙ none.1 in
    let no_phases : t.phases ≡ [] = c ∙ none.2 in
    let nothing : 0 ≡ s.weight = sym (rw (none.0, none.1, none.2) refl) ∙ told.weight in
    record {
      ops = subst (λ (xs : List Op). MakeNamed t.names xs) (sym no_ops) (All-nil _);
      threads = subst (λ (xs : List (List Op)). AllMakeNamed t.names xs) (sym no_threads) (All-nil _);
      phases = subst (λ (xs : List PhaseValue). AllMakeNamed t.names (threads_in xs)) (sym no_phases) (All-nil _);
      weight = rw (no_ops, no_threads, no_phases) (nothing ∙ sym w);
      early = λ h. (no_ops, no_threads, no_phases, d ∙ none.3);
      closed = λ h. no_ops;
    }

-- the open thread among the closed ones
IsTallied-thread_push : (s : ReaderState) → IsTallied s → IsTallied (record s { threads = s.threads ++ s.ops ∷ []; ops = [] })
IsTallied-thread_push s told = record {
  ops = All-nil _;
  threads = All-push (MakeNamed s.names) s.threads s.ops told.threads told.ops;
  phases = told.phases;
  weight = omega (arith, told.weight, sum_by_push (weights_of s.machine) s.threads s.ops);
}

-- a thread that is closed
pub IsTallied-close_thread : (s : ReaderState) → IsTallied s → IsTallied (close_thread s)
IsTallied-close_thread s told = at (is_thread s.place)
  where
    at : (b : Bool) → IsTallied (cond b (record s { threads = s.threads ++ s.ops ∷ []; ops = [] }) s)
    at true = IsTallied-thread_push s told
    at false = told

-- then no ops are left
pub no_ops-close_thread : (s : ReaderState) → (is_thread s.place ≡ false → s.ops ≡ []) → (close_thread s).ops ≡ []
no_ops-close_thread s closed = at (is_thread s.place) refl
  where
    at : (b : Bool) → is_thread s.place ≡ b → (cond b (record s { threads = s.threads ++ s.ops ∷ []; ops = [] }) s).ops ≡ []
    at true is = refl
    at false is = closed is

-- the threads of one more phase
threads_in-push : (phases : List PhaseValue) (order : List ℕ) (threads : List (List Op)) → threads_in (phases ++ (record { order = order; threads = threads }) ∷ []) ≡ threads_in phases ++ threads
threads_in-push phases order threads =
    flat_map-append (λ (q : PhaseValue). q.threads) phases ((record { order = order; threads = threads }) ∷ []) ∙ ap (λ (ts : List (List Op)). threads_in phases ++ ts) (append-nil threads)

-- the open phase among the closed ones
IsTallied-phase_push : (s : ReaderState) (order : List ℕ) → IsTallied s → IsTallied (record s { phases = s.phases ++ (record { order = order; threads = s.threads }) ∷ []; order = []; threads = [] })
IsTallied-phase_push s order told =
    let split = threads_in-push s.phases order s.threads in
    record {
      ops = told.ops;
      threads = All-nil _;
      phases = subst (λ (ts : List (List Op)). AllMakeNamed s.names ts) (sym split) (All-append (MakeNamed s.names) (threads_in s.phases) s.threads told.phases told.threads);
      weight = rw split (omega (arith, told.weight, sum_by-append (weights_of s.machine) (threads_in s.phases) s.threads));
    }

-- What holds once the open phase is closed: nothing is open.
pub record IsShut (s : ReaderState) : Type 0 where
  pub no_ops : s.ops ≡ []
  pub no_threads : s.threads ≡ []
  pub no_order : s.order ≡ []
  pub phases : AllMakeNamed s.names (threads_in s.phases)
  pub weight : sum_by (weights_of s.machine) (threads_in s.phases) ≡ s.weight

-- what is tallied and has nothing open
IsShut-tallied : (s : ReaderState) → IsTallied s → s.ops ≡ [] → s.threads ≡ [] → s.order ≡ [] → IsShut s
IsShut-tallied s told a b c =
    let threads : sum_by (weights_of s.machine) s.threads ≡ 0 = ap (sum_by (weights_of s.machine)) b in
    let all : weights_of s.machine s.ops ≡ 0 = ap (weights_of s.machine) a in
    record { no_ops = a; no_threads = b; no_order = c; phases = told.phases; weight = omega (arith, told.weight, threads, all) }

-- a phase that is closed
pub IsShut-close_phase : (s : ReaderState) → IsTold s → IsShut (close_phase s)
IsShut-close_phase s told = at (is_head s.place) refl
  where
    at : (b : Bool) → is_head s.place ≡ b
        → IsShut (cond b s (record (close_thread s) { phases = s.phases ++ (record { order = s.order; threads = (close_thread s).threads }) ∷ []; order = []; threads = [] }))
    at true is = let none = told.early (is_early-head s.place is) in IsShut-tallied s (tallied s told) none.0 none.1 none.3
    at false is = at_thread (is_thread s.place) refl
      where
        at_thread : (b : Bool) → is_thread s.place ≡ b
            → IsShut (record (cond b (record s { threads = s.threads ++ s.ops ∷ []; ops = [] }) s) { phases = s.phases ++ (record { order = s.order; threads = (cond b (record s { threads = s.threads ++ s.ops ∷ []; ops = [] }) s).threads }) ∷ []; order = []; threads = [] })
        at_thread true is =
            IsShut-tallied _ (IsTallied-phase_push (record s { threads = s.threads ++ s.ops ∷ []; ops = [] }) s.order (IsTallied-thread_push s (tallied s told))) refl refl refl
        at_thread false is = IsShut-tallied _ (IsTallied-phase_push s s.order (tallied s told)) (told.closed is) refl refl

-- a new phase
pub IsTold-opened : (s : ReaderState) → IsShut s → IsTold (record s { place = places.Opened })
IsTold-opened s shut =
    let threads : sum_by (weights_of s.machine) s.threads ≡ 0 = ap (sum_by (weights_of s.machine)) shut.no_threads in
    let all : weights_of s.machine s.ops ≡ 0 = ap (weights_of s.machine) shut.no_ops in
    record {
      ops = subst (λ (xs : List Op). MakeNamed s.names xs) (sym shut.no_ops) (All-nil _);
      threads = subst (λ (xs : List (List Op)). AllMakeNamed s.names xs) (sym shut.no_threads) (All-nil _);
      phases = shut.phases;
      weight = omega (arith, shut.weight, threads, all);
      early = λ h. absurd cc;
      closed = λ h. shut.no_ops;
    }

-- a place with an order, or one in a thread
pub IsTold-moved : (s : ReaderState) (place : LinePosition) (order : List ℕ) → is_early place ≡ false → s.ops ≡ [] → IsTallied s → IsTold (record s { place = place; order = order })
IsTold-moved s place order late none told = record {
  ops = told.ops;
  threads = told.threads;
  phases = told.phases;
  weight = told.weight;
  early = λ h. absurd cc;
  closed = λ h. none;
}
