-- Threads in phases.
use Rattle.std.proofs.Common.{◌≡◌, ℕ, zero, suc, ◌+◌, ◌<◌, ◌≤◌, List, [], ◌∷◌, length, take, get_or, All, IfSome, refl, ◌∙◌, arith}
use Rattle.std.specs.Prelude.{slice_get}
use Rattle.std.proofs.lemmas.List.{get_or_append_left, get_or-append-add, length-append}
use Rattle.std.proofs.lemmas.List.Elements.{All-nil, All-head, All-tail}
use Rattle.std.proofs.lemmas.List.Folds.{length-flat_map-take}
use Rattle.script_ops.specs.declared.op.Op.{Op}
use Rattle.script_ops.specs.Values.{PhaseValue, threads_in}

-- a thread by its number is one of its phase
pub get_or-threads_in : (phases : List PhaseValue) (i left thread : ℕ) (d : PhaseValue) (e : List Op) → i < length phases → left + length (threads_in (take i phases)) ≡ thread → left < length (get_or phases i d).threads → get_or (threads_in phases) thread e ≡ get_or (get_or phases i d).threads left e
get_or-threads_in [] i left thread d e h s n = absurd (omega arith)
get_or-threads_in (p ∷ ps) zero left thread d e h s n =
    let same : thread ≡ left = omega arith in
    rw same (get_or_append_left p.threads (threads_in ps) e left n)
get_or-threads_in (p ∷ ps) (suc i) left thread d e h s n =
    let rest = left + length (threads_in (take i ps)) in
    let here : thread ≡ length p.threads + rest = omega (arith, length-append p.threads (threads_in (take i ps))) in
    rw here (get_or-append-add p.threads (threads_in ps) rest e ∙ get_or-threads_in ps i left rest d e (omega arith) refl n)

-- the threads of a phase stand among all
pub length-threads_in : (phases : List PhaseValue) (i : ℕ) (d : PhaseValue) → i < length phases → length (threads_in (take i phases)) + length (get_or phases i d).threads ≤ length (threads_in phases)
length-threads_in phases i d h = length-flat_map-take (λ (p : PhaseValue). p.threads) phases i d h

-- no ops stand after the last thread
pub get_or-no_thread : (threads : List (List Op)) (thread : ℕ) → length threads ≤ thread → get_or threads thread [] ≡ []
get_or-no_thread [] thread h = refl
get_or-no_thread (t ∷ ts) zero h = absurd (omega arith)
get_or-no_thread (t ∷ ts) (suc thread) h = get_or-no_thread ts thread (omega arith)

pub ruleset counting = (length-threads_in)

pub ruleset finding = (get_or-threads_in, get_or-no_thread)

module _ (P : Op → Type 0) where
  -- what is true of all ops of all threads is true of those of one
  pub All-get_or : (threads : List (List Op)) (thread : ℕ) → All (λ ops. All P ops) threads → All P (get_or threads thread [])
  All-get_or [] thread all = All-nil P
  All-get_or (t ∷ ts) zero all = All-head (λ ops. All P ops) t ts all
  All-get_or (t ∷ ts) (suc thread) all = All-get_or ts thread (All-tail (λ ops. All P ops) t ts all)

  -- and of one op that is found
  pub IfSome-slice_get : (ops : List Op) (i : ℕ) → All P ops → IfSome (slice_get ops i) P
  IfSome-slice_get [] i all = tt
  IfSome-slice_get (o ∷ os) zero all = All-head P o os all
  IfSome-slice_get (o ∷ os) (suc i) all = IfSome-slice_get os i (All-tail P o os all)
