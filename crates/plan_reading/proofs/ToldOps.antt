-- What holds after one op more.
use Rattle.std.proofs.Common.{◌≡◌, ℕ, ◌+◌, Bool, true, false, cond, ltb, List, [], ◌∷◌, ◌++◌, length, map, Option, Some, None, Ok, Err, IfOk, refl, ap, ◌∙◌, arith}
use Rattle.std.specs.Prelude.{option_map}
use Rattle.std.specs.Option.{ok_or}
use Rattle.std.proofs.lemmas.List.Elements.{All-nil, All-append, All-push}
use Rattle.std.proofs.lemmas.List.Sums.{sum_by-append, sum_by-cons}
use Rattle.rc_base.specs.Faults.{◌>>=◌}
use Rattle.machine.specs.declared.parameters.Parameters.{Parameters}
use Rattle.path_names.proofs.laws.ShortNames.{Keeps-path_of}
use Rattle.path_names.specs.Interned.{Keeps}
use Rattle.path_names.specs.Reading.{path_of}
use Rattle.path_names.specs.declared.path_ref.PathRef.{PathRef}
use Rattle.script_lines.specs.Arguments.{drop_line_of, drop_region_of, only}
use Rattle.script_lines.specs.Paths.{Named, named}
use Rattle.script_lines.specs.declared.arguments.Sweep.{Sweep}
use Rattle.script_lines.specs.declared.fault.LineFault.TheVariants.{BadArgument, BadPath, TooLarge}
use Rattle.line_words.specs.Lines.{words}
use Rattle.script_ops.specs.Values.{threads_in}
use Rattle.script_ops.specs.Weights.{weight_of, weights_of}
use Rattle.script_ops.specs.declared.limits.TheConstants.{MOST_PATH_BYTES, MOST_WEIGHT}
use Rattle.script_ops.specs.declared.op.Op.{Op}
use Rattle.script_ops.specs.declared.op.Op.TheVariants as ops
use Rattle.plan_reading.proofs.Guards.{IfOk-bind, IfOk-ok_or}
use Rattle.plan_reading.proofs.Places.{is_early-thread}
use Rattle.script_text.specs.Meaning.{access_at, drop_line, drop_region, named_in, path_alone, with_names, with_op, with_ops}
use Rattle.script_text.specs.States.{ReaderState, is_thread}
use Rattle.plan_reading.proofs.laws.GroupNames.{IsNamedPath, IsNamedPath-path_of}
use Rattle.plan_reading.proofs.Tallies.{MakesNamed, MakeNamed, MakeNamed-kept, AllMakeNamed-kept, IsTold, IsTallied, tallied}

-- more ops in the open thread
pub IsTold-with_ops : (s : ReaderState) (weight : ℕ) (new : List Op) → is_thread s.place ≡ true → IsTallied s → MakeNamed s.names new → weights_of s.machine new ≡ weight → IfOk (with_ops s weight new) IsTold
IsTold-with_ops s weight new thread told each weighs = at (ltb MOST_WEIGHT (s.weight + weight))
  where
    more : ReaderState
    more = record s { ops = s.ops ++ new; weight = s.weight + weight }

    more_told : IsTold more
    more_told = record {
      ops = All-append (MakesNamed s.names) s.ops new told.ops each;
      threads = told.threads;
      phases = told.phases;
      weight = omega (arith, told.weight, weighs, sum_by-append (weight_of s.machine) s.ops new);
      early = λ h. absurd (let late = is_early-thread s.place thread in cc);
      closed = λ h. absurd cc;
    }

    at : (b : Bool) → IfOk (cond b (Err TooLarge) (Ok more)) IsTold
    at true = tt
    at false = more_told

-- one op more
pub IsTold-with_op : (s : ReaderState) (op : Op) → is_thread s.place ≡ true → IsTallied s → MakesNamed s.names op → IfOk (with_op s op) IsTold
IsTold-with_op s op thread told makes =
    IsTold-with_ops s (weight_of s.machine op) (op ∷ []) thread told (All-push (MakesNamed s.names) [] op (All-nil (MakesNamed s.names)) makes) (omega (arith, sum_by-cons (weight_of s.machine) op []))

-- more names
IsTallied-with_names : (s : ReaderState) (names : List (List ℕ)) → Keeps s.names names → IsTallied s → IsTallied (with_names s names)
IsTallied-with_names s names kept told = record {
  ops = MakeNamed-kept s.names names s.ops kept told.ops;
  threads = AllMakeNamed-kept s.names names s.threads kept told.threads;
  phases = AllMakeNamed-kept s.names names (threads_in s.phases) kept told.phases;
  weight = told.weight;
}

-- a word that names a path keeps the names, and a group in it has a name
abbrev AddsNamed : List (List ℕ) → Named → Type 0
AddsNamed names p = Keeps names p.1 × IsNamedPath p.1 p.0

pub AddsNamed-named : (domains : ℕ) (names : List (List ℕ)) (word : List ℕ) (p : Named) → named domains names word ≡ Some (Some p) → AddsNamed names p
AddsNamed-named domains names word p read = at (ltb MOST_PATH_BYTES (length word)) (path_of domains names word) refl read
  where
    at : (long : Bool) (found : Option Named) → path_of domains names word ≡ found → cond long (Some None) (option_map (λ q. Some q) found) ≡ Some (Some p) → AddsNamed names p
    at true found is e = absurd cc
    at false None is e = absurd cc
    at false (Some q) is e =
        let same : path_of domains names word ≡ Some (p.0, p.1) = cc in
        (Keeps-path_of domains names word p.0 p.1 same, IsNamedPath-path_of domains names word p.0 p.1 same)

-- the same of the only word of a line
AddsNamed-path_alone : (s : ReaderState) (rest : List ℕ) (p : Named) → path_alone s rest ≡ Ok p → AddsNamed s.names p
unfolding path_alone
AddsNamed-path_alone s rest p read = at (only (words rest)) read
  where
    found_at : (found : Option (Option Named)) → (found ≡ Some (Some p) → AddsNamed s.names p) → (ok_or found BadPath >>= λ f. ok_or f TooLarge) ≡ Ok p → AddsNamed s.names p
    found_at None good e = absurd cc
    found_at (Some None) good e = absurd cc
    found_at (Some (Some q)) good e = good cc

    at : (word : Option (List ℕ)) → (ok_or word BadArgument >>= λ w. ok_or (named_in s w) BadPath >>= λ f. ok_or f TooLarge) ≡ Ok p → AddsNamed s.names p
    at None e = absurd cc
    at (Some word) e = found_at (named_in s word) (λ is. AddsNamed-named s.machine.domains s.names word p is) e

-- an op of a path more
pub IsTold-with_path : (s : ReaderState) (op : PathRef → Op) (p : Named) → is_thread s.place ≡ true → IsTold s → AddsNamed s.names p → ((path : PathRef) → IsNamedPath p.1 path → MakesNamed p.1 (op path)) → IfOk (with_op (with_names s p.1) (op p.0)) IsTold
IsTold-with_path s op p thread told adds makes =
    IsTold-with_op (with_names s p.1) (op p.0) thread (IsTallied-with_names s p.1 adds.0 (tallied s told)) (makes p.0 adds.1)

-- the same of the only path of a line
pub IsTold-path_alone : (s : ReaderState) (op : PathRef → Op) (rest : List ℕ) → is_thread s.place ≡ true → IsTold s → ((names : List (List ℕ)) (path : PathRef) → IsNamedPath names path → MakesNamed names (op path))
    → IfOk (path_alone s rest >>= λ p. with_op (with_names s p.1) (op p.0)) IsTold
IsTold-path_alone s op rest thread told makes =
    IfOk-bind IsTold (path_alone s rest) _ (λ p e. IsTold-with_path s op p thread told (AddsNamed-path_alone s rest p e) (makes p.1))

-- after a `clflush`
pub IsTold-clflush : (s : ReaderState) (rest : List ℕ) (b : Bool) → is_thread s.place ≡ true → IsTold s → IfOk (cond b (drop_region s rest) (drop_line s rest)) IsTold
unfolding drop_region drop_line
IsTold-clflush s rest true stands told =
    IfOk-ok_or IsTold (drop_region_of (words rest)) BadArgument _ (λ t e.
    IfOk-ok_or IsTold (named_in s t.0) BadPath _ (λ found h.
    IfOk-ok_or IsTold found TooLarge _ (λ p i.
    IsTold-with_path s (λ path. ops.DropRegion path t.1) p stands told (AddsNamed-named s.machine.domains s.names t.0 p (h ∙ ap Some i)) (λ path is. tt))))
IsTold-clflush s rest false stands told =
    IfOk-ok_or IsTold (drop_line_of (words rest)) BadArgument _ (λ addr e. IsTold-with_op s (ops.DropLine addr) stands (tallied s told) tt)

-- the accesses of a sweep weigh one each
pub weights_of-accesses : (m : Parameters) (task : ℕ) (w : Sweep) (places : List ℕ) → weights_of m (map (access_at task w) places) ≡ length places
weights_of-accesses m task w [] = refl
weights_of-accesses m task w (i ∷ is) =
    let rest = weights_of-accesses m task w is in
    omega (arith, rest, sum_by-cons (weight_of m) (access_at task w i) (map (access_at task w) is))
