-- A script whose lines keep what the lines before keep to is lawful.
use Rattle.std.proofs.Common.{◌≡◌, ℕ, ◌+◌, true, List, [], ◌∷◌, get_or, Result, Ok, Err, IfOk, refl, subst, arith}
use Rattle.std.proofs.lemmas.List.Elements.{All-nil}
use Rattle.machine.proofs.laws.Ranges.{is_machine-true}
use Rattle.machine.specs.Ranges.{is_machine, usual}
use Rattle.pair_text.specs.Values.{Fits, IsLawful, PairScriptValue}
use Rattle.pair_text.specs.declared.op.PairOp.{PairOp}
use Rattle.pair_text.specs.declared.op.PairOp.TheVariants as ops
use Rattle.pair_text.specs.PairLines.{PairState, line_meaning, traced}
use Rattle.pair_text.specs.declared.fault.PairFault.{PairFault}
use Rattle.pair_text.specs.declared.kind.PairKind.{PairKind}
use Rattle.pair_text.specs.declared.kind.Place.{Place}
use Rattle.pair_text.specs.declared.kind.Place.TheVariants as places
use Rattle.script_lines.proofs.laws.TaskRanges.{IsStrictlyIncreasing-ids_of, length-ids_of}
use Rattle.std.specs.Str.Lines.{lines}
use Rattle.pair_text.specs.declared.fault.PairError.{PairError}
use Rattle.pair_text.specs.PairReading.{PairFaultAt, Reads, after_line, finished, finished_at, nothing_read, pair_script_of, reading_from, script_in}
use lib.Count.{ones}
use Rattle.script_lines.specs.Tasks.{ids_of}
use Rattle.pair_text.proofs.Readiness.{FitsAt, IsReady}
use Rattle.pair_text.proofs.ReadyLines.{IsReady-line_meaning}

is_machine-usual : is_machine usual ≡ true
unfolding is_machine ones
is_machine-usual = refl

-- before the first line
pub IsReady-nothing_read : IsReady nothing_read
IsReady-nothing_read = record {
  machines = record { in_range = is_machine-true usual is_machine-usual; one_slice = refl; some_class = omega arith; below = tt };
  tasks = tt;
  few_tasks = omega arith;
  fit = All-nil (FitsAt 1 []);
  traced = tt;
  bare = λ h. refl;
}

-- what fits the state fits the script
fits-script : (s : PairState) (op : PairOp) → FitsAt s.machines.machine.cpus (ids_of s.tasks) op → Fits (script_in s) op
fits-script s (ops.Mkdir name) h = h
fits-script s (ops.Rmdir name) h = tt
fits-script s (ops.Write file text) h = tt
fits-script s (ops.Read file) h = tt
fits-script s ops.Flush h = tt
fits-script s (ops.Use task cpu line code) h = h

IsLawful-script_in : (s : PairState) → IsReady s → IsLawful (script_in s)
IsLawful-script_in s ready = record {
  machines = ready.machines;
  rising = IsStrictlyIncreasing-ids_of s.tasks ready.tasks;
  few_tasks = omega (arith, length-ids_of s.tasks, ready.few_tasks);
  fit = λ k d h. fits-script s (get_or s.ops k d) (ready.fit k d h);
}

IsLawful-finished : (n : ℕ) (s : PairState) → IsReady s → IfOk (finished n s) IsLawful
IsLawful-finished n s ready = at s.place
  where
    at : (p : Place) → IfOk (finished_at n p s) IsLawful
    at places.Start = tt
    at places.Head = IsLawful-script_in s ready
    at places.Body = IsLawful-script_in s ready
    at (places.Trace task cpu) = tt

pub IsLawful-reading_from : (kind : PairKind) (n : ℕ) (s : PairState) (all : List (List ℕ)) → IsReady s → IfOk (reading_from kind n s all) IsLawful
unfolding reading_from
IsLawful-reading_from kind n s [] ready = IsLawful-finished n s ready
IsLawful-reading_from kind n s (line ∷ all) ready = at (λ s' h. IsLawful-reading_from kind (n + 1) s' all h) (line_meaning kind s line) (IsReady-line_meaning kind s line ready)
  where
    at : ((s' : PairState) → IsReady s' → IfOk (reading_from kind (n + 1) s' all) IsLawful) → (r : Result PairState PairFault) → IfOk r IsReady → IfOk (after_line (n + 1) r (λ s'. reading_from kind (n + 1) s' all)) IsLawful
    at rec (Ok s') h = rec s' h
    at rec (Err e) h = tt

-- what is read is lawful
pub Reads-lawful : (kind : PairKind) (text : List ℕ) (r : Result PairScriptValue PairError) → Reads r (pair_script_of kind text) → IfOk r IsLawful
Reads-lawful kind text (Ok s) e = subst (λ (r : Result PairScriptValue PairFaultAt). IfOk r IsLawful) e (IsLawful-reading_from kind 0 nothing_read (lines text) IsReady-nothing_read)
Reads-lawful kind text (Err e) h = tt

pub ruleset lawful = (Reads-lawful)
