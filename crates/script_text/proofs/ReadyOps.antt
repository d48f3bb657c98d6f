-- What the lines so far keep to on their machine, with one op more.
use Rattle.std.proofs.Common.{◌≡◌, ℕ, ◌+◌, ◌≤◌, ◌++◌, Bool, true, false, cond, ltb, List, [], ◌∷◌, Some, Ok, Err, IfOk, refl, sym, ap, subst, ◌∙◌, arith, ltb-false}
use Rattle.std.proofs.lemmas.List.Elements.{All-nil, All-append, All-push}
use Rattle.std.proofs.lemmas.List.Sums.{sum_by-append}
use Rattle.rc_base.specs.Faults.{◌>>=◌}
use Rattle.path_names.specs.Domains.{IsWithin}
use Rattle.path_names.specs.declared.dirs.DirRef.TheVariants.{MonDomain}
use Rattle.path_names.specs.declared.path_ref.PathRef.{PathRef}
use Rattle.path_names.specs.declared.path_ref.PathRef.TheVariants.{File}
use Rattle.machine.specs.declared.parameters.Parameters.{Parameters}
use Rattle.script_lines.specs.declared.fault.LineFault.TheVariants.{BadArgument, BadPath, TooLarge}
use Rattle.script_ops.specs.declared.op.Op.{Op}
use Rattle.script_ops.specs.declared.op.Op.TheVariants as ops
use Rattle.script_lines.specs.Arguments.{drop_line_of, drop_region_of}
use Rattle.script_ops.specs.Fits.{Fits, AreFit}
use Rattle.line_words.specs.Lines.{words}
use Rattle.script_text.specs.Meaning.{path_alone, drop_line, drop_region, named_in, with_names, with_op, with_ops}
use Rattle.script_lines.specs.Paths.{Named}
use Rattle.script_text.specs.States.{ReaderState, is_thread, IsFit, IsReady, IsSound}
use Rattle.path_names.specs.ShortNames.{AreShort, component_ids}
use Rattle.script_ops.specs.Canonical.{AreAllShort, IsShort, op_component_ids}
use Rattle.script_text.proofs.PathNames.{AddsShort, AddsShort-named, path_of-path_alone}
use Rattle.script_lines.specs.Tasks.{ids_of}
use Rattle.script_ops.specs.Weights.{weight_of, weights_of}
use Rattle.script_text.proofs.Guards.{IfOk-ok_or, IfOk-bind}
use Rattle.script_text.proofs.Places.{is_early-thread}
use Rattle.script_text.proofs.FitOps.{IsFit-with_names}
use Rattle.script_lines.proofs.laws.Uses.{drop_line_of-fits}
use Rattle.script_ops.specs.declared.limits.TheConstants.{MOST_WEIGHT}

-- more ops in the open thread
pub IsReady-with_ops : (s : ReaderState) (weight : ℕ) (new : List Op) → is_thread s.place ≡ true → IsFit s → AreFit s.machine (ids_of s.tasks) new → AreAllShort s.names new → weights_of s.machine new ≤ weight → IfOk (with_ops s weight new) IsReady
IsReady-with_ops s weight new thread fit each short light = at (ltb MOST_WEIGHT (s.weight + weight)) refl
  where
    more : ReaderState
    more = record s { ops = s.ops ++ new; weight = s.weight + weight }

    more_ready : s.weight + weight ≤ MOST_WEIGHT → IsReady more
    more_ready few = record {
      bare = λ h. absurd (is_early-thread s.place thread h);
      fit = record {
        few_tasks = fit.few_tasks;
        ops = All-append (Fits s.machine (ids_of s.tasks)) s.ops new fit.ops each;
        threads = fit.threads;
        phases = fit.phases;
        short_ops = All-append (IsShort s.names) s.ops new fit.short_ops short;
        short_threads = fit.short_threads;
        short_phases = fit.short_phases;
        light = omega (arith, fit.light, light, sum_by-append (weight_of s.machine) s.ops new);
        counted = few;
      };
    }

    at : (b : Bool) → ltb MOST_WEIGHT (s.weight + weight) ≡ b → IfOk (cond b (Err TooLarge) (Ok more)) IsReady
    at true e = tt
    at false e = more_ready (ltb-false _ _ e)

-- one op more
pub IsReady-with_op : (s : ReaderState) (op : Op) → is_thread s.place ≡ true → IsFit s → Fits s.machine (ids_of s.tasks) op → IsShort s.names op → IfOk (with_op s op) IsReady
IsReady-with_op s op thread fit fits short =
    let each = All-push (Fits s.machine (ids_of s.tasks)) [] op (All-nil (Fits s.machine (ids_of s.tasks))) fits in
    IsReady-with_ops s (weight_of s.machine op) (op ∷ []) thread fit each (All-push (IsShort s.names) [] op (All-nil (IsShort s.names)) short) (omega arith)

-- an op of a path more
pub IsReady-with_path : (s : ReaderState) (op : PathRef → Op) (p : Named) → is_thread s.place ≡ true → IsSound s → IsFit s → AddsShort s.names p
    → Fits s.machine (ids_of s.tasks) (op p.0) → ((path : PathRef) → op_component_ids (op path) ≡ component_ids path) → IfOk (with_op (with_names s p.1) (op p.0)) IsReady
IsReady-with_path s op p thread sound fit adds fits same =
    IsReady-with_op (with_names s p.1) (op p.0) thread (IsFit-with_names s p.1 adds.0 sound fit) fits (subst (λ (ids : List ℕ). AreShort p.1 ids) (sym (same p.0)) adds.1)

-- the same of the only path of a line
pub IsReady-path_alone : (s : ReaderState) (op : PathRef → Op) (rest : List ℕ) → is_thread s.place ≡ true → IsSound s → IsFit s
    → ((path : PathRef) → IsWithin s.machine.domains path → Fits s.machine (ids_of s.tasks) (op path)) → ((path : PathRef) → op_component_ids (op path) ≡ component_ids path) → IfOk (path_alone s rest >>= λ p. with_op (with_names s p.1) (op p.0)) IsReady
IsReady-path_alone s op rest thread sound fit fits same =
    IfOk-bind IsReady (path_alone s rest) _ (λ p e. let found = path_of-path_alone s rest p e in
    IsReady-with_path s op p thread sound fit found.1 (fits p.0 found.0) same)

-- a file that is read is of a domain that exists
pub Fits-Read : (m : Parameters) (tasks : List ℕ) (path : PathRef) → IsWithin m.domains path → Fits m tasks (ops.Read path)
Fits-Read m tasks (File (MonDomain holder domain) kind) within = within
Fits-Read m tasks path within = tt

-- after a `clflush`, by whether it names a path
pub IsReady-clflush : (s : ReaderState) (rest : List ℕ) (b : Bool) → is_thread s.place ≡ true → IsSound s → IsReady s → IfOk (cond b (drop_region s rest) (drop_line s rest)) IsReady
unfolding drop_region drop_line
IsReady-clflush s rest true stands sound ready =
    IfOk-ok_or IsReady (drop_region_of (words rest)) BadArgument _ (λ t e.
    IfOk-ok_or IsReady (named_in s t.0) BadPath _ (λ found h.
    IfOk-ok_or IsReady found TooLarge _ (λ p i.
    IsReady-with_path s (λ path. ops.DropRegion path t.1) p stands sound ready.fit (AddsShort-named s.machine.domains s.names t.0 p (h ∙ ap Some i)) tt (λ path. refl))))
IsReady-clflush s rest false stands sound ready =
    IfOk-ok_or IsReady (drop_line_of (words rest)) BadArgument _ (λ addr e. IsReady-with_op s (ops.DropLine addr) stands ready.fit (drop_line_of-fits (words rest) addr e) (All-nil _))
