-- Each line keeps the counts of commands and uses, and that the machines are of its kind.
use Rattle.std.proofs.Common.{◌≡◌, ℕ, ◌/◌, Bool, true, false, not, cond, ◌&&◌, eqb, ltb, List, [], ◌∷◌, length, map, Ok, IfOk, refl, ap, ◌∙◌, codes}
use Rattle.std.specs.List.{list_any, range_with_len}
use Rattle.std.proofs.lemmas.Bool.{not-false}
use Rattle.std.proofs.lemmas.List.{length-map}
use Rattle.std.proofs.lemmas.List.FromFn.{length-range_with_len}
use Rattle.lackey_text.specs.Lines.{line_of}
use Rattle.lackey_text.specs.declared.uses.LineUse.{LineUse}
use Rattle.line_words.specs.Lines.{behind_word, is_bad, is_comment, words}
use Rattle.pair_text.specs.declared.op.PairOp.TheVariants as ops
use Rattle.pair_text.proofs.Readiness.{IfOk-bind, IfOk-fault_if, IfOk-or_fault}
use Rattle.pair_text.specs.Kinds.{is_start, may_stand, pair_kind_of}
use Rattle.pair_text.specs.PairKeys.{machines_of}
use Rattle.pair_text.specs.PairLines.{PairState, file_alone, group_alone, in_body, is_end, line_meaning, means, placed_line, plain_line, said_by, trace_line, traced, use_at, use_in, with_uses, word_means}
use Rattle.pair_text.specs.PairPaths.{file_at, or_long}
use Rattle.pair_text.specs.declared.kind.Kind.{Kind}
use Rattle.pair_text.specs.declared.kind.Kind.TheVariants as kinds
use Rattle.pair_text.specs.declared.kind.PairKind.{PairKind}
use Rattle.pair_text.specs.declared.kind.Place.{Place}
use Rattle.pair_text.specs.declared.kind.Place.TheVariants as places
use Rattle.pair_text.proofs.CountedOps.{IsCounted, AreOfKind-machines_of, AreOfKind-begun, begun-not, begun-tasks, IsCounted-with_command, no_commands, IsCounted-with_uses, IsCounted-at}
use Rattle.rc_base.specs.Faults.{◌>>=◌}
use Rattle.rc_base.specs.Texts.{is_text}
use Rattle.script_lines.specs.Arguments.{access_of, first_of, sweep_of, trace_of}
use Rattle.script_lines.specs.Escapes.{text_behind, unescaped}
use Rattle.script_lines.specs.Tasks.{count_of, declared, task_of}
use Rattle.script_lines.specs.declared.fault.LineFault.TheVariants.{BadArgument, BadByte, BadEscape, BadMachine, BadPath, BadTasks, NoMachine, OutOfPlace, TooLarge, UnknownTask, UnknownWord}

-- what a line of each kind leaves
IsCounted-means : (kind : PairKind) (line : Kind) (s : PairState) (rest : List ℕ) → may_stand line s.place ≡ true → IsCounted kind s → IfOk (means kind line s rest) (IsCounted kind)
unfolding means
IsCounted-means kind kinds.Machine s rest stands counted =
    IfOk-or_fault (IsCounted kind) (machines_of kind (words rest)) BadMachine _ (λ m e. record {
      commands = counted.commands;
      ops = counted.ops;
      few_commands = counted.few_commands;
      few_uses = counted.few_uses;
      machines = AreOfKind-machines_of kind (words rest) m e;
    })
IsCounted-means kind kinds.Tasks s rest stands counted =
    IfOk-or_fault (IsCounted kind) (declared s.tasks (words rest)) BadTasks _ (λ tasks e.
    IfOk-fault_if (IsCounted kind) (ltb 4096 (count_of tasks)) TooLarge _ (λ few. record {
      commands = counted.commands;
      ops = counted.ops;
      few_commands = counted.few_commands;
      few_uses = counted.few_uses;
      machines = AreOfKind-begun kind s (begun-tasks s.place stands) counted;
    }))
IsCounted-means kind kinds.Mkdir s rest stands counted = IfOk-bind (IsCounted kind) (group_alone rest) _ (λ name e. IsCounted-with_command kind s (ops.Mkdir name) (begun-not s.place stands) counted)
IsCounted-means kind kinds.Rmdir s rest stands counted = IfOk-bind (IsCounted kind) (group_alone rest) _ (λ name e. IsCounted-with_command kind s (ops.Rmdir name) (begun-not s.place stands) counted)
IsCounted-means kind kinds.Write s rest stands counted =
    IfOk-or_fault (IsCounted kind) (first_of (words rest)) BadArgument _ (λ word e.
    IfOk-or_fault (IsCounted kind) (or_long file_at word) BadPath _ (λ found e.
    IfOk-or_fault (IsCounted kind) (unescaped (text_behind rest)) BadEscape _ (λ text e.
    IfOk-fault_if (IsCounted kind) (ltb 4096 (length text)) TooLarge _ (λ few.
    IfOk-or_fault (IsCounted kind) found TooLarge _ (λ file e. IsCounted-with_command kind s (ops.Write file text) (begun-not s.place stands) counted)))))
IsCounted-means kind kinds.Read s rest stands counted = IfOk-bind (IsCounted kind) (file_alone rest) _ (λ file e. IsCounted-with_command kind s (ops.Read file) (begun-not s.place stands) counted)
IsCounted-means kind kinds.Flush s rest stands counted = IfOk-fault_if (IsCounted kind) (not (eqb (length (words rest)) 0)) BadArgument _ (λ none. IsCounted-with_command kind s ops.Flush (begun-not s.place stands) counted)
IsCounted-means kind kinds.Trace s rest stands counted =
    IfOk-or_fault (IsCounted kind) (trace_of s.machines.machine (words rest)) BadArgument _ (λ u e.
    IfOk-or_fault (IsCounted kind) (task_of s.tasks u.task) UnknownTask _ (λ task h. IsCounted-at kind s (places.Trace task u.cpu) refl (begun-not s.place stands) counted))
IsCounted-means kind kinds.Access s rest stands counted =
    IfOk-or_fault (IsCounted kind) (access_of s.machines.machine (words rest)) BadArgument _ (λ u e.
    IfOk-or_fault (IsCounted kind) (task_of s.tasks u.task) UnknownTask _ (λ task h.
    IsCounted-with_uses kind (in_body s) 1 (ops.Use task u.cpu (u.at / 64) false ∷ []) (IsCounted-at kind s places.Body refl (begun-not s.place stands) counted) refl refl))
IsCounted-means kind kinds.Sweep s rest stands counted =
    IfOk-or_fault (IsCounted kind) (sweep_of s.machines.machine (words rest)) BadArgument _ (λ w e.
    IfOk-or_fault (IsCounted kind) (task_of s.tasks w.first.task) UnknownTask _ (λ task h.
    IsCounted-with_uses kind (in_body s) w.count (map (use_at task w) (range_with_len 0 w.count)) (IsCounted-at kind s places.Body refl (begun-not s.place stands) counted)
    (length-map (range_with_len 0 w.count) (use_at task w) ∙ length-range_with_len 0 w.count) (no_commands (use_at task w) (λ i. refl) (range_with_len 0 w.count))))

-- a line that begins with a word
IsCounted-word_means : (kind : PairKind) (s : PairState) (word rest : List ℕ) → IsCounted kind s → IfOk (word_means kind s word rest) (IsCounted kind)
unfolding word_means
IsCounted-word_means kind s word rest counted =
    IfOk-fault_if (IsCounted kind) (is_start s.place && not (is_text word (codes "machine"))) NoMachine _ (λ begun.
    IfOk-or_fault (IsCounted kind) (pair_kind_of kind word) UnknownWord _ (λ line e.
    IfOk-fault_if (IsCounted kind) (not (may_stand line s.place)) OutOfPlace _ (λ stands. IsCounted-means kind line s rest (not-false (may_stand line s.place) stands) counted)))

-- a line outside a trace
IsCounted-plain_line : (kind : PairKind) (s : PairState) (line : List ℕ) → IsCounted kind s → IfOk (plain_line kind s line) (IsCounted kind)
IsCounted-plain_line kind s line counted = at (is_comment line)
  where
    said : (ws : List (List ℕ)) (rest : List ℕ) → IfOk (said_by kind s ws rest) (IsCounted kind)
    said [] rest = counted
    said (w ∷ ws) rest = IsCounted-word_means kind s w rest counted

    at : (b : Bool) → IfOk (cond b (Ok s) (said_by kind s (words line) (behind_word line))) (IsCounted kind)
    at true = counted
    at false = said (words line) (behind_word line)

-- a line of a trace
IsCounted-trace_line : (kind : PairKind) (s : PairState) (task cpu : ℕ) (line : List ℕ) → is_start s.place ≡ false → IsCounted kind s → IfOk (trace_line s task cpu line) (IsCounted kind)
unfolding trace_line
IsCounted-trace_line kind s task cpu line begun counted = at (is_end (words line))
  where
    at : (b : Bool) → IfOk (cond b (Ok (in_body s)) (traced (line_of line) >>= λ uses. with_uses s (length uses) (map (use_in task cpu) uses))) (IsCounted kind)
    at true = IsCounted-at kind s places.Body refl begun counted
    at false = IfOk-bind (IsCounted kind) (traced (line_of line)) _ (λ uses h.
        IsCounted-with_uses kind s (length uses) (map (use_in task cpu) uses) counted (length-map uses (use_in task cpu)) (no_commands (use_in task cpu) (λ (a : LineUse). refl) uses))

-- a line
pub IsCounted-line_meaning : (kind : PairKind) (s : PairState) (line : List ℕ) → IsCounted kind s → IfOk (line_meaning kind s line) (IsCounted kind)
unfolding line_meaning
IsCounted-line_meaning kind s line counted = IfOk-fault_if (IsCounted kind) (list_any is_bad line) BadByte _ (λ good. at s.place refl)
  where
    at : (p : Place) → s.place ≡ p → IfOk (placed_line kind p s line) (IsCounted kind)
    at places.Start e = IsCounted-plain_line kind s line counted
    at places.Head e = IsCounted-plain_line kind s line counted
    at places.Body e = IsCounted-plain_line kind s line counted
    at (places.Trace task cpu) e = IsCounted-trace_line kind s task cpu line (ap is_start e) counted
