-- What holds after good lines: the groups that commands make have names, the weight is that of the ops, and what is closed is empty.
use Rattle.std.proofs.Common.{◌≡◌, ℕ, Bool, true, false, cond, not, ◌&&◌, eqb, ltb, leb, List, [], ◌∷◌, length, Some, Ok, IfOk, refl, ap, ◌∙◌}
use Rattle.std.specs.Prelude.{codes}
use Rattle.std.specs.List.{list_any, range_with_len}
use Rattle.std.proofs.lemmas.List.Elements.{All-map}
use Rattle.std.proofs.lemmas.List.FromFn.{length-range_with_len}
use Rattle.rc_base.specs.Texts.{is_text}
use Rattle.script_lines.specs.Arguments.{access_of, flush_of, sweep_of, touch_of, has_path, order_of, first_of}
use Rattle.script_lines.specs.Escapes.{text_behind, unescaped}
use Rattle.script_lines.specs.Keys.{machine_of}
use Rattle.script_lines.specs.Tasks.{count_of, declared, task_of}
use Rattle.script_lines.specs.declared.arguments.Sweep.{Sweep}
use Rattle.script_lines.specs.declared.fault.LineFault.TheVariants.{BadByte, NoMachine, UnknownWord, OutOfPlace, BadMachine, BadTasks, BadArgument, BadPath, UnknownTask, BadEscape, TooLarge}
use Rattle.line_words.specs.Lines.{behind_word, is_bad, is_comment, words}
use Rattle.script_ops.specs.declared.limits.TheConstants.{MOST_ORDER, MOST_PHASES, MOST_PHASE_THREADS, MOST_TASKS, MOST_TEXT_BYTES}
use Rattle.script_ops.specs.declared.op.Op.TheVariants as ops
use Rattle.plan_reading.proofs.Guards.{IfOk-fault_if, IfOk-ok_or}
use Rattle.plan_reading.proofs.Places.{is_early-machine, is_early-tasks, is_thread-order}
use Rattle.script_text.specs.Kinds.{kind_of, may_stand}
use Rattle.script_text.specs.Meaning.{access_at, line_meaning, means, named_in, said_by, says, sweep_ops, word_means}
use Rattle.script_text.specs.States.{ReaderState, close_phase, close_thread, is_start}
use Rattle.script_text.specs.declared.kind.Kind.{Kind}
use Rattle.script_text.specs.declared.kind.Kind.TheVariants as kinds
use Rattle.script_text.specs.declared.kind.LinePosition.TheVariants as places
use Rattle.plan_reading.proofs.Tallies.{MakesNamed, IsTold, tallied, IsTold-no_ops, IsTallied-close_thread, no_ops-close_thread, IsShut-close_phase, IsTold-opened, IsTold-moved}
use Rattle.plan_reading.proofs.ToldOps.{IsTold-with_ops, IsTold-with_op, AddsNamed-named, IsTold-with_path, IsTold-path_alone, IsTold-clflush, weights_of-accesses}

-- after a line of any kind
IsTold-means : (k : Kind) (s : ReaderState) (rest : List ℕ) → may_stand k s.place ≡ true → IsTold s → IfOk (means k s rest) IsTold
unfolding means
IsTold-means kinds.Machine s rest stands told =
    IfOk-ok_or IsTold (machine_of (words rest)) BadMachine _ (λ m e. IsTold-no_ops s (record s { place = places.Head; machine = m }) (told.early (is_early-machine s.place stands)) told refl refl refl refl refl)
IsTold-means kinds.Tasks s rest stands told =
    IfOk-ok_or IsTold (declared s.tasks (words rest)) BadTasks _ (λ tasks e.
    IfOk-fault_if IsTold (ltb MOST_TASKS (count_of tasks)) TooLarge _ (λ few. IsTold-no_ops s (record s { tasks = tasks }) (told.early (is_early-tasks s.place stands)) told refl refl refl refl refl))
IsTold-means kinds.Phase s rest stands told =
    IfOk-fault_if IsTold (not (eqb (length (words rest)) 0)) BadArgument _ (λ a. IfOk-fault_if IsTold (leb MOST_PHASES (length (close_phase s).phases)) TooLarge _ (λ b. IsTold-opened (close_phase s) (IsShut-close_phase s told)))
IsTold-means kinds.Order s rest stands told =
    IfOk-ok_or IsTold (order_of (words rest)) BadArgument _ (λ numbers e. IfOk-fault_if IsTold (ltb MOST_ORDER (length numbers)) TooLarge _ (λ a.
    IsTold-moved s places.Ordered numbers refl (told.closed (is_thread-order s.place stands)) (tallied s told)))
IsTold-means kinds.Thread s rest stands told =
    IfOk-fault_if IsTold (not (eqb (length (words rest)) 0)) BadArgument _ (λ a. IfOk-fault_if IsTold (leb MOST_PHASE_THREADS (length (close_thread s).threads)) TooLarge _ (λ b.
    IsTold-moved (close_thread s) places.Thread (close_thread s).order refl (no_ops-close_thread s told.closed) (IsTallied-close_thread s (tallied s told))))
IsTold-means kinds.Mkdir s rest stands told = IsTold-path_alone s (λ path. ops.Mkdir path) rest stands told (λ names path is. is)
IsTold-means kinds.Rmdir s rest stands told = IsTold-path_alone s (λ path. ops.Rmdir path) rest stands told (λ names path is. tt)
IsTold-means kinds.Read s rest stands told = IsTold-path_alone s (λ path. ops.Read path) rest stands told (λ names path is. tt)
IsTold-means kinds.List s rest stands told = IsTold-path_alone s (λ path. ops.List path) rest stands told (λ names path is. tt)
IsTold-means kinds.Write s rest stands told =
    IfOk-ok_or IsTold (first_of (words rest)) BadArgument _ (λ word e.
    IfOk-ok_or IsTold (named_in s word) BadPath _ (λ found h.
    IfOk-ok_or IsTold (unescaped (text_behind rest)) BadEscape _ (λ text g.
    IfOk-ok_or IsTold found TooLarge _ (λ p i.
    IfOk-fault_if IsTold (ltb MOST_TEXT_BYTES (length text)) TooLarge _ (λ short.
    IsTold-with_path s (λ path. ops.Write path text) p stands told (AddsNamed-named s.machine.domains s.names word p (h ∙ ap Some i)) (λ path is. tt))))))
IsTold-means kinds.Flush s rest stands told = IfOk-ok_or IsTold (flush_of s.machine (words rest)) BadArgument _ (λ domain e. IsTold-with_op s (ops.Flush domain) stands (tallied s told) tt)
IsTold-means kinds.Tick s rest stands told = IfOk-fault_if IsTold (not (eqb (length (words rest)) 0)) BadArgument _ (λ a. IsTold-with_op s ops.Tick stands (tallied s told) tt)
IsTold-means kinds.Clflush s rest stands told = IsTold-clflush s rest (has_path (words rest)) stands told
IsTold-means kinds.Access s rest stands told =
    IfOk-ok_or IsTold (access_of s.machine (words rest)) BadArgument _ (λ u e.
    IfOk-ok_or IsTold (task_of s.tasks u.task) UnknownTask _ (λ task h. IsTold-with_op s (ops.Access task u.cpu u.at) stands (tallied s told) tt))
IsTold-means kinds.Sweep s rest stands told =
    IfOk-ok_or IsTold (sweep_of s.machine (words rest)) BadArgument _ (λ w e.
    IfOk-ok_or IsTold (task_of s.tasks w.first.task) UnknownTask _ (λ task h.
    IsTold-with_ops s w.count (sweep_ops task w) stands (tallied s told) (All-map (MakesNamed s.names) (access_at task w) (range_with_len 0 w.count) (λ k d within. tt))
    (weights_of-accesses s.machine task w (range_with_len 0 w.count) ∙ length-range_with_len 0 w.count)))
IsTold-means kinds.Touch s rest stands told =
    IfOk-ok_or IsTold (touch_of s.machine (words rest)) BadArgument _ (λ t e.
    IfOk-ok_or IsTold (named_in s t.0) BadPath _ (λ found h.
    IfOk-ok_or IsTold (task_of s.tasks t.1.task) UnknownTask _ (λ task g.
    IfOk-ok_or IsTold found TooLarge _ (λ p i.
    IsTold-with_path s (λ path. ops.Touch t.1.cpu path task t.1.at) p stands told (AddsNamed-named s.machine.domains s.names t.0 p (h ∙ ap Some i)) (λ path is. tt)))))

-- after any words
IsTold-said_by : (s : ReaderState) (words : List (List ℕ)) (rest : List ℕ) → IsTold s → IfOk (said_by s words rest) IsTold
unfolding word_means
IsTold-said_by s [] rest told = told
IsTold-said_by s (word ∷ words) rest told =
    IfOk-fault_if IsTold (is_start s.place && not (is_text word (codes "machine"))) NoMachine _ (λ a.
    IfOk-ok_or IsTold (kind_of word) UnknownWord _ (λ k e.
    IfOk-fault_if IsTold (not (may_stand k s.place)) OutOfPlace _ (λ b. IsTold-means k s rest (stands (may_stand k s.place) b) told)))
  where
    stands : (b : Bool) → not b ≡ false → b ≡ true
    stands true e = refl
    stands false e = absurd cc

-- after any good line
pub IsTold-line_meaning : (s : ReaderState) (line : List ℕ) → IsTold s → IfOk (line_meaning s line) IsTold
unfolding line_meaning
IsTold-line_meaning s line told = IfOk-fault_if IsTold (list_any is_bad line) BadByte _ (λ a. at (is_comment line))
  where
    at : (b : Bool) → IfOk (cond b (Ok s) (says s line)) IsTold
    at true = told
    at false = IsTold-said_by s (words line) (behind_word line) told
