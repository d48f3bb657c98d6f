-- What the lines so far keep to on their machine, whatever the next line says.
use Rattle.std.proofs.Common.{◌≡◌, ℕ, ◌≤◌, Bool, true, false, cond, not, ◌&&◌, eqb, ltb, leb, List, [], ◌∷◌, length, Some, Result, Ok, IfOk, refl, ap, subst, ◌∙◌, arith, ltb-false}
use Rattle.std.specs.List.{list_any}
use Rattle.std.proofs.lemmas.List.Elements.{All-nil}
use Rattle.rc_base.specs.Texts.{is_text}
use Rattle.std.specs.Prelude.{codes}
use Rattle.script_lines.specs.declared.fault.LineFault.{LineFault}
use Rattle.script_lines.specs.declared.fault.LineFault.TheVariants.{BadByte, NoMachine, UnknownWord, OutOfPlace, BadMachine, BadTasks, BadArgument, BadPath, UnknownTask, BadEscape, TooLarge}
use Rattle.script_ops.specs.declared.op.Op.TheVariants as ops
use Rattle.script_text.specs.declared.kind.Kind.{Kind}
use Rattle.script_text.specs.declared.kind.Kind.TheVariants as kinds
use Rattle.script_text.specs.declared.kind.LinePosition.{LinePosition}
use Rattle.script_text.specs.declared.kind.LinePosition.TheVariants as places
use Rattle.script_lines.specs.Arguments.{access_of, flush_of, sweep_of, touch_of, has_path, order_of, first_of}
use Rattle.script_lines.specs.Escapes.{unescaped, text_behind}
use Rattle.script_lines.specs.Keys.{machine_of}
use Rattle.script_text.specs.Kinds.{kind_of, may_stand}
use Rattle.line_words.specs.Lines.{is_bad, is_comment, words, behind_word}
use Rattle.script_text.specs.Meaning.{Means, means, named_in, word_means, said_by, says, line_meaning, sweep_ops}
use Rattle.script_text.specs.Reading.{nothing_read}
use Rattle.script_text.specs.States.{ReaderState, close_thread, close_phase, is_start, is_early, IsFit, IsReady, IsSound}
use Rattle.script_text.proofs.PathNames.{AddsShort-named}
use Rattle.script_lines.specs.Tasks.{declared, task_of, count_of, ids_of}
use Rattle.script_text.proofs.Guards.{IfOk-fault_if, IfOk-ok_or}
use Rattle.script_text.proofs.Places.{is_early-thread, is_early-machine, is_early-tasks}
use Rattle.script_text.proofs.FitOps.{IsFit-no_ops, IsFit-close_thread, IsFit-close_phase}
use Rattle.script_text.proofs.SweepOps.{AreFit-sweep_ops, weights_of-sweep_ops, AreAllShort-sweep_ops}
use Rattle.script_text.proofs.ReadyOps.{IsReady-with_ops, IsReady-with_op, IsReady-with_path, IsReady-path_alone, Fits-Read, IsReady-clflush}
use Rattle.script_lines.proofs.laws.Uses.{access_of-fits, flush_of-fits, touch_of-fits, task_of-declared}
use Rattle.script_ops.specs.declared.limits.TheConstants.{MOST_WEIGHT, MOST_TASKS, MOST_TEXT_BYTES, MOST_ORDER, MOST_PHASES, MOST_PHASE_THREADS}

-- the same before the first phase
IsReady-no_ops : (s : ReaderState) → (s.ops ≡ []) × (s.threads ≡ []) × (s.phases ≡ []) → count_of s.tasks ≤ MOST_TASKS → s.weight ≤ MOST_WEIGHT → IsReady s
IsReady-no_ops s none few_tasks few = record { bare = λ h. none; fit = IsFit-no_ops s none few_tasks few }

-- before the first line
pub IsReady-nothing_read : (s : ReaderState) → s ≡ nothing_read → IsReady s
IsReady-nothing_read s e =
    let none : (s.ops ≡ []) × (s.threads ≡ []) × (s.phases ≡ []) = rw e (refl, refl, refl) in
    IsReady-no_ops s none (rw e (omega arith)) (rw e (omega arith))

-- the open phase is closed
pub IsFit-closed : (s closed : ReaderState) → Means (Ok tt) closed (Ok (close_phase s)) → IsReady s → IsFit closed
IsFit-closed s closed e ready = subst (λ (r : Result ReaderState LineFault). IfOk r IsFit) e (IsFit-close_phase s ready.fit)

-- the same ops at a place after the first phase
IsReady-moved : (s : ReaderState) (place : LinePosition) (order : List ℕ) → is_early place ≡ false → IsFit s → IsReady (record s { place = place; order = order })
IsReady-moved s place order is_early-thread fit = record {
  bare = λ h. absurd cc;
  fit = record {
    few_tasks = fit.few_tasks;
    ops = fit.ops;
    threads = fit.threads;
    phases = fit.phases;
    short_ops = fit.short_ops;
    short_threads = fit.short_threads;
    short_phases = fit.short_phases;
    light = fit.light;
    counted = fit.counted;
  };
}

-- ---- a line of each kind

-- after a line of any kind
IsReady-means : (k : Kind) (s : ReaderState) (rest : List ℕ) → may_stand k s.place ≡ true → IsSound s → IsReady s → IfOk (means k s rest) IsReady
unfolding means
IsReady-means kinds.Machine s rest stands sound ready =
    let none = ready.bare (is_early-machine s.place stands) in
    IfOk-ok_or IsReady (machine_of (words rest)) BadMachine _ (λ m e. IsReady-no_ops (record s { place = places.Head; machine = m }) none ready.fit.few_tasks ready.fit.counted)
IsReady-means kinds.Tasks s rest stands sound ready =
    let none = ready.bare (is_early-tasks s.place stands) in
    IfOk-ok_or IsReady (declared s.tasks (words rest)) BadTasks _ (λ tasks e.
    IfOk-fault_if IsReady (ltb MOST_TASKS (count_of tasks)) TooLarge _ (λ few. IsReady-no_ops (record s { tasks = tasks }) none (ltb-false _ _ few) ready.fit.counted))
IsReady-means kinds.Phase s rest stands sound ready =
    IfOk-fault_if IsReady (not (eqb (length (words rest)) 0)) BadArgument _ (λ a. IfOk-fault_if IsReady (leb MOST_PHASES (length (close_phase s).phases)) TooLarge _ (λ b. IsReady-moved (close_phase s) places.Opened (close_phase s).order refl (IsFit-close_phase s ready.fit)))
IsReady-means kinds.Order s rest stands sound ready =
    IfOk-ok_or IsReady (order_of (words rest)) BadArgument _ (λ numbers e. IfOk-fault_if IsReady (ltb MOST_ORDER (length numbers)) TooLarge _ (λ a. IsReady-moved s places.Ordered numbers refl ready.fit))
IsReady-means kinds.Thread s rest stands sound ready =
    IfOk-fault_if IsReady (not (eqb (length (words rest)) 0)) BadArgument _ (λ a. IfOk-fault_if IsReady (leb MOST_PHASE_THREADS (length (close_thread s).threads)) TooLarge _ (λ b. IsReady-moved (close_thread s) places.Thread (close_thread s).order refl (IsFit-close_thread s ready.fit)))
IsReady-means kinds.Mkdir s rest stands sound ready = IsReady-path_alone s (λ path. ops.Mkdir path) rest stands sound ready.fit (λ path within. tt) (λ path. refl)
IsReady-means kinds.Rmdir s rest stands sound ready = IsReady-path_alone s (λ path. ops.Rmdir path) rest stands sound ready.fit (λ path within. tt) (λ path. refl)
IsReady-means kinds.Read s rest stands sound ready = IsReady-path_alone s (λ path. ops.Read path) rest stands sound ready.fit (Fits-Read s.machine (ids_of s.tasks)) (λ path. refl)
IsReady-means kinds.List s rest stands sound ready = IsReady-path_alone s (λ path. ops.List path) rest stands sound ready.fit (λ path within. tt) (λ path. refl)
IsReady-means kinds.Write s rest stands sound ready =
    IfOk-ok_or IsReady (first_of (words rest)) BadArgument _ (λ word e.
    IfOk-ok_or IsReady (named_in s word) BadPath _ (λ found h.
    IfOk-ok_or IsReady (unescaped (text_behind rest)) BadEscape _ (λ text g.
    IfOk-ok_or IsReady found TooLarge _ (λ p i.
    IfOk-fault_if IsReady (ltb MOST_TEXT_BYTES (length text)) TooLarge _ (λ short.
    IsReady-with_path s (λ path. ops.Write path text) p stands sound ready.fit (AddsShort-named s.machine.domains s.names word p (h ∙ ap Some i)) (ltb-false _ _ short) (λ path. refl))))))
IsReady-means kinds.Flush s rest stands sound ready =
    IfOk-ok_or IsReady (flush_of s.machine (words rest)) BadArgument _ (λ domain e. IsReady-with_op s (ops.Flush domain) stands ready.fit (flush_of-fits s.machine (ids_of s.tasks) (words rest) domain e) (All-nil _))
IsReady-means kinds.Tick s rest stands sound ready = IfOk-fault_if IsReady (not (eqb (length (words rest)) 0)) BadArgument _ (λ a. IsReady-with_op s ops.Tick stands ready.fit tt (All-nil _))
IsReady-means kinds.Clflush s rest stands sound ready = IsReady-clflush s rest (has_path (words rest)) stands sound ready
IsReady-means kinds.Access s rest stands sound ready =
    IfOk-ok_or IsReady (access_of s.machine (words rest)) BadArgument _ (λ u e.
    IfOk-ok_or IsReady (task_of s.tasks u.task) UnknownTask _ (λ task h.
    let fits = access_of-fits s.machine (words rest) u e in
    IsReady-with_op s (ops.Access task u.cpu u.at) stands ready.fit (task_of-declared s.tasks u.task task h, fits.0, fits.1) (All-nil _)))
IsReady-means kinds.Sweep s rest stands sound ready =
    IfOk-ok_or IsReady (sweep_of s.machine (words rest)) BadArgument _ (λ w e.
    IfOk-ok_or IsReady (task_of s.tasks w.first.task) UnknownTask _ (λ task h.
    IsReady-with_ops s w.count (sweep_ops task w) stands ready.fit (AreFit-sweep_ops s.machine (ids_of s.tasks) (words rest) w task e (task_of-declared s.tasks w.first.task task h)) (AreAllShort-sweep_ops s.names task w) (weights_of-sweep_ops s.machine task w)))
IsReady-means kinds.Touch s rest stands sound ready =
    IfOk-ok_or IsReady (touch_of s.machine (words rest)) BadArgument _ (λ t e.
    IfOk-ok_or IsReady (named_in s t.0) BadPath _ (λ found h.
    IfOk-ok_or IsReady (task_of s.tasks t.1.task) UnknownTask _ (λ task g.
    IfOk-ok_or IsReady found TooLarge _ (λ p i.
    IsReady-with_path s (λ path. ops.Touch t.1.cpu path task t.1.at) p stands sound ready.fit (AddsShort-named s.machine.domains s.names t.0 p (h ∙ ap Some i)) (task_of-declared s.tasks t.1.task task g, touch_of-fits s.machine (words rest) t e) (λ path. refl)))))

-- after any words
IsReady-said_by : (s : ReaderState) (words : List (List ℕ)) (rest : List ℕ) → IsSound s → IsReady s → IfOk (said_by s words rest) IsReady
unfolding word_means
IsReady-said_by s [] rest sound ready = ready
IsReady-said_by s (word ∷ words) rest sound ready =
    IfOk-fault_if IsReady (is_start s.place && not (is_text word (codes "machine"))) NoMachine _ (λ a.
    IfOk-ok_or IsReady (kind_of word) UnknownWord _ (λ k e.
    IfOk-fault_if IsReady (not (may_stand k s.place)) OutOfPlace _ (λ b. IsReady-means k s rest (stands (may_stand k s.place) b) sound ready)))
  where
    stands : (b : Bool) → not b ≡ false → b ≡ true
    stands true e = refl
    stands false e = absurd cc

-- after any good line
pub IsReady-line_meaning : (s : ReaderState) (line : List ℕ) → IsSound s → IsReady s → IfOk (line_meaning s line) IsReady
unfolding line_meaning
IsReady-line_meaning s line sound ready = IfOk-fault_if IsReady (list_any is_bad line) BadByte _ (λ a. at (is_comment line))
  where
    at : (b : Bool) → IfOk (cond b (Ok s) (says s line)) IsReady
    at true = ready
    at false = IsReady-said_by s (words line) (behind_word line) sound ready

pub ruleset beginning = (IsReady-nothing_read)
