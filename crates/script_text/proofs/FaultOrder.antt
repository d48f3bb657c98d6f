-- The fault of a line is the first that it has in the table's order.
use Rattle.std.proofs.Common.{◌≡◌, ℕ, ◌+◌, Bool, true, false, cond, not, ◌&&◌, ◌||◌, ◌++◌, eqb, ltb, leb, List, [], ◌∷◌, length, Option, Some, None, Result, Ok, Err, refl}
use Rattle.std.specs.Prelude.{is_none, codes}
use Rattle.std.specs.List.{list_any, find}
use Rattle.std.specs.Option.{ok_or}
use Rattle.rc_base.specs.Faults.{◌>>=◌, fault_if}
use Rattle.rc_base.specs.Texts.{is_text}
use Rattle.path_names.specs.declared.path_ref.PathRef.{PathRef}
use Rattle.script_lines.specs.declared.fault.LineFault.{LineFault}
use Rattle.script_lines.specs.declared.fault.LineFault.TheVariants.{BadByte, NoMachine, UnknownWord, OutOfPlace, BadMachine, BadTasks, BadArgument, BadPath, UnknownTask, BadEscape, TooLarge}
use Rattle.script_ops.specs.declared.op.Op.{Op}
use Rattle.script_ops.specs.declared.op.Op.TheVariants as ops
use Rattle.script_text.specs.declared.kind.Kind.{Kind}
use Rattle.script_text.specs.declared.kind.Kind.TheVariants as kinds
use Rattle.script_lines.specs.Arguments.{access_of, flush_of, sweep_of, touch_of, drop_line_of, drop_region_of, has_path, order_of, only, first_of}
use Rattle.script_lines.specs.Escapes.{unescaped, text_behind}
use Rattle.script_lines.specs.Keys.{machine_of}
use Rattle.script_text.specs.Kinds.{kind_of, may_stand}
use Rattle.line_words.specs.Lines.{is_bad, is_comment, words, behind_word}
use Rattle.script_text.specs.Meaning.{means, path_alone, drop_line, drop_region, named_in, with_names, word_means, said_by, says, line_meaning, with_op, with_ops}
use Rattle.script_lines.specs.Paths.{Named}
use Rattle.script_text.specs.States.{ReaderState, close_thread, close_phase, is_start}
use Rattle.script_text.specs.Table.{has_fault, word_fault, said_fault, argument_fault, path_fault, drop_line_fault, drop_region_fault, fault_of, is_over, is_over_at, path_over, passes, FaultsInOrder}
use Rattle.script_lines.specs.Tasks.{declared, task_of, count_of}
use Rattle.script_ops.specs.Weights.{weight_of}
use Rattle.script_ops.specs.declared.limits.TheConstants.{MOST_TASKS, MOST_TEXT_BYTES, MOST_ORDER, MOST_PHASES, MOST_PHASE_THREADS}

-- a test, and what follows it
cond-fault_if : {A : Type 0} (b : Bool) (f : LineFault) (rest : Option LineFault) (next : Result A LineFault) → rest ≡ fault_of next → cond b (Some f) rest ≡ fault_of (fault_if b f >>= λ u. next)
cond-fault_if true f rest next e = refl
cond-fault_if false f rest next e = e

-- a value, and what follows it
cond-ok_or : {A B : Type 0} (o : Option A) (f : LineFault) (rest : Option LineFault) (next : A → Result B LineFault) → ((x : A) → o ≡ Some x → rest ≡ fault_of (next x)) → cond (is_none o) (Some f) rest ≡ fault_of (ok_or o f >>= next)
cond-ok_or None f rest next e = refl
cond-ok_or (Some x) f rest next e = e x refl

-- the weight is the last to be tried
cond-with_ops : (s : ReaderState) (weight : ℕ) (ops : List Op) → cond (is_over s weight) (Some TooLarge) None ≡ fault_of (with_ops s weight ops)
cond-with_ops s weight ops = elim (is_over s weight) as (λ b. cond b (Some TooLarge) None ≡ fault_of (cond b (Err TooLarge) (Ok (record s { ops = s.ops ++ ops; weight = s.weight + weight })))) [ true ↦ refl | false ↦ refl ]

-- a path that is too long, or an op that weighs too much
cond-with_op : (s : ReaderState) (op : PathRef → Op) (found : Option Named) → cond (is_over_at s op found) (Some TooLarge) None ≡ fault_of (ok_or found TooLarge >>= λ p. with_op (with_names s p.1) (op p.0))
cond-with_op s op None = refl
cond-with_op s op (Some p) = cond-with_ops (with_names s p.1) (weight_of s.machine (op p.0)) (op p.0 ∷ [])

-- a text that is too long comes with these
cond-text_over : (s : ReaderState) (text : List ℕ) (found : Option Named) → cond (ltb MOST_TEXT_BYTES (length text) || is_over_at s (λ path. ops.Write path text) found) (Some TooLarge) None ≡ fault_of (ok_or found TooLarge >>= λ p. fault_if (ltb MOST_TEXT_BYTES (length text)) TooLarge >>= λ a. with_op (with_names s p.1) (ops.Write p.0 text))
cond-text_over s text None = elim (ltb MOST_TEXT_BYTES (length text)) as (λ b. cond (b || true) (Some TooLarge) None ≡ Some TooLarge) [ true ↦ refl | false ↦ refl ]
cond-text_over s text (Some p) =
    let last = cond-with_ops (with_names s p.1) (weight_of s.machine (ops.Write p.0 text)) (ops.Write p.0 text ∷ []) in
    elim (ltb MOST_TEXT_BYTES (length text)) as (λ b. cond (b || is_over s (weight_of s.machine (ops.Write p.0 text))) (Some TooLarge) None ≡ fault_of (fault_if b TooLarge >>= λ a. with_op (with_names s p.1) (ops.Write p.0 text))) [ true ↦ refl | false ↦ last ]

abbrev argument_faults : List LineFault
argument_faults = BadMachine ∷ BadTasks ∷ BadArgument ∷ BadPath ∷ UnknownTask ∷ BadEscape ∷ TooLarge ∷ []

-- a line of one path
find-path_fault : (s : ReaderState) (op : PathRef → Op) (rest : List ℕ) → find (path_fault s op rest) argument_faults ≡ fault_of (path_alone s rest >>= λ p. with_op (with_names s p.1) (op p.0))
unfolding path_alone
find-path_fault s op rest = at (only (words rest))
  where
    found : (o : Option (Option Named)) → cond (is_none o) (Some BadPath) (cond (passes (λ f. is_over_at s op f) o) (Some TooLarge) None) ≡ fault_of ((ok_or o BadPath >>= λ f. ok_or f TooLarge) >>= λ p. with_op (with_names s p.1) (op p.0))
    found None = refl
    found (Some None) = refl
    found (Some (Some p)) = cond-with_ops (with_names s p.1) (weight_of s.machine (op p.0)) (op p.0 ∷ [])

    at : (o : Option (List ℕ)) → cond (is_none o) (Some BadArgument) (cond (passes (λ word. is_none (named_in s word)) o) (Some BadPath) (cond (passes (λ word. path_over s op word) o) (Some TooLarge) None)) ≡ fault_of ((ok_or o BadArgument >>= λ word. ok_or (named_in s word) BadPath >>= λ f. ok_or f TooLarge) >>= λ p. with_op (with_names s p.1) (op p.0))
    at None = refl
    at (Some word) = found (named_in s word)

-- the faults of a `clflush`, by whether it names a path
find-clflush_fault : (s : ReaderState) (rest : List ℕ) (b : Bool) → find (λ fault. cond b (drop_region_fault s rest fault) (drop_line_fault s rest fault)) argument_faults ≡ fault_of (cond b (drop_region s rest) (drop_line s rest))
unfolding drop_region drop_line
find-clflush_fault s rest true =
    cond-ok_or (drop_region_of (words rest)) BadArgument _ _ (λ t e.
    rw e (cond-ok_or (named_in s t.0) BadPath _ _ (λ found h.
    rw h (cond-with_op s (λ path. ops.DropRegion path t.1) found))))
find-clflush_fault s rest false = cond-ok_or (drop_line_of (words rest)) BadArgument _ _ (λ addr e. rw e (cond-with_ops s (weight_of s.machine (ops.DropLine addr)) _))

-- the faults of what stands after the first word
find-argument_fault : (k : Kind) (s : ReaderState) (rest : List ℕ) → find (argument_fault k s rest) argument_faults ≡ fault_of (means k s rest)
unfolding argument_fault means
find-argument_fault kinds.Machine s rest = cond-ok_or (machine_of (words rest)) BadMachine None _ (λ x e. refl)
find-argument_fault kinds.Tasks s rest = cond-ok_or (declared s.tasks (words rest)) BadTasks _ _ (λ x e. rw e (cond-fault_if (ltb MOST_TASKS (count_of x)) TooLarge None _ refl))
find-argument_fault kinds.Phase s rest = cond-fault_if (not (eqb (length (words rest)) 0)) BadArgument _ _ (cond-fault_if (leb MOST_PHASES (length (close_phase s).phases)) TooLarge None _ refl)
find-argument_fault kinds.Order s rest = cond-ok_or (order_of (words rest)) BadArgument _ _ (λ x e. rw e (cond-fault_if (ltb MOST_ORDER (length x)) TooLarge None _ refl))
find-argument_fault kinds.Thread s rest = cond-fault_if (not (eqb (length (words rest)) 0)) BadArgument _ _ (cond-fault_if (leb MOST_PHASE_THREADS (length (close_thread s).threads)) TooLarge None _ refl)
find-argument_fault kinds.Mkdir s rest = find-path_fault s (λ path. ops.Mkdir path) rest
find-argument_fault kinds.Rmdir s rest = find-path_fault s (λ path. ops.Rmdir path) rest
find-argument_fault kinds.Read s rest = find-path_fault s (λ path. ops.Read path) rest
find-argument_fault kinds.List s rest = find-path_fault s (λ path. ops.List path) rest
find-argument_fault kinds.Write s rest =
    cond-ok_or (first_of (words rest)) BadArgument _ _ (λ word e.
    rw e (cond-ok_or (named_in s word) BadPath _ _ (λ found h.
    cond-ok_or (unescaped (text_behind rest)) BadEscape _ _ (λ text g.
    rw (g, h) (cond-text_over s text found)))))
find-argument_fault kinds.Flush s rest = cond-ok_or (flush_of s.machine (words rest)) BadArgument _ _ (λ d e. rw e (cond-with_ops s (weight_of s.machine (ops.Flush d)) _))
find-argument_fault kinds.Tick s rest = cond-fault_if (not (eqb (length (words rest)) 0)) BadArgument _ _ (cond-with_ops s (weight_of s.machine ops.Tick) _)
find-argument_fault kinds.Clflush s rest = find-clflush_fault s rest (has_path (words rest))
find-argument_fault kinds.Access s rest = cond-ok_or (access_of s.machine (words rest)) BadArgument _ _ (λ u e. rw e (cond-ok_or (task_of s.tasks u.task) UnknownTask _ _ (λ t h. cond-with_ops s 1 _)))
find-argument_fault kinds.Sweep s rest = cond-ok_or (sweep_of s.machine (words rest)) BadArgument _ _ (λ w e. rw e (cond-ok_or (task_of s.tasks w.first.task) UnknownTask _ _ (λ t h. cond-with_ops s w.count _)))
find-argument_fault kinds.Touch s rest =
    cond-ok_or (touch_of s.machine (words rest)) BadArgument _ _ (λ t e.
    rw e (cond-ok_or (named_in s t.0) BadPath _ _ (λ found h.
    cond-ok_or (task_of s.tasks t.1.task) UnknownTask _ _ (λ task g.
    rw h (touch_last s t.1.at task t.1.task t.1.cpu found)))))
  where
    -- a touch weighs the same whatever its task
    touch_last : (s : ReaderState) (at task named cpu : ℕ) (found : Option Named) → cond (is_over_at s (λ path. ops.Touch cpu path named at) found) (Some TooLarge) None ≡ fault_of (ok_or found TooLarge >>= λ p. with_op (with_names s p.1) (ops.Touch cpu p.0 task at))
    touch_last s at task named cpu None = refl
    touch_last s at task named cpu (Some p) = cond-with_ops (with_names s p.1) 2 (ops.Touch cpu p.0 task at ∷ [])

-- the faults of a line that is no comment
find-said_fault : (s : ReaderState) (words : List (List ℕ)) (rest : List ℕ) → find (said_fault s words rest) (NoMachine ∷ UnknownWord ∷ OutOfPlace ∷ argument_faults) ≡ fault_of (said_by s words rest)
unfolding word_fault word_means
find-said_fault s [] rest = refl
find-said_fault s (word ∷ words) rest =
    cond-fault_if (is_start s.place && not (is_text word (codes "machine"))) NoMachine _ _
    (cond-ok_or (kind_of word) UnknownWord _ _ (λ k e.
    rw e (cond-fault_if (not (may_stand k s.place)) OutOfPlace _ _ (find-argument_fault k s rest))))

-- the faults of any line
pub faults_in_order : FaultsInOrder
unfolding has_fault line_meaning
faults_in_order s line = cond-fault_if (list_any is_bad line) BadByte _ _ (at (is_comment line))
  where
    at : (b : Bool) → find (λ fault. not b && said_fault s (words line) (behind_word line) fault) (NoMachine ∷ UnknownWord ∷ OutOfPlace ∷ argument_faults) ≡ fault_of (cond b (Ok s) (says s line))
    at true = refl
    at false = find-said_fault s (words line) (behind_word line)
