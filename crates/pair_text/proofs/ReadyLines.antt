-- Each line keeps what the lines before it keep to.
use Rattle.std.proofs.Common.{◌≡◌, ℕ, ◌+◌, ◌/◌, ◌<◌, Bool, true, false, not, cond, ◌&&◌, eqb, ltb, List, [], ◌∷◌, ◌++◌, length, map, get_or, All, Contains, Ok, Err, IfOk, refl, sym, ap, subst, ◌∙◌, codes, ltb-false}
use Rattle.std.specs.List.{range_with_len, list_any}
use Rattle.std.proofs.lemmas.Bool.{not-false, true≢false}
use Rattle.std.proofs.lemmas.List.Elements.{All-append, All-map, All-nil, All-push}
use Rattle.lackey_text.specs.Lines.{line_of}
use Rattle.lackey_text.specs.declared.uses.LineUse.{LineUse}
use Rattle.line_words.specs.Lines.{behind_word, is_bad, is_comment, words}
use Rattle.pair_text.specs.declared.op.PairOp.{PairOp}
use Rattle.pair_text.specs.declared.op.PairOp.TheVariants as ops
use Rattle.script_lines.proofs.laws.Uses.{access_of-fits, sweep_of-fits, task_of-declared, trace_of-fits}
use Rattle.pair_text.specs.PairKeys.{machines_of}
use Rattle.pair_text.specs.PairLines.{PairState, file_alone, group_alone, in_body, is_end, line_meaning, means, placed_line, plain_line, said_by, trace_line, traced, use_at, use_in, with_command, with_uses, word_means}
use Rattle.pair_text.specs.declared.kind.Kind.{Kind}
use Rattle.pair_text.specs.declared.kind.Kind.TheVariants as kinds
use Rattle.pair_text.specs.declared.kind.PairKind.{PairKind}
use Rattle.pair_text.specs.declared.kind.Place.{Place}
use Rattle.pair_text.specs.declared.kind.Place.TheVariants as places
use Rattle.script_lines.specs.Escapes.{text_behind, unescaped}
use Rattle.pair_text.specs.Kinds.{is_start, may_stand, pair_kind_of}
use Rattle.rc_base.specs.Faults.{◌>>=◌}
use Rattle.rc_base.specs.Texts.{is_text}
use Rattle.pair_text.specs.PairPaths.{file_at, or_long}
use Rattle.script_lines.specs.Arguments.{access_of, first_of, sweep_of, trace_of}
use Rattle.script_lines.specs.Tasks.{count_of, task_of, declared, ids_of}
use Rattle.script_lines.specs.declared.fault.LineFault.TheVariants.{BadArgument, BadByte, BadEscape, BadMachine, BadPath, BadTasks, NoMachine, OutOfPlace, TooLarge, UnknownTask, UnknownWord}
use Rattle.pair_text.specs.declared.fault.PairFault.TheVariants.{Line}
use Rattle.pair_text.proofs.Readiness.{AreMachines-machines_of, FitsAt, IfOk-bind, IfOk-fault_if, IfOk-or_fault, IsReady, IsTraced, RiseFrom-declared, is_early}
use Rattle.pair_text.proofs.ShortNames.{IfOk-group_alone, IsShort}

-- one command more
IsReady-with_command : (s : PairState) (op : PairOp) → IsReady s → FitsAt s.machines.machine.cpus (ids_of s.tasks) op → IfOk (with_command s op) IsReady
IsReady-with_command s op ready fits = at (ltb 20000 (s.commands + 1))
  where
    at : (b : Bool) → IfOk (cond b (Err (Line TooLarge)) (Ok (record s { place = places.Body; ops = s.ops ++ op ∷ []; commands = s.commands + 1 }))) IsReady
    at true = tt
    at false = record {
      machines = ready.machines;
      tasks = ready.tasks;
      few_tasks = ready.few_tasks;
      fit = All-push (FitsAt s.machines.machine.cpus (ids_of s.tasks)) s.ops op ready.fit fits;
      traced = tt;
      bare = λ h. absurd cc;
    }

-- some uses more, behind the head
IsReady-with_uses : (s : PairState) (count : ℕ) (uses : List PairOp) → IsReady s → is_early s.place ≡ false → All (FitsAt s.machines.machine.cpus (ids_of s.tasks)) uses → IfOk (with_uses s count uses) IsReady
IsReady-with_uses s count uses ready late fits = at (ltb 2000000 (s.uses + count))
  where
    at : (b : Bool) → IfOk (cond b (Err (Line TooLarge)) (Ok (record s { ops = s.ops ++ uses; uses = s.uses + count }))) IsReady
    at true = tt
    at false = record {
      machines = ready.machines;
      tasks = ready.tasks;
      few_tasks = ready.few_tasks;
      fit = All-append (FitsAt s.machines.machine.cpus (ids_of s.tasks)) s.ops uses ready.fit fits;
      traced = ready.traced;
      bare = λ early. absurd (true≢false (sym early ∙ late));
    }

-- the place changes to the body
IsReady-in_body : (s : PairState) → IsReady s → IsReady (in_body s)
IsReady-in_body s ready = record { machines = ready.machines; tasks = ready.tasks; few_tasks = ready.few_tasks; fit = ready.fit; traced = tt; bare = λ h. absurd cc }

stands-start : (p : Place) → may_stand kinds.Machine p ≡ true → is_early p ≡ true
stands-start places.Start h = refl
stands-start places.Head h = absurd cc
stands-start places.Body h = absurd cc
stands-start (places.Trace task cpu) h = absurd cc

stands-head : (p : Place) → may_stand kinds.Tasks p ≡ true → is_early p ≡ true
stands-head places.Start h = absurd cc
stands-head places.Head h = refl
stands-head places.Body h = absurd cc
stands-head (places.Trace task cpu) h = absurd cc

-- no ops fit anything
fits-none : (cpus : ℕ) (tasks : List ℕ) (all : List PairOp) → all ≡ [] → All (FitsAt cpus tasks) all
fits-none cpus tasks all none = subst (λ l. All (FitsAt cpus tasks) l) (sym none) (All-nil (FitsAt cpus tasks))

-- the uses of a list
fits-uses : {A : Type 0} (cpus : ℕ) (tasks : List ℕ) (f : A → PairOp) → ((a : A) → FitsAt cpus tasks (f a)) → (xs : List A) → All (FitsAt cpus tasks) (map f xs)
fits-uses cpus tasks f each xs = All-map (FitsAt cpus tasks) f xs (λ k d h. each (get_or xs k d))

-- ---- lines

-- what a line of each kind leaves
IsReady-means : (kind : PairKind) (line : Kind) (s : PairState) (rest : List ℕ) → may_stand line s.place ≡ true → IsReady s → IfOk (means kind line s rest) IsReady
unfolding means
IsReady-means kind kinds.Machine s rest stands ready =
    IfOk-or_fault IsReady (machines_of kind (words rest)) BadMachine _ (λ m e. record {
      machines = AreMachines-machines_of kind (words rest) m e;
      tasks = ready.tasks;
      few_tasks = ready.few_tasks;
      fit = fits-none m.machine.cpus (ids_of s.tasks) s.ops (ready.bare (stands-start s.place stands));
      traced = tt;
      bare = λ h. ready.bare (stands-start s.place stands);
    })
IsReady-means kind kinds.Tasks s rest stands ready =
    IfOk-or_fault IsReady (declared s.tasks (words rest)) BadTasks _ (λ tasks e.
    IfOk-fault_if IsReady (ltb 4096 (count_of tasks)) TooLarge _ (λ few. record {
      machines = ready.machines;
      tasks = RiseFrom-declared s.tasks (words rest) tasks ready.tasks e;
      few_tasks = ltb-false _ _ few;
      fit = fits-none s.machines.machine.cpus (ids_of tasks) s.ops (ready.bare (stands-head s.place stands));
      traced = tt;
      bare = λ h. absurd cc;
    }))
IsReady-means kind kinds.Mkdir s rest stands ready = IfOk-bind IsReady (group_alone rest) _ (λ name e. IsReady-with_command s (ops.Mkdir name) ready (subst (λ r. IfOk r IsShort) e (IfOk-group_alone rest)))
IsReady-means kind kinds.Rmdir s rest stands ready = IfOk-bind IsReady (group_alone rest) _ (λ name e. IsReady-with_command s (ops.Rmdir name) ready tt)
IsReady-means kind kinds.Write s rest stands ready =
    IfOk-or_fault IsReady (first_of (words rest)) BadArgument _ (λ word e.
    IfOk-or_fault IsReady (or_long file_at word) BadPath _ (λ found e.
    IfOk-or_fault IsReady (unescaped (text_behind rest)) BadEscape _ (λ text e.
    IfOk-fault_if IsReady (ltb 4096 (length text)) TooLarge _ (λ few.
    IfOk-or_fault IsReady found TooLarge _ (λ file e. IsReady-with_command s (ops.Write file text) ready tt)))))
IsReady-means kind kinds.Read s rest stands ready = IfOk-bind IsReady (file_alone rest) _ (λ file e. IsReady-with_command s (ops.Read file) ready tt)
IsReady-means kind kinds.Flush s rest stands ready = IfOk-fault_if IsReady (not (eqb (length (words rest)) 0)) BadArgument _ (λ none. IsReady-with_command s ops.Flush ready tt)
IsReady-means kind kinds.Trace s rest stands ready =
    IfOk-or_fault IsReady (trace_of s.machines.machine (words rest)) BadArgument _ (λ u e.
    IfOk-or_fault IsReady (task_of s.tasks u.task) UnknownTask _ (λ task h. record {
      machines = ready.machines;
      tasks = ready.tasks;
      few_tasks = ready.few_tasks;
      fit = ready.fit;
      traced = (task_of-declared s.tasks u.task task h, trace_of-fits s.machines.machine (words rest) u e);
      bare = λ early. absurd cc;
    }))
IsReady-means kind kinds.Access s rest stands ready =
    IfOk-or_fault IsReady (access_of s.machines.machine (words rest)) BadArgument _ (λ u e.
    IfOk-or_fault IsReady (task_of s.tasks u.task) UnknownTask _ (λ task h.
    IsReady-with_uses (in_body s) 1 (ops.Use task u.cpu (u.at / 64) false ∷ []) (IsReady-in_body s ready) refl
    (All-push (FitsAt s.machines.machine.cpus (ids_of s.tasks)) [] (ops.Use task u.cpu (u.at / 64) false) (All-nil (FitsAt s.machines.machine.cpus (ids_of s.tasks)))
    (task_of-declared s.tasks u.task task h, (access_of-fits s.machines.machine (words rest) u e).0))))
IsReady-means kind kinds.Sweep s rest stands ready =
    IfOk-or_fault IsReady (sweep_of s.machines.machine (words rest)) BadArgument _ (λ w e.
    IfOk-or_fault IsReady (task_of s.tasks w.first.task) UnknownTask _ (λ task h.
    IsReady-with_uses (in_body s) w.count (map (use_at task w) (range_with_len 0 w.count)) (IsReady-in_body s ready) refl
    (fits-uses s.machines.machine.cpus (ids_of s.tasks) (use_at task w) (λ i. (task_of-declared s.tasks w.first.task task h, (sweep_of-fits s.machines.machine (words rest) w e).0)) (range_with_len 0 w.count))))

-- a line that begins with a word
IsReady-word_means : (kind : PairKind) (s : PairState) (word rest : List ℕ) → IsReady s → IfOk (word_means kind s word rest) IsReady
unfolding word_means
IsReady-word_means kind s word rest ready =
    IfOk-fault_if IsReady (is_start s.place && not (is_text word (codes "machine"))) NoMachine _ (λ begun.
    IfOk-or_fault IsReady (pair_kind_of kind word) UnknownWord _ (λ line e.
    IfOk-fault_if IsReady (not (may_stand line s.place)) OutOfPlace _ (λ stands. IsReady-means kind line s rest (not-false (may_stand line s.place) stands) ready)))

-- a line outside a trace
IsReady-plain_line : (kind : PairKind) (s : PairState) (line : List ℕ) → IsReady s → IfOk (plain_line kind s line) IsReady
IsReady-plain_line kind s line ready = at (is_comment line)
  where
    said : (ws : List (List ℕ)) (rest : List ℕ) → IfOk (said_by kind s ws rest) IsReady
    said [] rest = ready
    said (w ∷ ws) rest = IsReady-word_means kind s w rest ready

    at : (b : Bool) → IfOk (cond b (Ok s) (said_by kind s (words line) (behind_word line))) IsReady
    at true = ready
    at false = said (words line) (behind_word line)

-- a line of a trace
IsReady-trace_line : (s : PairState) (task cpu : ℕ) (line : List ℕ) → s.place ≡ places.Trace task cpu → IsReady s → IfOk (trace_line s task cpu line) IsReady
unfolding trace_line
IsReady-trace_line s task cpu line e ready = at (is_end (words line))
  where
    here : Contains (ids_of s.tasks) task × (cpu < s.machines.machine.cpus)
    here = subst (IsTraced s.machines.machine.cpus (ids_of s.tasks)) e ready.traced

    late : is_early s.place ≡ false
    late = ap is_early e

    at : (b : Bool) → IfOk (cond b (Ok (in_body s)) (traced (line_of line) >>= λ uses. with_uses s (length uses) (map (use_in task cpu) uses))) IsReady
    at true = IsReady-in_body s ready
    at false = IfOk-bind IsReady (traced (line_of line)) _ (λ uses h.
        IsReady-with_uses s (length uses) (map (use_in task cpu) uses) ready late (fits-uses s.machines.machine.cpus (ids_of s.tasks) (use_in task cpu) (λ (a : LineUse). here) uses))

-- a line
pub IsReady-line_meaning : (kind : PairKind) (s : PairState) (line : List ℕ) → IsReady s → IfOk (line_meaning kind s line) IsReady
unfolding line_meaning
IsReady-line_meaning kind s line ready = IfOk-fault_if IsReady (list_any is_bad line) BadByte _ (λ good. at s.place refl)
  where
    at : (p : Place) → s.place ≡ p → IfOk (placed_line kind p s line) IsReady
    at places.Start e = IsReady-plain_line kind s line ready
    at places.Head e = IsReady-plain_line kind s line ready
    at places.Body e = IsReady-plain_line kind s line ready
    at (places.Trace task cpu) e = IsReady-trace_line s task cpu line e ready
