-- Steps of one kind, after states that agree, leave states that agree.
use Rattle.std.proofs.Common.{◌≡◌, ℕ, ◌+◌, ◌<◌, inl, inr, List, [], ◌∷◌, ◌++◌, length, map, get_or, Option, Some, None, refl, sym, ap, ◌∙◌, subst, arith}
use Rattle.std.specs.Prelude.{◌==◌, if◌then◌else◌, nat_lt}
use Rattle.std.proofs.lemmas.Bool.{MatchBool-at_false, MatchBool-at_true, cases_Bool, eqb-false, eqb-true}
use Rattle.std.proofs.lemmas.Option.{same_Some}
use Rattle.cache_core.specs.History.{EntryMayFollow}
use Rattle.cache_core.specs.declared.entry.SliceEntry.{SliceEntry}
use Rattle.machine.specs.Maps.{line_of}
use Rattle.machine.specs.Slices.{slice_of_line}
use Rattle.rc_base.specs.declared.names.Tag.{Tag}
use Rattle.rc_base.specs.declared.replies.Reply.{Reply}
use Rattle.run_law.specs.Growth.{PaysJob, tag_of}
use Rattle.run_law.specs.Jobs.{Job, jobs_of, looks_of}
use Rattle.run_law.specs.Journals.{At, slice_at}
use Rattle.run_law.specs.Looks.{lines_looked}
use Rattle.run_law.specs.Owed.{Owed, owed_by_access}
use Rattle.run_law.specs.Slices.{shape_in}
use Rattle.run_law.specs.TreeHistory.{CommandMayFollow, IsCommandThat, TreeEntryValue, tree_after}
use Rattle.script_ops.specs.Values.{ScriptValue, op_at}
use Rattle.script_ops.specs.declared.op.Op.{Op}
use Rattle.script_ops.specs.declared.op.Op.TheVariants.{Access}
use Rattle.step_world.proofs.HeldLines.{HoldsOnce}
use Rattle.step_world.proofs.NextEntries.{entry-one}
use Rattle.step_world.specs.Machine.{Begins, Decides, Follows, Looks, MachineValue, MakesEntry, Moves, Notes, Reaches, StepFrom, Tags, TagsAgain, Takes, Touches, floor_for, holder_behind, opening_thread, place_behind, thread_at}
use Rattle.step_world.specs.declared.thread_state.ThreadState.{ThreadState}
use Rattle.step_world.specs.declared.thread_state.ThreadState.TheVariants.{Following, Looking, Ready, Tagged}
use Rattle.step_world.specs.declared.thread_state.Thread.{Thread}
use Rattle.step_world.proofs.AgreeingStates.{Agree, same_journals, same_numbers}
use Rattle.tree_law.specs.Steps.{needs, next}

module _ (script : ScriptValue) (t : ℕ) (a : MachineValue) (vs : List Thread) (same : (u : ℕ) → thread_at a u ≡ get_or vs u opening_thread)
    (once : (i : ℕ) → i < length a.journals.slices → HoldsOnce (shape_in script.machine i) (slice_at a.journals i)) where
  -- a state with these threads that agrees
  abbrev b : MachineValue
  b = record { journals = a.journals; phase = a.phase; holder = a.holder; threads = vs }

  -- the number of the thread's op
  pub number : (thread_at a t).next ≡ (thread_at b t).next
  number = ap (λ (v : Thread). v.next) (same t)

  -- ---- what steps change

  -- nothing
  pub idle-agree : (x y : MachineValue) → x ≡ a → y ≡ b → Agree x y
  idle-agree x y is its = subst (λ s. Agree s y) (sym is) (subst (λ s. Agree a s) (sym its) (record { journals = refl; phase = refl; holder = refl; threads = same }))

  -- where the thread is
  moves-agree : (now there : Thread) (x y : MachineValue) → Moves t now a x → Moves t there b y → now ≡ there → x.journals ≡ y.journals → x.holder ≡ y.holder → Agree x y
  moves-agree now there x y moves its is journals holder = record {
    journals = journals;
    phase = moves.phase ∙ sym its.phase;
    holder = holder;
    threads = λ u. elim (cases_Bool (u == t)) [
      | inl here ↦ subst (λ v. thread_at x v ≡ thread_at y v) (sym (eqb-true u t here)) (moves.there ∙ (is ∙ sym its.there))
      | inr away ↦ moves.others u (eqb-false u t away) ∙ (same u ∙ sym (its.others u (eqb-false u t away)))
    ];
  }

  -- the journals
  notes-agree : (i k : ℕ) (e f : SliceEntry) (x y : MachineValue) → Notes script.machine i e a x → Notes script.machine k f b y → i ≡ k → e ≡ f → x.journals ≡ y.journals
  notes-agree i k e f x y notes its slice entry = same_journals x.journals y.journals (notes.tree ∙ sym its.tree) (notes.count ∙ sym its.count)
      (λ n. notes.slices n ∙ (ap (λ c. slice_at a.journals n ++ (if n == c then e ∷ [] else [])) slice ∙ (ap (λ g. slice_at a.journals n ++ (if n == k then g ∷ [] else [])) entry ∙ sym (its.slices n))))

  -- the entry that pays
  entry-agree : (i k n o : ℕ) (owed due : Owed) (e f : SliceEntry) (x y : MachineValue) → Notes script.machine i e a x → Notes script.machine k f b y → i ≡ k
      → PaysJob t n (record { slice = i; owed = owed }) e → PaysJob t o (record { slice = k; owed = due }) f → n ≡ o → owed ≡ due → e ≡ f
  entry-agree i k n o owed due e f x y notes its slice pays paid op same_owed =
      entry-one (shape_in script.machine i) (slice_at a.journals i) (once i notes.within) e f notes.may (subst (λ c. EntryMayFollow (shape_in script.machine c) (slice_at a.journals c) f) (sym slice) its.may)
      (pays.thread ∙ sym paid.thread) (pays.op ∙ (op ∙ sym paid.op)) (pays.owed ∙ (same_owed ∙ sym paid.owed))

  -- what a job becomes
  makes-agree : (job task : Job) (x y : MachineValue) → MakesEntry script.machine t (thread_at a t).next job a x → MakesEntry script.machine t (thread_at b t).next task b y → job ≡ task → x.journals ≡ y.journals
  makes-agree job task x y makes its is =
      let slice : job.slice ≡ task.slice = ap (λ (j : Job). j.slice) is in
      notes-agree job.slice task.slice makes.entry its.entry x y makes.notes its.notes slice
      (entry-agree job.slice task.slice (thread_at a t).next (thread_at b t).next job.owed task.owed makes.entry its.entry x y makes.notes its.notes slice makes.pays its.pays number (ap (λ (j : Job). j.owed) is))

  -- ---- the steps

  -- Take
  takes-agree : (x y : MachineValue) → Takes t a x → Takes t b y → Agree x y
  takes-agree x y takes its =
      moves-agree (record { next = (thread_at a t).next; state = Looking 0 }) (record { next = (thread_at b t).next; state = Looking 0 }) x y takes.moves its.moves (ap (λ n. record { next = n; state = Looking 0 }) number)
      (takes.journals ∙ sym its.journals) (takes.holder ∙ sym its.holder)

  -- Look
  looks-agree : (made : ℕ) (op : Op) (x y : MachineValue) → Looks script t made op a x → Looks script t made op b y → Agree x y
  looks-agree made op x y looks its =
      moves-agree (record { next = (thread_at a t).next; state = Looking (made + 1) }) (record { next = (thread_at b t).next; state = Looking (made + 1) }) x y looks.moves its.moves (ap (λ n. record { next = n; state = Looking (made + 1) }) number)
      (makes-agree looks.job its.job x y looks.makes its.makes (same_Some looks.job its.job (sym looks.there ∙ its.there))) (looks.holder ∙ sym its.holder)

  -- a command's reply is one, by its op and its counts
  reply-one : (o : Option Op) (n : ℕ) (looks : List ℕ) (r q : Reply) (count : Op → ℕ)
      → IsCommandThat (λ op. (n ≡ count op) × (r ≡ (next script.machine (tree_after script a.journals.tree) op looks).reply)) o
      → IsCommandThat (λ op. (n ≡ count op) × (q ≡ (next script.machine (tree_after script a.journals.tree) op looks).reply)) o → r ≡ q
  reply-one None n looks r q count first second = absurd first
  reply-one (Some op) n looks r q count first second = first.1.1 ∙ sym second.1.1

  -- its entry in the tree's history
  decided-one : (op : Op) (e f : TreeEntryValue) → e.thread ≡ f.thread → e.op ≡ f.op → CommandMayFollow script a.journals.tree e → CommandMayFollow script a.journals.tree f
      → map (λ n. Some n) e.looks ≡ map (lines_looked script a.journals e) (needs script.machine (tree_after script a.journals.tree) op)
      → map (λ n. Some n) f.looks ≡ map (lines_looked script a.journals f) (needs script.machine (tree_after script a.journals.tree) op) → e ≡ f
  decided-one op e f thread number may can given told =
      let counted : ℕ → ℕ → List (Option ℕ) = λ u o. map (lines_looked script a.journals (record { thread = u; op = o; reply = e.reply; looks = e.looks })) (needs script.machine (tree_after script a.journals.tree) op) in
      let looks : e.looks ≡ f.looks = same_numbers e.looks f.looks (given ∙ (ap (λ u. counted u e.op) thread ∙ (ap (λ o. counted f.thread o) number ∙ sym told))) in
      let as_e : f ≡ (record { thread = e.thread; op = e.op; reply = f.reply; looks = e.looks }) =
      ap (λ u. record { thread = u; op = f.op; reply = f.reply; looks = f.looks }) (sym thread)
      ∙ (ap (λ o. record { thread = e.thread; op = o; reply = f.reply; looks = f.looks }) (sym number) ∙ ap (λ ns. record { thread = e.thread; op = e.op; reply = f.reply; looks = ns }) (sym looks)) in
      let reply : e.reply ≡ f.reply =
      reply-one (op_at script e.thread e.op) (length e.looks) e.looks e.reply f.reply (λ c. length (needs script.machine (tree_after script a.journals.tree) c)) may (subst (CommandMayFollow script a.journals.tree) as_e can) in
      ap (λ r. record { thread = e.thread; op = e.op; reply = r; looks = e.looks }) reply ∙ sym as_e

  -- Decide
  decides-agree : (made : ℕ) (op : Op) (x y : MachineValue) → Decides script t made op a x → Decides script t made op b y → Agree x y
  decides-agree made op x y decides its =
      let all : ℕ = length (jobs_of script a.journals.tree (length a.journals.tree) op) in
      let entry : decides.entry ≡ its.entry = decided-one op decides.entry its.entry (decides.thread ∙ sym its.thread) (decides.number ∙ (number ∙ sym its.number)) decides.may its.may decides.looks its.looks in
      let slices : x.journals.slices ≡ y.journals.slices = decides.slices ∙ sym its.slices in
      moves-agree (place_behind (thread_at a t).next made all) (place_behind (thread_at b t).next made all) x y decides.moves its.moves (ap (λ n. place_behind n made all) number)
      (same_journals x.journals y.journals (decides.tree ∙ (ap (λ e. a.journals.tree ++ e ∷ []) entry ∙ sym its.tree)) (ap length slices) (λ i. ap (λ ss. get_or ss i []) slices)) (decides.holder ∙ sym its.holder)

  -- Follow
  follows-agree : (made : ℕ) (op : Op) (x y : MachineValue) → Follows script t made op a x → Follows script t made op b y → Agree x y
  follows-agree made op x y follows its =
      let position : follows.position ≡ its.position = omega (arith, follows.last, its.last) in
      let all : ℕ → ℕ = λ k. length (jobs_of script a.journals.tree k op) in
      let there : At (jobs_of script a.journals.tree follows.position op) made its.job = subst (λ k. At (jobs_of script a.journals.tree k op) made its.job) (sym position) its.there in
      moves-agree (place_behind (thread_at a t).next (made + 1) (all follows.position)) (place_behind (thread_at b t).next (made + 1) (all its.position)) x y follows.moves its.moves
      (ap (λ n. place_behind n (made + 1) (all follows.position)) number ∙ ap (λ k. place_behind (thread_at b t).next (made + 1) (all k)) position)
      (makes-agree follows.job its.job x y follows.makes its.makes (same_Some follows.job its.job (sym follows.there ∙ there)))
      (follows.holder ∙ (ap (λ k. holder_behind t (made + 1) (all k)) position ∙ sym its.holder))

  -- Tag
  tags-agree : (task cpu : ℕ) (x y : MachineValue) → Tags script t task cpu a x → Tags script t task cpu b y → Agree x y
  tags-agree task cpu x y tags its =
      let tag : Tag = tag_of script.machine (tree_after script a.journals.tree) (length a.journals.tree) task cpu in
      moves-agree (record { next = (thread_at a t).next; state = Tagged tag }) (record { next = (thread_at b t).next; state = Tagged tag }) x y tags.moves its.moves (ap (λ n. record { next = n; state = Tagged tag }) number)
      (tags.journals ∙ sym its.journals) (tags.holder ∙ sym its.holder)

  -- Touch
  touches-agree : (tag : Tag) (task cpu addr : ℕ) (x y : MachineValue) → Touches script t tag task cpu addr a x → Touches script t tag task cpu addr b y → Agree x y
  touches-agree tag task cpu addr x y touches its =
      let i : ℕ = slice_of_line script.machine tag.domain (line_of addr) in
      let owed : Owed = owed_by_access script a.journals.tree tag.epoch task cpu addr in
      let entry : touches.entry ≡ its.entry = entry-agree i i (thread_at a t).next (thread_at b t).next owed owed touches.entry its.entry x y touches.notes its.notes refl touches.pays its.pays number refl in
      moves-agree (record { next = (thread_at a t).next + 1; state = Ready }) (record { next = (thread_at b t).next + 1; state = Ready }) x y touches.moves its.moves (ap (λ n. record { next = n + 1; state = Ready }) number)
      (notes-agree i i touches.entry its.entry x y touches.notes its.notes refl entry) (touches.holder ∙ sym its.holder)

  -- a stale tag
  again-agree : (x y : MachineValue) → TagsAgain t a x → TagsAgain t b y → Agree x y
  again-agree x y again its =
      moves-agree (record { next = (thread_at a t).next; state = Ready }) (record { next = (thread_at b t).next; state = Ready }) x y again.moves its.moves (ap (λ n. record { next = n; state = Ready }) number)
      (again.journals ∙ sym its.journals) (again.holder ∙ sym its.holder)

  -- ---- of each kind

  -- Touch, or stale
  reaches-agree : (tag : Tag) (task cpu addr : ℕ) (x y : MachineValue) → Reaches script t tag task cpu addr a x → Reaches script t tag task cpu addr b y → Agree x y
  reaches-agree tag task cpu addr x y reaches its = elim (cases_Bool (nat_lt tag.epoch (floor_for script a tag addr))) [
    | inl below ↦ again-agree x y (MatchBool-at_true (TagsAgain t a x) (Touches script t tag task cpu addr a x) below reaches) (MatchBool-at_true (TagsAgain t b y) (Touches script t tag task cpu addr b y) below its)
    | inr fresh ↦ touches-agree tag task cpu addr x y (MatchBool-at_false (TagsAgain t a x) (Touches script t tag task cpu addr a x) fresh reaches) (MatchBool-at_false (TagsAgain t b y) (Touches script t tag task cpu addr b y) fresh its)
  ]

  -- with a tag
  tagged-agree : (op : Op) (tag : Tag) (x y : MachineValue) → StepFrom script t op (Tagged tag) a x → StepFrom script t op (Tagged tag) b y → Agree x y
  tagged-agree (Access task cpu addr) tag x y reaches its = reaches-agree tag task cpu addr x y reaches its
  tagged-agree op tag x y rests its = idle-agree x y rests its

  -- Take or Tag
  begins-agree : (op : Op) (holder : Option ℕ) (x y : MachineValue) → Begins script t op holder a x → Begins script t op holder b y → Agree x y
  begins-agree op (Some other) x y rests its = idle-agree x y rests its
  begins-agree (Access task cpu addr) None x y tags its = tags-agree task cpu x y tags its
  begins-agree op None x y takes its = takes-agree x y takes its

  -- Look or Decide
  looking-agree : (op : Op) (made : ℕ) (x y : MachineValue) → StepFrom script t op (Looking made) a x → StepFrom script t op (Looking made) b y → Agree x y
  looking-agree op made x y step its = elim (cases_Bool (nat_lt made (length (looks_of script a.journals.tree (length a.journals.tree) op)))) [
    | inl less ↦ looks-agree made op x y (MatchBool-at_true (Looks script t made op a x) (Decides script t made op a x) less step) (MatchBool-at_true (Looks script t made op b y) (Decides script t made op b y) less its)
    | inr more ↦ decides-agree made op x y (MatchBool-at_false (Looks script t made op a x) (Decides script t made op a x) more step) (MatchBool-at_false (Looks script t made op b y) (Decides script t made op b y) more its)
  ]

  -- at each place
  pub place-agree : (op : Op) (place : ThreadState) (x y : MachineValue) → StepFrom script t op place a x → StepFrom script t op place b y → Agree x y
  place-agree op Ready x y step its = begins-agree op a.holder x y step its
  place-agree op (Looking made) x y step its = looking-agree op made x y step its
  place-agree op (Following made) x y step its = follows-agree made op x y step its
  place-agree op (Tagged tag) x y step its = tagged-agree op tag x y step its
