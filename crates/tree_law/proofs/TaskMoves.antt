-- A write of `tasks` keeps a sound tree.
use Rattle.std.proofs.Common.{◌≡◌, ℕ, suc, ◌<◌, Bool, true, false, cond, List, [], ◌∷◌, length, find, get_or, Option, Some, None, inl, refl, sym, ◌∙◌, arith}
use Rattle.std.specs.List.{All}
use Rattle.std.proofs.lemmas.Bool.{eqb-true}
use Rattle.std.proofs.lemmas.List.Elements.{All-cons, All-map}
use Rattle.group_tree.specs.declared.group.Group.{Group}
use Rattle.group_tree.specs.declared.group_kind.GroupKind.{GroupKind}
use Rattle.group_tree.specs.declared.group_kind.GroupKind.TheVariants.{Control, Monitor}
use Rattle.lists.proofs.Choices.{cond-case}
use Rattle.rc_base.specs.declared.names.Gid.{Gid}
use Rattle.rc_base.specs.declared.replies.Why.TheVariants.{NoTask, OtherControl}
use Rattle.task_binding.specs.Bindings.{AreRising, binding_of, changed, is_of}
use Rattle.task_binding.specs.declared.binding.Binding.{Binding}
use Rattle.tree_law.proofs.laws.TaskNumbers.{AreRising-changed}
use Rattle.tree_law.specs.Refusals.{Refusal}
use Rattle.tree_law.specs.Sound.{AreBound, IsBound, IsCounted, IsOf}
use Rattle.tree_law.specs.commands.Tasks.{against_binding, against_task, in_group, may_join, moved, moves, or_ended, task_in}

module _ (groups : List Group) (gid : Gid) where
  -- a group that tasks may join: a control group that is counted, or a monitor group of its parent
  abbrev pub MayTake : GroupKind → Type 0
  MayTake Control = IsCounted groups gid
  MayTake (Monitor parent) = (control : Gid) → control.0 ≡ parent.0 → IsOf groups control gid

  -- the task keeps its number
  task-in_group : (kind : GroupKind) (b : Binding) → (in_group gid kind b).task ≡ b.task
  task-in_group Control b = refl
  task-in_group (Monitor parent) b = refl

  -- a task that may join is bound
  IsBound-in_group : (kind : GroupKind) (b : Binding) → MayTake kind → may_join kind b ≡ true → IsBound groups b → IsBound groups (in_group gid kind b)
  IsBound-in_group Control b may joining bound = (may, inl refl)
  IsBound-in_group (Monitor parent) b may joining bound = (bound.0, may b.control (eqb-true b.control.0 parent.0 joining))

  -- each binding of the task is the one that was tested
  may_join-tested : (kind : GroupKind) (task : ℕ) (b : Binding) (tasks : List Binding) → AreRising tasks → binding_of task tasks ≡ Some b → may_join kind b ≡ true → All (λ (c : Binding). is_of task c ≡ true → may_join kind c ≡ true) tasks
  may_join-tested kind task b [] rising found may = λ k d within. absurd (omega arith)
  may_join-tested kind task b (c ∷ cs) rising found may = at (is_of task c) refl found (λ f. may_join-tested kind task b cs (λ i j d below within. rising (suc i) (suc j) d (omega arith) (omega arith)) f may)
    where
      past : is_of task c ≡ true → (k : ℕ) (d : Binding) → k < length cs → is_of task (get_or cs k d) ≡ true → may_join kind (get_or cs k d) ≡ true
      past here k d within there =
          let first : c.task ≡ task = eqb-true c.task task here in
          let second : (get_or cs k d).task ≡ task = eqb-true (get_or cs k d).task task there in
          let lt = rising 0 (suc k) d (omega arith) (omega arith) in
          absurd (omega (arith, first, second, lt))

      at : (e : Bool) → is_of task c ≡ e → cond e (Some c) (find (is_of task) cs) ≡ Some b → (find (is_of task) cs ≡ Some b → All (λ (c : Binding). is_of task c ≡ true → may_join kind c ≡ true) cs) → All (λ (c : Binding). is_of task c ≡ true → may_join kind c ≡ true) (c ∷ cs)
      at true is f rest = All-cons (λ (c : Binding). is_of task c ≡ true → may_join kind c ≡ true) c cs
          (λ _. let same : b ≡ c = (let g : Some c ≡ Some b = f in cc) in rw (sym same) may) (past is)
      at false is f rest = All-cons (λ (c : Binding). is_of task c ≡ true → may_join kind c ≡ true) c cs
          (λ e. absurd (let t : true ≡ false = sym e ∙ is in cc)) (rest f)

  -- after one move
  AreBound-changed : (kind : GroupKind) (task : ℕ) (b : Binding) (tasks : List Binding) → MayTake kind → AreBound groups tasks → binding_of task tasks ≡ Some b → may_join kind b ≡ true → AreBound groups (changed (is_of task) (in_group gid kind) tasks)
  AreBound-changed kind task b tasks may bound found joining = record {
    rising = AreRising-changed (is_of task) (in_group gid kind) tasks (task-in_group kind) bound.rising;
    each = All-map (IsBound groups) (λ (c : Binding). cond (is_of task c) (in_group gid kind c) c) tasks
        (λ k d within. cond-case (IsBound groups) (is_of task (get_or tasks k d)) (in_group gid kind (get_or tasks k d)) (get_or tasks k d)
        (λ is. IsBound-in_group kind (get_or tasks k d) may (may_join-tested kind task b tasks bound.rising found joining k d within is) (bound.each k d within))
        (λ is. bound.each k d within));
  }

  -- after a move that nothing is against
  AreBound-moved : (kind : GroupKind) (task : Option ℕ) (tasks : List Binding) → MayTake kind → AreBound groups tasks → against_task kind tasks task ≡ None → AreBound groups (moved gid kind task tasks)
  AreBound-moved kind None tasks may bound none = bound
  AreBound-moved kind (Some task) tasks may bound none = by_binding (binding_of task tasks) refl none
    where
      by_binding : (o : Option Binding) → binding_of task tasks ≡ o → against_binding kind task o ≡ None → AreBound groups (changed (is_of task) (in_group gid kind) tasks)
      by_binding None found none = absurd (let f : Some (record { why = NoTask; arg = task }) ≡ None = none in cc)
      by_binding (Some b) found none = by_test (may_join kind b) refl none
        where
          by_test : (t : Bool) → may_join kind b ≡ t → cond {A = Option Refusal} t None (Some (record { why = OtherControl; arg = task })) ≡ None → AreBound groups (changed (is_of task) (in_group gid kind) tasks)
          by_test true is e = AreBound-changed kind task b tasks may bound found is
          by_test false is e = absurd (let f : Some (record { why = OtherControl; arg = task }) ≡ None = e in cc)

  -- after the moves of a whole text
  pub AreBound-moves : (kind : GroupKind) (es : List (List ℕ)) (tasks : List Binding) → MayTake kind → AreBound groups tasks → AreBound groups (moves gid kind es tasks).tasks
  AreBound-moves kind [] tasks may bound = bound
  AreBound-moves kind (e ∷ es) tasks may bound = at (against_task kind tasks (task_in e)) refl (λ is. AreBound-moves kind es (moved gid kind (task_in e) tasks) may (AreBound-moved kind (task_in e) tasks may bound is))
    where
      at : (o : Option Refusal) → against_task kind tasks (task_in e) ≡ o → (against_task kind tasks (task_in e) ≡ None → AreBound groups (moves gid kind es (moved gid kind (task_in e) tasks)).tasks) → AreBound groups (or_ended o tasks (moves gid kind es (moved gid kind (task_in e) tasks))).tasks
      at (Some r) is rest = bound
      at None is rest = rest is
