-- The numbers of tasks, when tasks change groups.
use Rattle.std.proofs.Common.{◌≡◌, ℕ, ◌<◌, Bool, true, false, cond, List, [], ◌∷◌, get_or, map, Option, None, Some, refl, sym, subst, ap, ◌∙◌}
use Rattle.group_tree.specs.declared.group_kind.GroupKind.{GroupKind}
use Rattle.group_tree.specs.declared.group_kind.GroupKind.TheVariants.{Control, Monitor}
use Rattle.lists.proofs.Pairs.{AllPairs-map}
use Rattle.rc_base.specs.declared.names.Gid.{Gid}
use Rattle.task_binding.specs.Bindings as bindings
use Rattle.task_binding.specs.declared.binding.Binding.{Binding}
use Rattle.tree_law.specs.Refusals.{Refusal}
use Rattle.tree_law.specs.commands.Tasks as tasks

-- the numbers of these tasks
abbrev pub numbers_of : List Binding → List ℕ
numbers_of bs = map (λ (b : Binding). b.task) bs

-- a change that keeps each task's number keeps the numbers
pub numbers_of-changed : (which : Binding → Bool) (how : Binding → Binding) → ((b : Binding) → (how b).task ≡ b.task) → (bs : List Binding) → numbers_of (bindings.changed which how bs) ≡ numbers_of bs
numbers_of-changed which how same [] = refl
numbers_of-changed which how same (b ∷ bs) = ap (λ (n : ℕ). n ∷ numbers_of (bindings.changed which how bs)) (at (which b)) ∙ ap (λ (ns : List ℕ). b.task ∷ ns) (numbers_of-changed which how same bs)
  where
    at : (c : Bool) → (cond c (how b) b).task ≡ b.task
    at true = same b
    at false = refl

-- the same tasks, with other groups
pub AreRising-changed : (which : Binding → Bool) (how : Binding → Binding) (tasks : List Binding) → ((b : Binding) → (how b).task ≡ b.task) → bindings.AreRising tasks → bindings.AreRising (bindings.changed which how tasks)
AreRising-changed which how tasks same rising =
    AllPairs-map (λ (a b : Binding). a.task < b.task) (λ (b : Binding). cond (which b) (how b) b) tasks
    (λ i j d below within. subst (λ (n : ℕ). n < (cond (which (get_or tasks j d)) (how (get_or tasks j d)) (get_or tasks j d)).task) (sym (at (which (get_or tasks i d)) (get_or tasks i d)))
    (subst (λ (n : ℕ). (get_or tasks i d).task < n) (sym (at (which (get_or tasks j d)) (get_or tasks j d))) (rising i j d below within)))
  where
    at : (c : Bool) (b : Binding) → (cond c (how b) b).task ≡ b.task
    at true b = same b
    at false b = refl

-- ---- a write of tasks

-- one move
numbers_of-moved : (gid : Gid) (kind : GroupKind) (task : Option ℕ) (bs : List Binding) → numbers_of (tasks.moved gid kind task bs) ≡ numbers_of bs
numbers_of-moved gid kind None bs = refl
numbers_of-moved gid kind (Some task) bs = numbers_of-changed (bindings.is_of task) (tasks.in_group gid kind) (same kind) bs
  where
    same : (kind : GroupKind) (b : Binding) → (tasks.in_group gid kind b).task ≡ b.task
    same Control b = refl
    same (Monitor parent) b = refl

-- the moves of a whole text
pub numbers_of-moves : (gid : Gid) (kind : GroupKind) (es : List (List ℕ)) (bs : List Binding) → numbers_of (tasks.moves gid kind es bs).tasks ≡ numbers_of bs
numbers_of-moves gid kind [] bs = refl
numbers_of-moves gid kind (e ∷ es) bs = at (tasks.against_task kind bs (tasks.task_in e)) (numbers_of-moves gid kind es (tasks.moved gid kind (tasks.task_in e) bs) ∙ numbers_of-moved gid kind (tasks.task_in e) bs)
  where
    at : (o : Option Refusal) → numbers_of (tasks.moves gid kind es (tasks.moved gid kind (tasks.task_in e) bs)).tasks ≡ numbers_of bs
        → numbers_of (tasks.or_ended o bs (tasks.moves gid kind es (tasks.moved gid kind (tasks.task_in e) bs))).tasks ≡ numbers_of bs
    at None rest = rest
    at (Some r) rest = refl
