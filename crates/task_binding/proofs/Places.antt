-- What the place of a task says of the tasks: `seen` is the slice that was searched, `items` the table, and `now` its meaning.
use Rattle.std.proofs.Common.{◌≡◌, ◌≢◌, ℕ, ◌<◌, List, length, set, get_or, All, Some, None, sym, ap, ◌∙◌, subst, true, false, not, eqb, inl, inr}
use Rattle.std.proofs.lemmas.Bool.{cases_eq, eq-eqb, ne_eqb}
use Rattle.rc_base.specs.declared.names.Gid.{Gid}
use Rattle.std.specs.List.{HoldsAt}
use Rattle.task_binding.specs.declared.binding.Binding.{Binding}
use Rattle.task_binding.specs.Bindings.{AreRising, binding_of, changed, is_of}
use Rattle.task_binding.proofs.Order.{set-changed, binding_of-at, binding_of-none}

-- the place of the task in the table, and the binding there
pub record IsBoundAt (task : ℕ) (items : List Binding) (place : ℕ) (b : Binding) : Type 0 where
  pub rising : AreRising items
  pub within : place < length items
  pub task_is : (get_or items place b).task ≡ task
  pub binding : b ≡ get_or items place b

-- a place that was found
pub IsBoundAt-at : (task : ℕ) (seen items : List Binding) (place : ℕ) (b : Binding) → seen ≡ items → AreRising items → place < length seen → HoldsAt (λ x. x.task ≡ task) seen place → b ≡ get_or items place b → IsBoundAt task items place b
IsBoundAt-at task seen items place b same rising within there is = record {
  rising = rising;
  within = subst (λ (xs : List Binding). place < length xs) same within;
  task_is = subst (λ (xs : List Binding). (get_or xs place b).task ≡ task) same (there b);
  binding = is;
}

-- a task that was not found
pub binding_of-unbound : (task : ℕ) (seen items now : List Binding) → seen ≡ items → items ≡ now → All (λ x. x.task ≢ task) seen → binding_of task now ≡ None
binding_of-unbound task seen items now same view all = subst (λ (xs : List Binding). binding_of task xs ≡ None) (same ∙ view) (binding_of-none task seen all)

-- the binding at the place that was found
pub binding_of-bound : (task : ℕ) (items now : List Binding) (place : ℕ) (b : Binding) → items ≡ now → IsBoundAt task items place b → binding_of task now ≡ Some b
binding_of-bound task items now place b view at =
    subst (λ (xs : List Binding). binding_of task xs ≡ Some b) view (binding_of-at task items place b at.rising at.within at.task_is ∙ ap Some (sym at.binding))

-- a change there is that of the task
pub set-rebound : (task : ℕ) (how : Binding → Binding) (items now : List Binding) (place : ℕ) (b : Binding) → items ≡ now → IsBoundAt task items place b → set items place (how b) ≡ changed (is_of task) how now
set-rebound task how items now place b view at =
    subst (λ (xs : List Binding). set items place (how b) ≡ changed (is_of task) how xs) view
    (ap (λ (x : Binding). set items place (how x)) at.binding ∙ set-changed task how items place b at.rising at.within at.task_is)

-- two groups that differ, or agree
pub gid-differ : (a b : Gid) → not (eqb a.0 b.0) ≡ true → a ≡ b → ⊥
gid-differ a b other same = let is = eq-eqb a.0 b.0 (ap (λ (g : Gid). g.0) same) in let false_is_true : false ≡ true = rw is at other in absurd (cc)

-- groups of one number are the same
pub gid-agree : (a b : Gid) → not (eqb a.0 b.0) ≡ false → a ≡ b
gid-agree a b same = elim (cases_eq a.0 b.0) [
  | inl is ↦ ap (λ n. record { 0 = n }) is
  | inr other ↦ absurd (let fails = ne_eqb a.0 b.0 other in let true_is_false : true ≡ false = rw fails at same in cc)
]
