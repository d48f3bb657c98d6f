use Rattle.std.proofs.Common.{◌≢◌, List, Option, IsSomeAnd, refl, set, sym, ap, ◌∙◌, subst}
use Rattle.std.proofs.lemmas.Option.{none-some}
use Rattle.task_binding.specs.declared.binding.Binding.{Binding}
use Rattle.task_binding.specs.Bindings.{counted}
use Rattle.task_binding.proofs.Places.{IsBoundAt, gid-agree, binding_of-bound, IsBoundAt-at, gid-differ, set-rebound, binding_of-unbound}
use Rattle.task_binding.proofs.tasks.Tasks.bind_mon.Goals as goal

pub returns-in_default-clause-no_task : goal.returns-in_default-clause-no_task
returns-in_default-clause-no_task c = (λ _. binding_of-unbound c.args.task c.deref.result.now c.self.inside.bindings.items c.args.self.now c.deref.ensures.value c.self.view_is c.in_default.ensures.nowhere, λ _. refl)

pub returns-in_default-clause-control : goal.returns-in_default-clause-control
returns-in_default-clause-control c =
    let none = binding_of-unbound c.args.task c.deref.result.now c.self.inside.bindings.items c.args.self.now c.deref.ensures.value c.self.view_is c.in_default.ensures.nowhere in
    (λ e. absurd (cc), λ some. absurd (subst (λ (o : Option Binding). IsSomeAnd o (λ b. b.control ≢ c.args.parent)) none some))

IsBoundAt-place : (c : goal.After-rebind) → IsBoundAt c.args.task c.self.inside.bindings.items c.in-Some.place c.index.result.now
IsBoundAt-place c = IsBoundAt-at c.args.task c.deref.result.now c.self.inside.bindings.items c.in-Some.place c.index.result.now c.deref.ensures.value c.self.invariant.0 c.in-Some.ensures.within c.in-Some.ensures.there c.index.ensures

pub returns-then-ne-clause-no_task : goal.returns-then-ne-clause-no_task
returns-then-ne-clause-no_task c =
    let bound = binding_of-bound c.args.task c.self.inside.bindings.items c.args.self.now c.in-Some.place c.index.result.now c.self.view_is
    (IsBoundAt-at c.args.task c.deref.result.now c.self.inside.bindings.items c.in-Some.place c.index.result.now c.deref.ensures.value c.self.invariant.0 c.in-Some.ensures.within c.in-Some.ensures.there c.index.ensures) in
    (λ e. absurd (cc), λ none. absurd (none-some _ (sym none ∙ bound)))

pub returns-then-ne-clause-control : goal.returns-then-ne-clause-control
returns-then-ne-clause-control c =
    let bound = binding_of-bound c.args.task c.self.inside.bindings.items c.args.self.now c.in-Some.place c.index.result.now c.self.view_is
    (IsBoundAt-at c.args.task c.deref.result.now c.self.inside.bindings.items c.in-Some.place c.index.result.now c.deref.ensures.value c.self.invariant.0 c.in-Some.ensures.within c.in-Some.ensures.there c.index.ensures) in
    (λ _. subst (λ (o : Option Binding). IsSomeAnd o (λ b. b.control ≢ c.args.parent)) (sym bound) (λ e. gid-differ c.index.result.now.control c.args.parent (sym c.if-ne.ensures) e), λ _. refl)

pub returns-clause-ok : goal.returns-clause-ok
returns-clause-ok c =
    c.rebind.ensures
    ∙ ap (λ (xs : List Binding). set xs c.in-Some.place (counted c.args.group c.index.result.now)) (sym c.self.view_is)
    ∙ set-rebound c.args.task (counted c.args.group) c.self.inside.bindings.items c.args.self.now c.in-Some.place c.index.result.now c.self.view_is (IsBoundAt-place c)

pub returns-clause-no_task : goal.returns-clause-no_task
returns-clause-no_task c = (λ e. absurd (cc), λ none. absurd (none-some _ (sym none ∙ binding_of-bound c.args.task c.self.inside.bindings.items c.args.self.now c.in-Some.place c.index.result.now c.self.view_is (IsBoundAt-place c))))

pub returns-clause-control : goal.returns-clause-control
returns-clause-control c = (
  λ e. absurd (cc),
  λ other. absurd (subst (λ (o : Option Binding). IsSomeAnd o (λ b. b.control ≢ c.args.parent))
      (binding_of-bound c.args.task c.self.inside.bindings.items c.args.self.now c.in-Some.place c.index.result.now c.self.view_is (IsBoundAt-place c)) other (gid-agree c.index.result.now.control c.args.parent (sym c.if-ne.ensures))),
)
