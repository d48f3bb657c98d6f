use Rattle.std.proofs.Common.{List, refl, set, sym, ap, ◌∙◌}
use Rattle.std.proofs.lemmas.Option.{none-some}
use Rattle.task_binding.specs.Bindings.{joined}
use Rattle.task_binding.specs.declared.binding.Binding.{Binding}
use Rattle.task_binding.proofs.Places.{IsBoundAt, binding_of-bound, IsBoundAt-at, set-rebound, binding_of-unbound}
use Rattle.task_binding.proofs.tasks.Tasks.bind_ctrl.Goals as goal

IsBoundAt-place : (c : goal.After-rebind) → IsBoundAt c.args.task c.self.inside.bindings.items c.in-Some.place c.index-b.result.now
IsBoundAt-place c = IsBoundAt-at c.args.task c.deref.result.now c.self.inside.bindings.items c.in-Some.place c.index-b.result.now c.deref.ensures.value c.self.invariant.0 c.in-Some.ensures.within c.in-Some.ensures.there c.index-b.ensures

pub returns-in_default-clause-no_task : goal.returns-in_default-clause-no_task
returns-in_default-clause-no_task c = (λ _. binding_of-unbound c.args.task c.deref.result.now c.self.inside.bindings.items c.args.self.now c.deref.ensures.value c.self.view_is c.in_default.ensures.nowhere, λ _. refl)

pub returns-clause-ok : goal.returns-clause-ok
returns-clause-ok c =
    c.rebind.ensures
    ∙ ap (λ (xs : List Binding). set xs c.in-Some.place (joined c.args.group c.index-b.result.now)) (sym c.self.view_is)
    ∙ set-rebound c.args.task (joined c.args.group) c.self.inside.bindings.items c.args.self.now c.in-Some.place c.index-b.result.now c.self.view_is (IsBoundAt-place c)

pub returns-clause-no_task : goal.returns-clause-no_task
returns-clause-no_task c = (λ e. absurd (cc), λ none. absurd (none-some _ (sym none ∙ binding_of-bound c.args.task c.self.inside.bindings.items c.args.self.now c.in-Some.place c.index-b.result.now c.self.view_is (IsBoundAt-place c))))
