use Rattle.std.proofs.Common.{◌≡◌, ℕ, Option, Some, None, IsSome, ap, ◌∙◌, subst}
use Rattle.task_binding.specs.declared.binding.Binding.{Binding}
use Rattle.task_binding.specs.Bindings.{binding_of}
use Rattle.task_binding.proofs.Places.{IsBoundAt, binding_of-bound, IsBoundAt-at, binding_of-unbound}
use Rattle.task_binding.proofs.tasks.Tasks.groups_of.Goals as goal

pub unreachable-requires : goal.unreachable-requires
unreachable-requires c =
    let none = binding_of-unbound c.from.result c.deref.result.now c.self.inside.bindings.items c.args.self.now c.deref.ensures.value c.self.view_is c.in-None.ensures.nowhere in
    let gone = subst (λ (o : Option Binding). IsSome o) (subst (λ (task : ℕ). binding_of task c.args.self.now ≡ None) c.from.ensures none) c.requires in absurd (cc)

IsBoundAt-place : (c : goal.After-result-in-Some-1) → IsBoundAt c.from.result c.self.inside.bindings.items c.in-Some.place c.index-b.result.now
IsBoundAt-place c = IsBoundAt-at c.from.result c.deref.result.now c.self.inside.bindings.items c.in-Some.place c.index-b.result.now c.deref.ensures.value c.self.invariant.0 c.in-Some.ensures.within c.in-Some.ensures.there c.index-b.ensures

pub returns : goal.returns
returns c =
    let task_is = ap (λ (b : Binding). b.task) (IsBoundAt-place c).binding ∙ (IsBoundAt-place c).task_is ∙ c.from.ensures in
    subst (λ (task : ℕ). binding_of task c.args.self.now ≡ Some c.index-b.result.now) c.from.ensures (binding_of-bound c.from.result c.self.inside.bindings.items c.args.self.now c.in-Some.place c.index-b.result.now c.self.view_is (IsBoundAt-place c))
    ∙ ap (λ (task : ℕ). Some (record { task = task; control = c.index-b.result.now.control; monitor = c.index-b.result.now.monitor })) task_is
