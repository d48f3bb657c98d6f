-- The members of a group among the bindings from a loop's index on.
use Rattle.std.proofs.Common.{ℕ, Bool, List, drop, map, filter}
use Rattle.task_binding.specs.declared.binding.Binding.{Binding}

abbrev pub members_from : (Binding → Bool) → List Binding → ℕ → List ℕ
members_from p xs n = map (λ b. b.task) (filter p (drop n xs))
