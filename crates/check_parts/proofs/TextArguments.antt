-- The arguments of what stands against a text of CPUs or tasks are numbers of 64 bits.
use Rattle.std.proofs.Common.{◌≡◌, ℕ, ◌^◌, ◌<◌, List, [], ◌∷◌, filter, Option, Some, None, refl, arith}
use Rattle.std.specs.Prelude.{nat_le}
use Rattle.cpu_lists.specs.Sets.{answer_of, judged, least}
use Rattle.group_tree.specs.declared.group.Group.{Group}
use Rattle.group_tree.specs.declared.group_kind.GroupKind.TheVariants.{Control, Monitor}
use Rattle.group_tree.specs.declared.group_kind.GroupKind.{GroupKind}
use Rattle.machine.specs.declared.parameters.Parameters.{Parameters}
use Rattle.num_text.proofs.laws.Limits.{below-lt}
use Rattle.num_text.specs.Blanks.{trim}
use Rattle.num_text.specs.Numbers.{dec_of}
use Rattle.rc_base.specs.declared.names.Gid.{Gid}
use Rattle.rc_base.specs.declared.replies.Why.TheVariants as whys
use Rattle.task_binding.specs.Bindings.{binding_of}
use Rattle.task_binding.specs.declared.binding.Binding.{Binding}
use Rattle.tree_law.specs.Places.{controlling, is_closed}
use Rattle.tree_law.specs.Refusals.{Refusal, plain}
use Rattle.tree_law.specs.State.{State}
use Rattle.tree_law.specs.commands.Cpus as cpus
use Rattle.tree_law.specs.commands.Tasks as tasks
use Rattle.check_parts.proofs.SmallReasons.{IsSmall, IsSmall-cond, IsSmall-plain}

-- ---- CPU texts

pub IsSmall-answer : (s : State) (g : Group) (m : Parameters) (numbers : Option (List ℕ)) → IsSmall (cpus.refusal s g (answer_of m.cpus numbers))
unfolding cpus.refusal answer_of
IsSmall-answer s g m None = IsSmall-cond (is_closed s (controlling g.gid g.kind)) (Some (plain whys.Locking)) (Some (plain whys.BadCpus)) (IsSmall-plain whys.Locking) (IsSmall-plain whys.BadCpus)
IsSmall-answer s g m (Some numbers) =
    IsSmall-cond (is_closed s (controlling g.gid g.kind)) (Some (plain whys.Locking)) (cpus.against_read g.gid g.kind s.cpus (judged numbers (least (filter (nat_le m.cpus) numbers)))) (IsSmall-plain whys.Locking) (at (least (filter (nat_le m.cpus) numbers)))
  where
    set : (kind : GroupKind) (set : ℕ) → IsSmall (cpus.against_set g.gid kind s.cpus set)
    set Control n = IsSmall-cond _ (Some (plain whys.DropsDefault)) None (IsSmall-plain whys.DropsDefault) tt
    set (Monitor parent) n = IsSmall-cond _ (Some (plain whys.NotParents)) None (IsSmall-plain whys.NotParents) tt

    at : (o : Option ℕ) → IsSmall (cpus.against_read g.gid g.kind s.cpus (judged numbers o))
    at None = set g.kind (cpus.set_of numbers)
    at (Some stranger) = omega arith

-- ---- task texts

pub IsSmall-moves : (gid : Gid) (kind : GroupKind) (elements : List (List ℕ)) (bindings : List Binding) → IsSmall (tasks.moves gid kind elements bindings).ended
unfolding tasks.task_in
IsSmall-moves gid kind [] bindings = tt
IsSmall-moves gid kind (e ∷ es) bindings = ended (tasks.against_task kind bindings (tasks.task_in e)) (task (tasks.task_in e) (λ n is. below-lt (2 ^ 64) (dec_of (trim e)) n is)) (IsSmall-moves gid kind es (tasks.moved gid kind (tasks.task_in e) bindings))
  where
    binding : (n : ℕ) (o : Option Binding) → n < 2 ^ 64 → IsSmall (tasks.against_binding kind n o)
    binding n None small = small
    binding n (Some b) small = IsSmall-cond (tasks.may_join kind b) None (Some (record { why = whys.OtherControl; arg = n })) tt small

    task : (o : Option ℕ) → ((n : ℕ) → o ≡ Some n → n < 2 ^ 64) → IsSmall (tasks.against_task kind bindings o)
    task None small = omega arith
    task (Some n) small = binding n (binding_of n bindings) (small n refl)

    ended : (o : Option Refusal) → IsSmall o → IsSmall (tasks.moves gid kind es (tasks.moved gid kind (tasks.task_in e) bindings)).ended
        → IsSmall (tasks.or_ended o bindings (tasks.moves gid kind es (tasks.moved gid kind (tasks.task_in e) bindings))).ended
    ended None first rest = rest
    ended (Some r) first rest = first
