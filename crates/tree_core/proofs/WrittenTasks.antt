-- What a write of `tasks` answers and leaves.
use Rattle.std.proofs.Common.{◌≡◌, ℕ, ◌≤◌, true, false, List, [], length, find, Option, None, Some, refl, sym, subst, ap, ◌∙◌}
use Rattle.std.specs.Option.{option_map_or}
use Rattle.group_tree.specs.declared.group.Group.{Group}
use Rattle.machine.specs.Ranges.{InRange}
use Rattle.machine.specs.declared.parameters.Parameters.{Parameters}
use Rattle.path_names.specs.declared.dirs.DirRef.{DirRef}
use Rattle.path_names.specs.declared.files.FileKind.TheVariants as files
use Rattle.path_names.specs.declared.path_ref.PathRef.TheVariants.{File}
use Rattle.rc_base.specs.declared.replies.Why.TheVariants.{Locking}
use Rattle.script_ops.specs.declared.op.Op.TheVariants.{Write}
use Rattle.script_ops.specs.declared.limits.TheConstants.{MOST_TASKS}
use Rattle.task_binding.specs.declared.binding.Binding.{Binding}
use Rattle.tree_core.proofs.Outcomes.{after-nothing, needs-nothing}
use Rattle.tree_core.proofs.Soundness.{IsSound-from_status}
use Rattle.tree_core.proofs.WriteOutcomes.{Leaves, Leaves-write}
use Rattle.tree_core.proofs.WrittenMasks.{refusal-write_text}
use Rattle.tree_core.specs.CpuFiles.{unless}
use Rattle.tree_core.specs.Kept.{Keeps}
use Rattle.tree_core.specs.Tables.{Tables}
use Rattle.tree_law.proofs.laws.Steps.{next-sound}
use Rattle.tree_law.specs.Freeing.{counts_of}
use Rattle.tree_law.specs.Places.{controlling, group_at, is_closed}
use Rattle.tree_law.specs.Refusals.{Refusal, plain}
use Rattle.tree_law.specs.Sound.{IsSound}
use Rattle.tree_law.specs.State.{State}
use Rattle.tree_law.specs.Steps.{accepted, after, left, refusal}
use Rattle.tree_law.specs.commands.Tasks as tasks
use Rattle.tree_law.specs.commands.Write as write

-- ---- the state with other tasks

-- what the type keeps of it
pub Keeps-with_tasks : {m : Parameters} {t : Tables} {s : State} {epoch : ℕ} (later new : List Binding) → Keeps m t s epoch → new ≡ later → IsSound m (record s { tasks = later }) → length later ≤ MOST_TASKS → Keeps m (record t { tasks = new }) (record s { tasks = new }) epoch
Keeps-with_tasks {m} {t} {s} {epoch} later new keeps is sound few = record {
  stands = record {
    groups = keeps.stands.groups;
    tasks = refl;
    cpus = keeps.stands.cpus;
    limbo = keeps.stands.limbo;
    threshold = keeps.stands.threshold;
    regions = keeps.stands.regions;
    locks = keeps.stands.locks;
    shareable = keeps.stands.shareable;
    taken = keeps.stands.taken;
    gids_left = keeps.stands.gids_left;
    locks_left = keeps.stands.locks_left;
  };
  sound = subst (λ (bs : List Binding). IsSound m (record s { tasks = bs })) (sym is) sound;
  few_tasks = subst (λ (bs : List Binding). length bs ≤ MOST_TASKS) (sym is) few;
}

-- ---- what a text asks of a group

module _ (s : State) (g : Group) (text : List ℕ) where
  -- a closed group takes no task
  pub refusal-closed : is_closed s (controlling g.gid g.kind) ≡ true → tasks.refusal s g text ≡ Some (plain Locking)
  unfolding tasks.refusal
  refusal-closed closed = rw closed refl

  -- and nothing changes
  pub kept-closed : is_closed s (controlling g.gid g.kind) ≡ true → tasks.kept s g text ≡ s
  unfolding tasks.kept
  kept-closed closed = rw closed refl

  -- another is refused the first task that cannot move
  pub refusal-open : is_closed s (controlling g.gid g.kind) ≡ false → tasks.refusal s g text ≡ (tasks.moves_in s g text).ended
  unfolding tasks.refusal
  refusal-open opened = rw opened refl

  -- and takes those before it
  pub kept-open : is_closed s (controlling g.gid g.kind) ≡ false → tasks.kept s g text ≡ record s { tasks = (tasks.moves_in s g text).tasks }
  unfolding tasks.kept
  kept-open opened = rw opened refl

-- ---- the command

module _ (m : Parameters) (s : State) (dir : DirRef) (text : List ℕ) (writable : find (write.against s (File dir files.Tasks)) write.reasons ≡ None) where
  -- nothing follows it, accepted or refused
  pub after-tasks : (k : ℕ) → after m s k (Write (File dir files.Tasks) text) ≡ []
  unfolding write.after
  after-tasks k = after-nothing m s k (Write (File dir files.Tasks) text) refl

  -- the tasks that move, in a refused write too
  kept_at : Option Group → State
  kept_at o = option_map_or (λ g. tasks.kept s g text) o s

  left-tasks : left s (Write (File dir files.Tasks) text) ≡ kept_at (group_at s dir)
  unfolding write.refused kept_at
  left-tasks = refl

  accepted-tasks : (looks : List ℕ) → accepted m s (Write (File dir files.Tasks) text) looks ≡ kept_at (group_at s dir)
  unfolding write.accepted kept_at
  accepted-tasks looks = refl

  -- it frees no RMID
  freed-tasks : write.freed s (File dir files.Tasks) text ≡ []
  unfolding write.freed
  freed-tasks = refl

  -- what is left is what is next
  leaves-kept : (o : Option Refusal) (looks : List ℕ) → unless o (left s (Write (File dir files.Tasks) text)) (accepted m s (Write (File dir files.Tasks) text) looks) ≡ kept_at (group_at s dir)
  leaves-kept None looks = accepted-tasks looks
  leaves-kept (Some r) looks = left-tasks

  -- a directory that is no group's takes any text, and nothing changes
  pub Leaves-nowhere : (looks : List ℕ) → group_at s dir ≡ None → Leaves m s (File dir files.Tasks) text looks None s
  unfolding kept_at
  Leaves-nowhere looks none = Leaves-write m s (File dir files.Tasks) text looks None s
      (refusal-write_text m s (File dir files.Tasks) text writable ∙ ap (λ (o : Option Group). option_map_or (λ g. tasks.refusal s g text) o None) none)
      (leaves-kept None looks ∙ ap kept_at none)

  module _ (g : Group) (is_group : group_at s dir ≡ Some g) where
    -- what is against the command is against the tasks
    refusal-group : refusal m s (Write (File dir files.Tasks) text) ≡ tasks.refusal s g text
    refusal-group = refusal-write_text m s (File dir files.Tasks) text writable ∙ ap (λ (o : Option Group). option_map_or (λ x. tasks.refusal s x text) o None) is_group

    -- the tasks of the text move, up to the first that cannot
    pub Leaves-tasks : (looks : List ℕ) → Leaves m s (File dir files.Tasks) text looks (tasks.refusal s g text) (tasks.kept s g text)
    unfolding kept_at
    Leaves-tasks looks = Leaves-write m s (File dir files.Tasks) text looks (tasks.refusal s g text) (tasks.kept s g text) refusal-group (leaves-kept (tasks.refusal s g text) looks ∙ ap kept_at is_group)

    -- they leave a sound tree
    pub IsSound-kept : InRange m → IsSound m s → length text ≤ 4096 → IsSound m (tasks.kept s g text)
    IsSound-kept range sound short =
        let op = Write (File dir files.Tasks) text in
        let next = next-sound m s op [] range sound short (ap length (sym (needs-nothing m s op (ap (counts_of m) freed-tasks)))) in
        IsSound-from_status m (tasks.kept s g text) _ (subst (IsSound m) (Leaves-tasks []).state next)
