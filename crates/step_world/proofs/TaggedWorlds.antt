-- An access of a world reads its tag.
use Rattle.std.proofs.Common.{◌≡◌, ℕ, false, length, map, get_or, Some, None, refl, sym, ap, ◌∙◌, subst}
use Rattle.std.proofs.lemmas.Option.{same_Some, none-some}
use Rattle.machine.specs.Maps.{domain_of}
use Rattle.rc_base.proofs.laws.Tags.{same_tag}
use Rattle.rc_base.specs.declared.names.Tag.{Tag}
use Rattle.run_law.proofs.laws.SoundHistories.{Fits-tree_after}
use Rattle.run_law.specs.Entries.{entry_value}
use Rattle.run_law.specs.Growth.{tag_of}
use Rattle.run_law.specs.Ops.{is_command}
use Rattle.run_law.specs.TreeHistory.{tree_after}
use Rattle.script_ops.specs.Fits.{Fits}
use Rattle.script_ops.specs.Values.{ScriptValue}
use Rattle.script_ops.specs.declared.op.Op.TheVariants as ops
use Rattle.step_world.proofs.KeptWorlds.{IsWorldOf-step, Leaves, moves-leaves}
use Rattle.step_world.proofs.laws.StepRows.{step_tags}
use Rattle.step_world.specs.Answers.{HasNext, HasTagged}
use Rattle.step_world.specs.Machine.{Moves, Steps, Tags, thread_at}
use Rattle.step_world.specs.Passing.{IsResolved}
use Rattle.step_world.specs.Worlds.{AreInPlay, KeepsLists, IsWorldOf, machine_of}
use Rattle.step_world.specs.declared.thread_state.ThreadState.TheVariants.{Ready, Tagged}
use Rattle.step_world.specs.declared.thread_state.Thread.{Thread}
use Rattle.step_world.specs.declared.world.World.{World}
use Rattle.tree_law.specs.Resolving.{Owned, resolve}
use Rattle.tree_law.specs.State.{tasks_of}
use Rattle.step_world.proofs.TakenWorlds.{IsQuiet, journals-quiet, leaves-quiet, lists-quiet, tree-quiet, within-next}

-- the tag that the tree gives
tag-resolved : (script : ScriptValue) (old : World) (task cpu : ℕ) (tag : Tag) → IsWorldOf script old → IsResolved old task cpu tag
    → tag ≡ tag_of script.machine (tree_after script (machine_of old).journals.tree) (length (machine_of old).journals.tree) task cpu
tag-resolved script old task cpu tag world is =
    let same : resolve old.tree.machine old.tree.state task cpu ≡ resolve script.machine (tree_after script (machine_of old).journals.tree) task cpu =
    ap (λ m. resolve m old.tree.state task cpu) world.tree.machine ∙ ap (λ s. resolve script.machine s task cpu) world.tree.state in
    same_tag tag (tag_of script.machine (tree_after script (machine_of old).journals.tree) (length (machine_of old).journals.tree) task cpu)
    (is.epoch ∙ world.tree.epoch) (is.owner ∙ ap (λ (o : Owned). o.owner) same) (is.class ∙ ap (λ (o : Owned). o.class) same) (is.rmid ∙ ap (λ (o : Owned). o.rmid) same) (is.mask ∙ ap (λ (o : Owned). o.mask) same)
    (is.domain ∙ ap (λ m. domain_of m cpu) world.tree.machine)

-- the access fits the tree
pub access-fits : (script : ScriptValue) (w : World) (t task cpu addr : ℕ) → IsWorldOf script w → HasNext script (machine_of w) t (ops.Access task cpu addr) → Fits w.tree.machine (tasks_of w.tree.state) (ops.Access task cpu addr)
access-fits script w t task cpu addr world next =
    subst (λ m. Fits m (tasks_of w.tree.state) (ops.Access task cpu addr)) (sym world.tree.machine) (subst (λ s. Fits script.machine (tasks_of s) (ops.Access task cpu addr)) (sym world.tree.state)
    (Fits-tree_after script (map entry_value w.commands.items) t (thread_at (machine_of w) t).next (ops.Access task cpu addr) world.lawful next.is))

-- its tag is read
pub tagged : (script : ScriptValue) (t n task cpu addr : ℕ) (tag : Tag) (old new : World) → IsWorldOf script old → HasNext script (machine_of old) t (ops.Access task cpu addr) → n ≡ (thread_at (machine_of old) t).next
    → (thread_at (machine_of old) t).state ≡ Ready → old.holder ≡ None → IsResolved old task cpu tag → IsQuiet t (record { next = n; state = Tagged tag }) old new → new.slices.items ≡ old.slices.items → new.holder ≡ old.holder
    → IsWorldOf script new × HasTagged script t tag.epoch (ops.Access task cpu addr) (machine_of old) (machine_of new)
tagged script t n task cpu addr tag old new world next number place free resolved quiet slices holder =
    let now : Thread = record { next = n; state = Tagged tag } in
    let within = within-next script old t (ops.Access task cpu addr) world next in
    let nobody : (u : ℕ) → new.holder ≡ Some u → ⊥ = λ u held. none-some u (sym (holder ∙ free) ∙ held) in
    let leaves : Leaves t now old new = leaves-quiet script t now old new world within quiet (λ u apart held. absurd (nobody u held)) in
    let moves : Moves t now (machine_of old) (machine_of new) = moves-leaves t now old new within leaves in
    let tags : Tags script t task cpu (machine_of old) (machine_of new) = record {
      journals = journals-quiet script t now old new world within quiet slices;
      holder = holder;
      moves = subst (λ tag. Moves t (record { next = (thread_at (machine_of old) t).next; state = Tagged tag }) (machine_of old) (machine_of new)) (tag-resolved script old task cpu tag world resolved)
          (subst (λ k. Moves t (record { next = k; state = Tagged tag }) (machine_of old) (machine_of new)) number moves);
    } in
    let step : Steps script t (machine_of old) (machine_of new) = step_tags script t task cpu addr (machine_of old) (machine_of new) next.present next.is place free tags in (
      IsWorldOf-step script old new t now world within step leaves (tree-quiet script t now old new world within quiet) (subst (λ ss. AreInPlay script ss) (sym slices) world.slices)
          (λ d. subst (λ k. KeepsLists script t k (get_or new.lists.items t d)) (sym number) (record {
            access = λ other is. subst (λ c. is_command c ≡ false) (same_Some (ops.Access task cpu addr) other (sym next.is ∙ is)) refl;
            ready = lists-quiet script t now old new world within quiet Ready d place;
          }))
          (λ other d held is. absurd (nobody t held)),
      record { task = task; cpu = cpu; addr = addr; access = refl; place = place; free = free; row = tags; told = resolved.epoch ∙ world.tree.epoch },
    )
