-- An access of a world passes: it reads its tag, and goes to its slice with it.
use Rattle.std.proofs.Common.{◌≡◌, ℕ, ◌+◌, ◌<◌, length, length-set, get_or, get_or-set_same, set, Some, refl, sym, ap, ◌∙◌, subst, arith}
use Rattle.std.proofs.lemmas.List.{set-set}
use Rattle.cache_core.specs.History.{floor_of}
use Rattle.cache_core.specs.declared.touched.Touched.{Touched}
use Rattle.cache_core.specs.declared.touched.Touched.TheVariants.{Stale}
use Rattle.machine.specs.Maps.{line_of}
use Rattle.machine.specs.Slices.{slice_of_line}
use Rattle.rc_base.specs.declared.names.Tag.{Tag}
use Rattle.script_ops.specs.Values.{ScriptValue, op_at}
use Rattle.script_ops.specs.declared.op.Op.TheVariants as ops
use Rattle.step_world.proofs.GivenAnswers.{answers-steps}
use Rattle.step_world.proofs.KeptWorlds.{slice_at-journals}
use Rattle.step_world.proofs.ReachedSlices.{CanReach, can-reach}
use Rattle.step_world.proofs.RoomLeft.{domain-there}
use Rattle.step_world.proofs.SliceFloors.{floor_free}
use Rattle.step_world.proofs.TaggedWorlds.{tagged}
use Rattle.step_world.proofs.TakenWorlds.{IsQuiet, within-next}
use Rattle.step_world.proofs.TouchedWorlds.{touched}
use Rattle.step_world.specs.Answers.{HasNext, HasTagged}
use Rattle.step_world.specs.Machine.{opening_thread, thread_at}
use Rattle.step_world.specs.Passing.{CanPass, HasPassed, IsResolved}
use Rattle.step_world.specs.Slices.{SliceValue, TouchesLine}
use Rattle.step_world.specs.Worlds.{IsWorldOf, machine_of}
use Rattle.step_world.specs.declared.action.Action.TheVariants as actions
use Rattle.step_world.specs.declared.action.Stepped.TheVariants.{Did}
use Rattle.step_world.specs.declared.thread_state.ThreadState.TheVariants.{Ready, Tagged}
use Rattle.step_world.specs.declared.thread_state.Thread.{Thread}
use Rattle.step_world.specs.declared.world.World.{World}
use Rattle.tree_core.specs.Values.{TreeValue}
use Rattle.tree_law.specs.Resolving.{resolve}
use Rattle.machine.specs.Maps.{domain_of}

-- a tag stays right while the tree stays
pub resolved-same : (old new : World) (task cpu : ℕ) (tag : Tag) → new.tree ≡ old.tree → IsResolved old task cpu tag → IsResolved new task cpu tag
resolved-same old new task cpu tag same is = record {
  epoch = is.epoch ∙ ap (λ (x : TreeValue). x.epoch) (sym same);
  owner = is.owner ∙ ap (λ (x : TreeValue). (resolve x.machine x.state task cpu).owner) (sym same);
  class = is.class ∙ ap (λ (x : TreeValue). (resolve x.machine x.state task cpu).class) (sym same);
  rmid = is.rmid ∙ ap (λ (x : TreeValue). (resolve x.machine x.state task cpu).rmid) (sym same);
  mask = is.mask ∙ ap (λ (x : TreeValue). (resolve x.machine x.state task cpu).mask) (sym same);
  domain = is.domain ∙ ap (λ (x : TreeValue). domain_of x.machine cpu) (sym same);
}

module _ (script : ScriptValue) (t n addr : ℕ) (tag : Tag) (old : World) (world : IsWorldOf script old) (can : CanPass script old t n addr tag) where
  -- the thread with its tag
  abbrev thread_tagged : Thread
  thread_tagged = record { next = n; state = Tagged tag }

  -- the world between the two steps
  abbrev between : World
  between = record old { threads = record old.threads { items = set old.threads.items t thread_tagged; ok = (old.threads.ok.0 ∙ sym (length-set old.threads.items t thread_tagged), old.threads.ok.1) } }

  its : IsWorldOf script between × HasTagged script t tag.epoch (ops.Access can.task can.cpu addr) (machine_of old) (machine_of between)
  its =
      tagged script t n can.task can.cpu addr tag old between world can.next can.number can.place can.free can.reads
      (record { tree = refl; commands = refl; lists = refl; closing = refl; phase = refl; threads = refl }) refl refl

  world-between : IsWorldOf script between
  world-between = its.0

  within : t < length old.threads.items
  within = within-next script old t (ops.Access can.task can.cpu addr) world can.next

  there-between : thread_at (machine_of between) t ≡ thread_tagged
  there-between = get_or-set_same old.threads.items t thread_tagged opening_thread within

  number-between : n ≡ (thread_at (machine_of between) t).next
  number-between = sym (ap (λ (v : Thread). v.next) there-between)

  next-between : HasNext script (machine_of between) t (ops.Access can.task can.cpu addr)
  next-between = record {
    present = can.next.present;
    is = subst (λ k. op_at script t k ≡ Some (ops.Access can.task can.cpu addr)) (sym can.number ∙ number-between) can.next.is;
  }

  place-between : (thread_at (machine_of between) t).state ≡ Tagged tag
  place-between = ap (λ (v : Thread). v.state) there-between

  -- its domain is there
  pub domain-between : tag.domain < script.machine.domains
  domain-between = domain-there script t can.task can.cpu addr tag between world-between next-between place-between

  -- the slice of its line has what it needs
  pub reach-between : (i : ℕ) (s : SliceValue) → i < length old.slices.items → i ≡ slice_of_line script.machine tag.domain (line_of addr) → s ≡ get_or old.slices.items i s → CanReach s tag (line_of addr)
  reach-between = can-reach script t can.task can.cpu addr tag between world-between next-between place-between

  -- the tag is not stale
  fresh : (i floor : ℕ) (s : SliceValue) → i < length old.slices.items → floor ≡ (get_or old.slices.items i s).cache.floor → tag.epoch < floor → ⊥
  fresh i floor s there is below =
      let list = slice_at-journals (machine_of old).journals.tree old.slices.items i s there in
      let most = floor_free script (machine_of old) i can.free world.so_far in
      omega (arith, below, is, (world.slices.caches i s there).stands.floor, ap floor_of list, most, can.reads.epoch, world.tree.epoch)

  pub passed : (new : World) (i line : ℕ) (s : SliceValue) (result : Touched) → line ≡ line_of addr → i ≡ slice_of_line script.machine tag.domain (line_of addr) → i < length old.slices.items
      → IsQuiet t (record { next = n + 1; state = Ready }) old new → new.slices.items ≡ set old.slices.items i s → new.holder ≡ old.holder → new.work ≡ old.work
      → TouchesLine t n tag line (get_or old.slices.items i s) s result → IsWorldOf script new × HasPassed script t n old new
  passed new i line s result line_is slice there quiet slices holder work touches =
      let now : Thread = record { next = n + 1; state = Ready } in
      let op = ops.Access can.task can.cpu addr in
      let still : IsQuiet t now between new = record {
        tree = quiet.tree;
        commands = quiet.commands;
        lists = quiet.lists;
        closing = quiet.closing;
        phase = quiet.phase;
        threads = quiet.threads ∙ sym (set-set old.threads.items t thread_tagged now);
      } in
      let does =
      touched script t can.task can.cpu addr tag between world-between next-between place-between new n i line s result number-between line_is slice there still slices holder work
      (λ floor is. let told : TouchesLine t n tag line (get_or old.slices.items i s) s (Stale floor) = subst (λ x. TouchesLine t n tag line (get_or old.slices.items i s) s x) is touches in fresh i floor s there told.1 told.2) touches in (
        does.0,
        record {
          steps = (
            machine_of between,
            answers-steps script t (machine_of old) (machine_of between) (Did (actions.Tagged tag.epoch)) (op, can.next, its.1),
            (machine_of new, answers-steps script t (machine_of between) (machine_of new) (Did (actions.Touched result)) (op, next-between, does.1), refl),
          );
          there = ap (λ ts. get_or ts t opening_thread) quiet.threads ∙ get_or-set_same old.threads.items t now opening_thread within;
          tree = quiet.tree;
          holder = holder;
          phase = quiet.phase;
        },
      )
