-- A command of a world that has made all its looks: its counts.
use Rattle.std.proofs.Common.{◌≡◌, ℕ, ◌+◌, ◌*◌, ◌≤◌, List, [], ◌∷◌, ◌++◌, length, Some, sym, ap, ◌∙◌, subst, arith}
use Rattle.std.specs.Prelude.{IsTrue}
use Rattle.std.proofs.lemmas.List.{same_from_push}
use Rattle.rc_base.specs.Buffers.{Looks}
use Rattle.run_law.proofs.laws.FollowCounts.{length-looks}
use Rattle.run_law.specs.Jobs.{looks_of}
use Rattle.run_law.specs.Ops.{is_command}
use Rattle.run_law.specs.Progress.{Progress}
use Rattle.run_law.specs.TreeHistory.{TreeEntryValue, tree_after}
use Rattle.script_ops.specs.Values.{ScriptValue, op_at}
use Rattle.script_ops.specs.declared.op.Op.{Op}
use Rattle.step_world.proofs.laws.AccessSteps.{some_can_be}
use Rattle.step_world.proofs.LookingWorlds.{held, made-is}
use Rattle.step_world.specs.Answers.{HasNext}
use Rattle.run_law.specs.LookLists.{AreReady}
use Rattle.step_world.specs.Machine.{thread_at}
use Rattle.step_world.specs.Moments.{progress_by, progress_in}
use Rattle.step_world.specs.Worlds.{IsLookingAt, IsWorldOf, machine_of, rooms_from}
use Rattle.step_world.specs.declared.thread_state.ThreadState.TheVariants.{Looking}
use Rattle.step_world.specs.declared.world.World.{World}
use Rattle.tree_law.specs.Steps.{needs}

module _ (script : ScriptValue) (t made : ℕ) (op : Op) (w : World) (world : IsWorldOf script w) (nexts : HasNext script (machine_of w) t op) (place : (thread_at (machine_of w) t).state ≡ Looking made) where
  abbrev tree : List TreeEntryValue
  tree = (machine_of w).journals.tree

  abbrev now_needs : List (ℕ × ℕ)
  now_needs = needs script.machine (tree_after script tree) op

  -- it is a command
  pub commanded : IsTrue (is_command op)
  commanded =
      let (all, can) = some_can_be (machine_of w) w.holder in
      let at : progress_in (machine_of w) t ≡ progress_by (thread_at (machine_of w) t).next (Looking made) = ap (progress_by (thread_at (machine_of w) t).next) place in
      (world.so_far.kept all can).in_order.commands_hold t op (subst (λ (p : Progress). op_at script t p.next ≡ Some op) (sym at) nexts.is) ((world.so_far.held t).1 (held script t made op w world nexts place))

  module _ (lists : List Looks) (its : IsLookingAt script (machine_of w) t op lists w.work) (done : w.work.count ≤ w.work.at) where
    -- all counts are there
    pub counts-all : w.work.at ≡ length now_needs
    counts-all = omega (arith, done, its.number, its.within)

    pub numbers-all : length its.numbers ≡ length now_needs
    numbers-all = its.count ∙ counts-all

    -- all looks are made
    pub found-all : length its.found ≡ length now_needs * script.machine.slices
    found-all =
        let product : w.work.at * script.machine.slices ≡ length now_needs * script.machine.slices = ap (λ k. k * script.machine.slices) counts-all in
        omega (arith, its.made, product, its.last counts-all)

    pub looks-all : length (looks_of script tree (length tree) op) ≡ made
    looks-all = length-looks script tree op ∙ (sym found-all ∙ sym (made-is script t made op w world nexts place lists its))

    -- the list that is taken has its counts, and those that stay are those of the commands behind it
    pub list-parts : (got : List Looks) (taken : Looks) → lists ≡ got ++ taken ∷ [] → (taken.numbers ≡ its.numbers) × AreReady (rooms_from script t ((thread_at (machine_of w) t).next + 1)) got
    list-parts got taken is =
        let (fronts, lasts) = same_from_push got its.list.front taken its.list.last (sym is ∙ its.list.is) in
        (ap (λ (l : Looks). l.numbers) lasts ∙ its.list.numbers_are, subst (λ ls. AreReady (rooms_from script t ((thread_at (machine_of w) t).next + 1)) ls) (sym fronts) its.list.ready)
