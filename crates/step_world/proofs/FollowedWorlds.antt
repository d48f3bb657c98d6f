-- One entry follows a command of a world that was decided.
use Rattle.std.proofs.Common.{◌≡◌, ◌≢◌, ℕ, ◌+◌, ◌<◌, ◌≤◌, inl, inr, List, length, map, take, get_or, set, All, Some, sym, ap, ◌∙◌, subst, arith}
use Rattle.std.specs.Prelude.{slice_get, sum_by, vec_capacity}
use Rattle.std.proofs.lemmas.Bool.{cases_lt}
use Rattle.std.proofs.lemmas.List.{get_or_default, take_all}
use Rattle.std.proofs.lemmas.List.Sums.{sum_by-take-le}
use Rattle.std.proofs.lemmas.Option.{slice_get-get_or, same_Some, none-some}
use Rattle.arrayvec.specs.ArrayVec.{ArrayVec}
use Rattle.rc_base.specs.Buffers.{Looks}
use Rattle.run_law.specs.Entries.{entry_value}
use Rattle.run_law.specs.Jobs.{jobs_of, looks_of}
use Rattle.run_law.specs.Owed.{what_of}
use Rattle.run_law.specs.Targets.{slice_for, slices_for}
use Rattle.run_law.specs.TreeHistory.{TreeEntryValue}
use Rattle.script_ops.specs.Values.{ScriptValue, op_at}
use Rattle.script_ops.specs.declared.op.Op.{Op}
use Rattle.run_law.proofs.laws.FollowCounts.{some-slices, sum-next}
use Rattle.step_world.proofs.KeptWorlds.{AreInPlay-set, IsWorldOf-step, Leaves, moves-leaves, notes-grows}
use Rattle.step_world.proofs.laws.MachineStates.{holder_off, holder_on, place_behind-ready, place_behind-following}
use Rattle.step_world.proofs.laws.StepRows.{step_follows}
use Rattle.step_world.proofs.TakenWorlds.{within-next}
use Rattle.step_world.specs.Answers.{HasDone, HasNext}
use Rattle.run_law.specs.LookLists.{AreReady}
use Rattle.step_world.specs.Machine.{Follows, Moves, Notes, Steps, holder_behind, place_behind, thread_at}
use Rattle.step_world.specs.Slices.{FollowsUp, SliceValue}
use Rattle.step_world.specs.Works.{FollowsOn, Settles}
use Rattle.step_world.specs.Worlds.{AreInPlay, HasLists, IsFollowing, IsTreeOf, IsWorldOf, machine_of, rooms_from}
use Rattle.step_world.specs.declared.thread_state.ThreadState.TheVariants.{Following, Ready}
use Rattle.step_world.specs.declared.thread_state.Thread.{Thread}
use Rattle.step_world.specs.declared.world.World.{World}
use Rattle.tree_core.specs.Follows.{IsReady}
use Rattle.tree_law.specs.Steps.{follow_domain}
use Rattle.tree_law.specs.declared.follow.Follow.{Follow}
use Rattle.step_world.proofs.FollowingWorlds.{following, held, job, job-there, jobs-all}

module _ (script : ScriptValue) (t made : ℕ) (op : Op) (w : World) (world : IsWorldOf script w) (nexts : HasNext script (machine_of w) t op) (place : (thread_at (machine_of w) t).state ≡ Following made) where
  abbrev tree : List TreeEntryValue
  tree = (machine_of w).journals.tree

  abbrev items : List Follow
  items = w.work.after.items

  abbrev summed : List Follow → ℕ
  summed fs = sum_by (slices_for script.machine) fs

  module _ (f : Follow) (is : slice_get items w.work.at ≡ Some f) where
    module _ (n i epoch slices : ℕ) (s before : SliceValue) (between new : World) (number : n ≡ (thread_at (machine_of w) t).next) (there : i < length w.slices.items) (slice : i ≡ slice_for script.machine f w.work.slice)
        (was : before ≡ get_or w.slices.items i before) (epoch_is : epoch ≡ w.tree.epoch) (up : FollowsUp t n epoch f before s) (same : slices ≡ slices_for script.machine f) (on : FollowsOn slices w.work between.work)
        (slices_are : between.slices.items ≡ set w.slices.items i s) (tree_is : between.tree ≡ w.tree) (commands : between.commands ≡ w.commands) (lists : between.lists ≡ w.lists) (threads_are : between.threads ≡ w.threads)
        (holder_is : between.holder ≡ w.holder) (phase : between.phase ≡ w.phase) (closing : between.closing ≡ w.closing) (settles : Settles t n (made + 1) between new) where
      abbrev on_items : List Follow
      on_items = between.work.after.items

      items-on : on_items ≡ items
      items-on = ap (λ (a : ArrayVec Follow). a.items) on.after

      -- the entries so far
      number-on : made + 1 ≡ length (looks_of script tree (following script t made op w world nexts place).position op) + (summed (take between.work.at items) + between.work.slice)
      number-on = elim (cases_lt (w.work.slice + 1) slices) [
        | inl within ↦
            let (at, slice_on) = on.within within in
            omega (arith, (following script t made op w world nexts place).number, ap (λ k. summed (take k items)) at, slice_on)
        | inr past ↦
            let (at, slice_on) = on.last past in
            omega (arith, (following script t made op w world nexts place).number, ap (λ k. summed (take k items)) at, sum-next script.machine items w.work.at f is, slice_on, (following script t made op w world nexts place).slice f is, past, same)
      ]

      -- the place among the slices
      slice-on : (g : Follow) → slice_get items between.work.at ≡ Some g → between.work.slice < slices_for script.machine g
      slice-on g there_g = elim (cases_lt (w.work.slice + 1) slices) [
        | inl within ↦
            let (at, slice_on) = on.within within in
            let one : f ≡ g = same_Some f g (sym is ∙ (ap (slice_get items) (sym at) ∙ there_g)) in
            omega (arith, slice_on, within, same, ap (slices_for script.machine) one)
        | inr past ↦ omega (arith, (on.last past).1, some-slices script.machine g world.lawful.in_range.some_slice)
      ]

      slice-end : length items ≤ between.work.at → between.work.slice ≡ 0
      slice-end end = elim (cases_lt (w.work.slice + 1) slices) [
        | inl within ↦ absurd (omega (arith, (on.within within).0, end, (following script t made op w world nexts place).within))
        | inr past ↦ (on.last past).1
      ]

      -- the entry
      commands-now : new.commands.items ≡ w.commands.items
      commands-now = ap (λ cs. cs.items) (settles.commands ∙ commands)

      slices-now : new.slices.items ≡ set w.slices.items i s
      slices-now = ap (λ ss. ss.items) settles.slices ∙ slices_are

      its-up : FollowsUp t n epoch f (get_or w.slices.items i s) s
      its-up = subst (λ x. FollowsUp t n epoch f x s) (was ∙ get_or_default w.slices.items i before s there) up

      notes : Notes script.machine i its-up.entry (machine_of w) (machine_of new)
      notes = notes-grows script w new i its-up.entry s there commands-now slices-now its-up.grows world

      epochs : epoch ≡ (following script t made op w world nexts place).position + 1
      epochs = epoch_is ∙ (world.tree.epoch ∙ (following script t made op w world nexts place).decided)

      leaves : (now : Thread) → new.threads.items ≡ set w.threads.items t now → ((u : ℕ) → u ≢ t → new.holder ≡ Some u → ⊥) → Leaves t now w new
      leaves now threads nobody = record {
        phase = settles.phase ∙ phase;
        threads = threads;
        capacity = ap vec_capacity (settles.commands ∙ commands);
        closing = settles.closing ∙ closing;
        lists_count = ap (λ ls. length ls.items) (settles.lists ∙ lists);
        others = λ u d apart. ap (λ ls. get_or ls.items u d) (settles.lists ∙ lists);
        work = λ u apart other. absurd (nobody u apart other);
      }

      -- the row
      abbrev all : ℕ
      all = length (jobs_of script tree (following script t made op w world nexts place).position op)

      row : (now : Thread) → Moves t now (machine_of w) (machine_of new) → place_behind n (made + 1) all ≡ now → new.holder ≡ holder_behind t (made + 1) all → Follows script t made op (machine_of w) (machine_of new)
      row now moves behind holder = record {
        position = (following script t made op w world nexts place).position;
        last = (following script t made op w world nexts place).decided;
        job = job script t made op w world nexts place f is;
        there = job-there script t made op w world nexts place f is;
        makes = record {
          entry = its-up.entry;
          pays = record { thread = its-up.thread_is; op = its-up.op_is ∙ number; owed = its-up.owed ∙ ap (λ k. record { epoch = k; what = what_of f }) epochs };
          notes = subst (λ k. Notes script.machine k its-up.entry (machine_of w) (machine_of new)) slice notes;
        };
        holder = holder;
        moves = subst (λ k. Moves t (place_behind k (made + 1) all) (machine_of w) (machine_of new)) number (subst (λ v. Moves t v (machine_of w) (machine_of new)) (sym behind) moves);
      }

      tree-now : IsTreeOf script (map entry_value new.commands.items) new.tree
      tree-now = subst (λ cs. IsTreeOf script (map entry_value cs) new.tree) (sym commands-now) (subst (λ x. IsTreeOf script (map entry_value w.commands.items) x) (sym (settles.tree ∙ tree_is)) world.tree)

      play-now : AreInPlay script new.slices.items
      play-now = subst (λ ss. AreInPlay script ss) (sym slices-now) (AreInPlay-set script w.slices.items i its-up.entry s there its-up.grows world.slices)

      lists-now : (d : List Looks) → AreReady (rooms_from script t (n + 1)) (get_or new.lists.items t d)
      lists-now d = subst (λ ls. AreReady (rooms_from script t (n + 1)) (get_or ls.items t d)) (sym (settles.lists ∙ lists))
          (subst (λ k. AreReady (rooms_from script t (k + 1)) (get_or w.lists.items t d)) (sym number)
          (subst (λ p. HasLists script t (thread_at (machine_of w) t).next p (get_or w.lists.items t d)) place (world.lists t d (within-next script w t op world nexts))))

      -- there is more to follow
      goes-on : between.work.at < length items → IsFollowing script (machine_of new).journals.tree (made + 1) op new.work
      goes-on more = subst (λ hs. IsFollowing script hs (made + 1) op new.work) (sym notes.tree) (subst (λ x. IsFollowing script tree (made + 1) op x) (sym settles.work) (record {
        position = (following script t made op w world nexts place).position;
        decided = (following script t made op w world nexts place).decided;
        after = items-on ∙ (following script t made op w world nexts place).after;
        ready = subst (λ fs. All (IsReady script.machine) fs) (sym items-on) (following script t made op w world nexts place).ready;
        domains = subst (λ fs. All (λ g. follow_domain g < script.machine.domains) fs) (sym items-on) (following script t made op w world nexts place).domains;
        within = omega (arith, more, ap length items-on);
        slice = λ g there_g. slice-on g (subst (λ fs. slice_get fs between.work.at ≡ Some g) items-on there_g);
        number = number-on ∙ ap (λ fs. length (looks_of script tree (following script t made op w world nexts place).position op) + (summed (take between.work.at fs) + between.work.slice)) (sym items-on);
        bound = (following script t made op w world nexts place).bound;
      }))

      -- and more entries are to be made
      more-jobs : between.work.at < length items → made + 1 < all
      more-jobs more =
          let g : Follow = get_or items between.work.at f in
          let there_g : slice_get items between.work.at ≡ Some g = slice_get-get_or items between.work.at f more in
          omega (arith, number-on, jobs-all script t made op w world nexts place, slice-on g there_g, sum-next script.machine items between.work.at g there_g, sum_by-take-le (slices_for script.machine) items (between.work.at + 1))

      no-jobs : length items ≤ between.work.at → all ≤ made + 1
      no-jobs end = omega (arith, number-on, jobs-all script t made op w world nexts place, ap summed (take_all between.work.at items end), slice-end end)

      -- it has followed
      pub followed : IsWorldOf script new × HasDone script t op (machine_of w) (machine_of new)
      followed = elim (cases_lt between.work.at (length items)) [
        | inl more ↦
            let now : Thread = record { next = n; state = Following (made + 1) } in
            let (holder, threads) = settles.goes (omega (arith, more, ap length items-on)) in
            let mine : new.holder ≡ Some t = holder ∙ (holder_is ∙ held script t made op w world nexts place) in
            let kept : Leaves t now w new = leaves now (threads ∙ ap (λ ts. set ts.items t now) threads_are) (λ u apart other. apart (same_Some u t (sym other ∙ mine))) in
            let moves : Moves t now (machine_of w) (machine_of new) = moves-leaves t now w new (within-next script w t op world nexts) kept in
            let follows : Follows script t made op (machine_of w) (machine_of new) = row now moves (place_behind-following n (made + 1) all (more-jobs more)) (mine ∙ sym (holder_on t (made + 1) all (more-jobs more))) in
            let step : Steps script t (machine_of w) (machine_of new) = step_follows script t made op (machine_of w) (machine_of new) nexts.present nexts.is place follows in (
              IsWorldOf-step script w new t now world (within-next script w t op world nexts) step kept tree-now play-now (λ d. lists-now d)
                  (λ other d held_by there_op. subst (λ c. IsFollowing script (machine_of new).journals.tree (made + 1) c new.work) (same_Some op other (sym nexts.is ∙ subst (λ k. op_at script t k ≡ Some other) number there_op)) (goes-on more)),
              record { made = made; place = place; row = follows },
            )
        | inr none ↦
            let now : Thread = record { next = n + 1; state = Ready } in
            let (holder, threads) = settles.ends (omega (arith, none, ap length items-on)) in
            let kept : Leaves t now w new = leaves now (threads ∙ ap (λ ts. set ts.items t now) threads_are) (λ u apart other. none-some u (sym holder ∙ other)) in
            let moves : Moves t now (machine_of w) (machine_of new) = moves-leaves t now w new (within-next script w t op world nexts) kept in
            let follows : Follows script t made op (machine_of w) (machine_of new) = row now moves (place_behind-ready n (made + 1) all (no-jobs none)) (holder ∙ sym (holder_off t (made + 1) all (no-jobs none))) in
            let step : Steps script t (machine_of w) (machine_of new) = step_follows script t made op (machine_of w) (machine_of new) nexts.present nexts.is place follows in (
              IsWorldOf-step script w new t now world (within-next script w t op world nexts) step kept tree-now play-now (λ d. lists-now d) (λ other d held_by there_op. tt),
              record { made = made; place = place; row = follows },
            )
      ]
